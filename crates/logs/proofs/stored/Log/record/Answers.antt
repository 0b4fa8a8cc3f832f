use Rattle.std.proofs.Common.{◌≡◌, suc, reverse, inl, refl, sym, ap, ◌∙◌, arith, rules}
use Rattle.std.proofs.lemmas.List.{reverse-reverse}
use Rattle.books.proofs.Laid.{copied_item}
use Rattle.std.specs.List.{slice_get}
use Rattle.logs.specs.History.{recorded}
use Rattle.logs.specs.Showing.{recorded_none, recorded_some}
use Rattle.logs.proofs.stored.Log.record.Goals as goal

pub returns-in_err-checked_sub : goal.returns-in_err-checked_sub
returns-in_err-checked_sub c =
    let zero : c.args.number ≡ 0 = omega arith in
    let none = recorded_none (reverse c.args.self.now.spans.items) 0 (inl refl) in
    rw zero (search (rules, none))

pub returns : goal.returns
returns c =
    let items = c.args.self.now.spans.items in
    let at : c.args.number ≡ suc c.from-at.result = omega arith in
    let found : c.copied.result ≡ slice_get c.args.self.now.spans.items c.from-at.result = c.copied.ensures ∙ copied_item _ _ _ c.get.ensures.lookup ∙ ap (λ xs. slice_get xs c.from-at.result) c.deref.ensures.0 in
    found
    ∙ ap (λ xs. slice_get xs c.from-at.result) (sym (reverse-reverse items))
    ∙ sym (recorded_some (reverse items) c.from-at.result)
    ∙ ap (recorded (reverse items)) (sym at)
