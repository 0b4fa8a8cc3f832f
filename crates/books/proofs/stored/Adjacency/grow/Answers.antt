use Rattle.std.proofs.Common.{◌≡◌, ◌-◌, ◌++◌, [], ◌∷◌, length, refl, sym, ap, subst, ◌∙◌, arith}
use Rattle.std.proofs.lemmas.List.{length-append}
use Rattle.std.proofs.lemmas.Bool.{eqb-false}
use Rattle.books.specs.Tables.{Ascends, cut}
use Rattle.books.proofs.Laid.{grown, grown_ascends, grown_last}
use Rattle.books.proofs.stored.Adjacency.grow.Goals as goal

pub invariant_of-self : goal.invariant_of-self
invariant_of-self c =
    let self = c.args.self.now in
    let end = length c.args.self.now.ends.items in
    let is = c.push.ensures.items ∙ ap (λ k. self.starts.items ++ k ∷ []) c.len-end.ensures.value in
    let l = ap length is ∙ length-append self.starts.items (end ∷ []) in
    record {
      few = (omega (arith, self.few.0), omega (arith, self.few.1, eqb-false (length self.starts.items) 1025 (sym c.is_full.ensures.value ∙ c.if-is_full.false)));
      room = self.room;
      ascends = subst (λ xs. Ascends xs (length c.args.self.now.ends.items)) (sym is) (grown_ascends self.starts.items (length self.ends.items) self.ascends);
      last = subst (λ xs. cut xs (length c.args.self.now.ends.items) (length xs - 1) ≡ length c.args.self.now.ends.items) (sym is) (grown_last self.starts.items (length self.ends.items));
    }

pub returns-clause-grows : goal.returns-clause-grows
returns-clause-grows c =
    let self = c.args.self.now in
    grown self _ refl (c.push.ensures.items ∙ ap (λ k. self.starts.items ++ k ∷ []) c.len-end.ensures.value)
