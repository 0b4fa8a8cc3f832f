use Rattle.std.proofs.Common.{◌≡◌, ℕ, ◌+◌, ◌*◌, ◌<◌, ◌⊎◌, get_or, sym, ap, ◌∙◌, inl, inr, arith}
use Rattle.std.proofs.lemmas.Result.{err_from_is_err_and}
use Rattle.logs.specs.Opening.{heading}
use Rattle.logs.proofs.Verdicts.{by_range, by_leaving, by_arriving, by_lost, by_whole, whole_at}
use Rattle.logs.proofs.opening.Tested.judge.Goals as goal
use Rattle.logs.proofs.opening.Tested.judge.Goals.{then-leaving-m-via-then-leaving-m, then-leaving-m-via-else-leaving-m+then-arriving-m}

pub returns-in_err-read_header-clause-verdict : goal.returns-in_err-read_header-clause-verdict
returns-in_err-read_header-clause-verdict c =
    let p = err_from_is_err_and c.from_residual.result c.from_residual.ensures.1 in
    rw (p.1, p.2) (heading (sym c.in_err-read_header.ensures.answer))

pub returns-in_err-bounded-clause-verdict : goal.returns-in_err-bounded-clause-verdict
returns-in_err-bounded-clause-verdict c =
    let p = err_from_is_err_and c.from_residual-in_err-bounded.result c.from_residual-in_err-bounded.ensures.1 in
    let q = c.in_err-bounded.ensures in
    rw (p.1, p.2, ← c.in_ok-read_header.ensures.same) (by_range c.in_ok-read_header.field-0 _ _ q.0 q.1)

pub returns-in_err-leaving-clause-verdict : goal.returns-in_err-leaving-clause-verdict
returns-in_err-leaving-clause-verdict c =
    let p = err_from_is_err_and c.from_residual-in_err-leaving.result c.from_residual-in_err-leaving.ensures.1 in
    let e = ap (λ l. l.bytes.now) c.in_ok-bounded.ensures ∙ c.in_ok-read_header.ensures.same in
    let q = c.in_err-leaving.ensures in
    rw (p.1, p.2, ← e) (by_leaving c.in_ok-bounded.bounded _ _ q.0 q.1)

pub returns-in_err-arriving-clause-verdict : goal.returns-in_err-arriving-clause-verdict
returns-in_err-arriving-clause-verdict c =
    let p = err_from_is_err_and c.from_residual-in_err-arriving.result c.from_residual-in_err-arriving.ensures.1 in
    let e = ap (λ l. l.bytes.now) c.in_ok-bounded.ensures ∙ c.in_ok-read_header.ensures.same in
    let q = c.in_err-arriving.ensures in
    rw (p.1, p.2, ← e) (by_arriving c.in_ok-bounded.bounded _ _ _ c.in_ok-leaving.ensures q.0 q.1)

pub returns-then-leaving-m-clause-verdict : goal.returns-then-leaving-m-clause-verdict
returns-then-leaving-m-clause-verdict c =
    let e = ap (λ l. l.bytes.now) c.in_ok-bounded.ensures ∙ c.in_ok-read_header.ensures.same in
    let which : (c.in_ok-leaving.leaving ≡ c.in_ok-bounded.bounded.log.header.m → ⊥) ⊎ (c.in_ok-arriving.arriving ≡ c.in_ok-bounded.bounded.log.header.m → ⊥) =
    elim c.then-leaving-m.branch [ then-leaving-m-via-then-leaving-m w ↦ inl (λ f. w.if-leaving-m.true (f ∙ sym c.from-m.ensures)) | then-leaving-m-via-else-leaving-m+then-arriving-m w ↦ inr (λ f. w.if-arriving-m.true (f ∙ sym c.from-m.ensures)) ] in
    let place : c.record_place-place.result ≡ 4 + 4 * c.in_ok-bounded.bounded.log.header.n = omega arith in
    rw (place, ← e) (by_lost c.in_ok-bounded.bounded _ _ c.in_ok-leaving.ensures c.in_ok-arriving.ensures which)

pub invariant_of-result : goal.invariant_of-result
invariant_of-result c =
    let e = ap (λ l. l.bytes.now) c.in_ok-bounded.ensures ∙ c.in_ok-read_header.ensures.same in
    let small : (i : ℕ) → get_or c.in_ok-bounded.bounded.log.bytes.now i 0 < 256 = λ i. rw e (omega (arith, c.type_inv.bytes i)) in
    let a = by_whole c.in_ok-bounded.bounded _ _ small c.in_ok-leaving.ensures c.in_ok-arriving.ensures (c.if-leaving-m.false ∙ c.from-m.ensures) (c.if-arriving-m.false ∙ c.from-m.ensures) in
    record { written = a.written; within = a.inside }

pub returns : goal.returns
returns c =
    let e = ap (λ l. l.bytes.now) c.in_ok-bounded.ensures ∙ c.in_ok-read_header.ensures.same in
    let small : (i : ℕ) → get_or c.in_ok-bounded.bounded.log.bytes.now i 0 < 256 = λ i. rw e (omega (arith, c.type_inv.bytes i)) in
    let a = by_whole c.in_ok-bounded.bounded _ _ small c.in_ok-leaving.ensures c.in_ok-arriving.ensures (c.if-leaving-m.false ∙ c.from-m.ensures) (c.if-arriving-m.false ∙ c.from-m.ensures) in
    let w = whole_at c.in_ok-bounded.bounded _ _ c.in_ok-leaving.ensures c.in_ok-arriving.ensures (c.if-leaving-m.false ∙ c.from-m.ensures) (c.if-arriving-m.false ∙ c.from-m.ensures) in
    let log = c.in_ok-bounded.bounded.log in
    record { same = e; judged = rw (← e) (record { len = log.len; some = log.some; few = log.few; short = log.short; whole = w }); verdict = rw (← e) a }
