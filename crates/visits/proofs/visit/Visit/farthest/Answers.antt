use Rattle.std.proofs.Common.{Some, None, eqb, get_or, sym, ap, ◌∙◌, arith}
use Rattle.std.proofs.lemmas.Bool.{eq-eqb}
use Rattle.visits.proofs.Told.{lowest}
use Rattle.visits.proofs.visit.Visit.farthest.Goals as goal

pub returns-then-self-from : goal.returns-then-self-from
returns-then-self-from c =
    let x = c.args.self.now in
    lowest 1024 (λ v. eqb (get_or x.distances v 0) x.depth) (Some c.loop-v.v) (omega arith, omega arith, eq-eqb _ _ (ap (λ v. get_or x.distances v 0) (sym c.from.ensures) ∙ c.if-self-from.true), λ k _ h. c.loop-v.invariant k h)

pub returns : goal.returns
returns c =
    let x = c.args.self.now in
    lowest 1024 (λ v. eqb (get_or x.distances v 0) x.depth) None (λ k _ h. c.loop-v.invariant k (omega arith))
