use Rattle.std.proofs.Common.{sym, arith}
use Rattle.visits.proofs.Measuring.{attained, kept, raised}
use Rattle.visits.proofs.figures.Figures.note.Goals as goal

pub returns-in-Some : goal.returns-in-Some
returns-in-Some c =
    λ p closed in' few t s o.
    rw c.from.ensures (raised p closed c.args.u in' few c.args.out.now c.args.into.now t s c.args.self.now o c.in-Some.to c.if-out-self.true (sym c.in-Some.ensures))

pub returns-in_default : goal.returns-in_default
returns-in_default c =
    λ p closed in' few t s o.
    absurd (attained p closed c.args.u in' few c.args.out.now c.args.into.now t s c.args.self.now o (sym c.in_default.ensures))

pub returns-else-out-self : goal.returns-else-out-self
returns-else-out-self c =
    λ p closed in' few t s o.
    rw c.from.ensures (kept p closed c.args.u in' few c.args.out.now c.args.into.now t s c.args.self.now o (omega arith))
