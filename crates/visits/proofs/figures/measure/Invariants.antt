use Rattle.books.specs.Listing.{plan}
use Rattle.visits.specs.Figured.{Sofar}
use Rattle.visits.proofs.figures.measure.Given as goal

abbrev pub invariant-loop-u : goal.invariant-loop-u
invariant-loop-u g l = Sofar (plan (g.B.Outward.outgoing l.book)) l.u l.figures
