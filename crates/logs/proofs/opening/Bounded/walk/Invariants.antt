use Rattle.logs.specs.Words.{word}
use Rattle.logs.proofs.Walks.{Walking}
use Rattle.logs.proofs.opening.Bounded.walk.Given as goal

abbrev pub invariant-loop-j : goal.invariant-loop-j
invariant-loop-j l = Walking l.bytes l.header.n l.header.m l.side l.u l.place l.count

abbrev pub decreases-loop-j : goal.decreases-loop-j
decreases-loop-j l = word l.bytes l.place
