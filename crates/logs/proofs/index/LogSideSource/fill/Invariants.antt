use Rattle.books.specs.Adjacent.{Beside, Lacking}
use Rattle.logs.specs.History.{slots_on}
use Rattle.logs.specs.Opening.{spans_at}
use Rattle.logs.specs.Words.{word}
use Rattle.logs.proofs.Following.{Following, rest}
use Rattle.logs.proofs.index.LogSideSource.fill.Given as goal

-- the link at the place is one of the chain, and the lists lack what follows it
abbrev pub invariant-loop-j : goal.invariant-loop-j
invariant-loop-j l =
    let row = slots_on l.self.side (spans_at l.bytes l.header.n l.header.m) in
    Following l.bytes l.header.n l.header.m l.self.side l.u l.place
    × Beside l.initial.lists l.lists
    × (Lacking row l.u (row l.u) l.initial.lists → Lacking row l.u (rest l.bytes l.header.n l.header.m l.self.side l.u l.place) l.lists)

abbrev pub decreases-loop-j : goal.decreases-loop-j
decreases-loop-j l = word l.bytes l.place
