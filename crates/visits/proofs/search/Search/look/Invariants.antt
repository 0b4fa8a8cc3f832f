use Rattle.books.specs.Listing.{plan}
use Rattle.visits.specs.Going.{place}
use Rattle.visits.proofs.Looking.{Looking}
use Rattle.visits.proofs.search.Search.look.Given as goal

abbrev pub invariant-loop-k : goal.invariant-loop-k
invariant-loop-k g l =
    Looking (plan (g.S.Spans.listing l.spans)) ((g.S.Spans.listing l.spans).slots l.u) l.k l.head l.u l.d (place l.initial.self 0) l.self
