use Rattle.std.proofs.Common.{◌≡◌, ◌-◌}
use Rattle.books.specs.Listing.{plan}
use Rattle.visits.specs.Going.{Going, place}
use Rattle.visits.proofs.search.visit.Given as goal

abbrev pub invariant-loop-head : goal.invariant-loop-head
invariant-loop-head g l =
    record { going : Going (plan (g.S.Spans.listing l.spans)) l.head l.search; start : place l.search 0 ≡ l.start }

abbrev pub decreases-loop-head : goal.decreases-loop-head
decreases-loop-head g l = 1024 - l.head
