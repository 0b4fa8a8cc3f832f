-- The worked plans.
use Rattle.std.specs.Prelude.{ℕ, true, false, List, [], ◌∷◌, Some, None}
use Rattle.books.specs.Listing.{Listing}
use Rattle.books.specs.Plan.{Plan, turned, without}
use Rattle.layers.specs.Layers.{thinned}
use Rattle.logs.specs.declared.span.Span.{Span}
use Rattle.worked.specs.Examples.{All, Example, breaks, compares, declines, depths, distances, listed_as, marked, opens, planned, radii, slots, takes}

abbrev to : ℕ → ℕ → Span
to u v = record { from = u; to = v }

-- 0→1→2→3
abbrev line : Plan
line = planned 4 (to 0 1 ∷ to 1 2 ∷ to 2 3 ∷ [])

-- 0→1, 0→2, 2→3, 3→4
abbrev fork : Plan
fork = planned 5 (to 0 1 ∷ to 0 2 ∷ to 2 3 ∷ to 3 4 ∷ [])

-- 0→1→2→0 and 2→3
abbrev ring : Plan
ring = planned 4 (to 0 1 ∷ to 1 2 ∷ to 2 0 ∷ to 2 3 ∷ [])

-- the same as a log lists it
abbrev ring_listing : Listing
ring_listing = listed_as 4 (to 0 1 ∷ to 1 2 ∷ to 2 0 ∷ to 2 3 ∷ [])

-- the same with closure 2 shut
abbrev ring_shut : Plan
ring_shut = without (marked (2 ∷ [])) ring

-- 0→1, 1→2 and 0→2, where a depth-first walk finds 2 too late
abbrev shortcut : Plan
shortcut = planned 3 (to 0 1 ∷ to 1 2 ∷ to 0 2 ∷ [])

-- the same plan in another order, with a parallel span
abbrev doubled : Plan
doubled = planned 3 (to 0 2 ∷ to 0 1 ∷ to 1 2 ∷ to 0 1 ∷ [])

-- the bytes of the log with 2 closures and the span 0→1, but for byte 4 and byte 12
abbrev pub one_span : ℕ → ℕ → List ℕ
one_span head from =
    2 ∷ 0 ∷ 1 ∷ 0 ∷ head ∷ 0 ∷ 0 ∷ 0 ∷ 0 ∷ 0 ∷ 1 ∷ 0 ∷ from ∷ 0 ∷ 1 ∷ 0 ∷ 0 ∷ 0 ∷ 0 ∷ 0 ∷ []

-- 2 closures without heads and 2 records, the second with links that no walk meets
abbrev pub unmet : List ℕ
unmet =
    2 ∷ 0 ∷ 2 ∷ 0 ∷ 0 ∷ 0 ∷ 0 ∷ 0 ∷ 0 ∷ 0 ∷ 0 ∷ 0 ∷ 0 ∷ 0 ∷ 0 ∷ 0 ∷ 0 ∷ 0 ∷ 0 ∷ 0 ∷ 0 ∷ 0 ∷ 1 ∷ 0 ∷ 0 ∷ 0 ∷ 1 ∷ 0 ∷ []

abbrev pub worked : List Example
worked =
    depths line (3 ∷ 2 ∷ 1 ∷ 0 ∷ []) (0 ∷ 1 ∷ 2 ∷ 3 ∷ []) 3
    ∷ depths fork (3 ∷ 0 ∷ 2 ∷ 1 ∷ 0 ∷ []) (0 ∷ 1 ∷ 1 ∷ 2 ∷ 3 ∷ []) 3
    ∷ depths ring (3 ∷ 2 ∷ 2 ∷ 0 ∷ []) (2 ∷ 2 ∷ 2 ∷ 3 ∷ []) 3
    ∷ depths (turned ring) (2 ∷ 2 ∷ 2 ∷ 3 ∷ []) (3 ∷ 2 ∷ 2 ∷ 0 ∷ []) 3
    ∷ depths ring_shut (1 ∷ 0 ∷ 0 ∷ 0 ∷ []) (0 ∷ 1 ∷ 0 ∷ 0 ∷ []) 1
    ∷ radii ring_shut (2 ∷ []) (Some 0)
    ∷ slots (thinned (marked (2 ∷ [])) ring_listing) ((Some 1 ∷ []) ∷ (None ∷ []) ∷ (None ∷ None ∷ []) ∷ [] ∷ [])
    ∷ distances shortcut 0 (Some 0 ∷ Some 1 ∷ Some 1 ∷ [])
    ∷ distances shortcut 1 (None ∷ Some 0 ∷ Some 1 ∷ [])
    ∷ radii line (0 ∷ 1 ∷ []) (Some 2)
    ∷ radii line [] None
    ∷ compares shortcut doubled true
    ∷ compares shortcut line false
    ∷ opens (one_span 1 0) 2 (to 0 1 ∷ [])
    ∷ declines (one_span 2 0) 5 4
    ∷ declines (one_span 0 0) 7 12
    ∷ declines (one_span 1 1) 6 4
    ∷ declines unmet 7 12
    ∷ takes 1 (0 ∷ 2 ∷ []) (0 ∷ 0 ∷ []) (0 ∷ 1 ∷ []) (0 ∷ [])
    ∷ breaks (0 ∷ 1 ∷ 1 ∷ []) (1 ∷ []) (0 ∷ 0 ∷ 0 ∷ []) []
    ∷ []

abbrev pub WorkedPlans : Type 0
WorkedPlans = All worked
