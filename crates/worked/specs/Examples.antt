-- What an example of the list of worked plans says.
use Rattle.std.specs.Prelude.{◌≡◌, ℕ, Bool, false, ◌||◌, List, [], ◌∷◌, map, reverse, Option, ◌==◌}
use Rattle.std.specs.List.{range_with_len}
use Rattle.books.specs.Listing.{Listing, plan}
use Rattle.books.specs.Measures.{diameter, distance, equal, in_depth, out_depth, radius}
use Rattle.books.specs.Plan.{Plan}
use Rattle.logs.specs.declared.span.Span.{Span}
use Rattle.logs.specs.History.{leaving}
use Rattle.logs.specs.Opening.{Accepted, Refused}
use Rattle.rows.specs.Rules.{Broken, Kept}

-- the plan with n closures and the spans, the oldest first, as a log of them is read
abbrev pub planned : ℕ → List Span → Plan
planned n spans = plan (record { size = n; slots = leaving (reverse spans) })

-- n closures and the spans, the oldest first, as a log of them lists them
abbrev pub listed_as : ℕ → List Span → Listing
listed_as n spans = record { size = n; slots = leaving (reverse spans) }

-- the closures that are marked
abbrev pub marked : List ℕ → ℕ → Bool
marked [] u = false
marked (s ∷ sites) u = s == u || marked sites u

pub data Example : Type 0 where
  -- the out-depths and the in-depths of a plan, by closure, and its diameter
  depths : Plan → List ℕ → List ℕ → ℕ → Example
  -- the distances from a closure to each
  distances : Plan → ℕ → List (Option ℕ) → Example
  -- the radius over the sites, where there is one
  radii : Plan → List ℕ → Option ℕ → Example
  -- the slots of each closure
  slots : Listing → List (List (Option ℕ)) → Example
  -- whether two plans are equal
  compares : Plan → Plan → Bool → Example
  -- bytes are the log of n closures and the spans, the oldest first
  opens : List ℕ → ℕ → List Span → Example
  -- bytes are refused by a number at a place
  declines : List ℕ → ℕ → ℕ → Example
  -- four slices are rows of n closures: outgoing starts and ends, incoming starts and ends
  takes : ℕ → List ℕ → List ℕ → List ℕ → List ℕ → Example
  -- they break a rule
  breaks : List ℕ → List ℕ → List ℕ → List ℕ → Example

abbrev pub Holds : Example → Type 0
Holds (depths p out into d) =
    (map (out_depth p) (range_with_len 0 p.size) ≡ out) × (map (in_depth p) (range_with_len 0 p.size) ≡ into) × (diameter p ≡ d)
Holds (distances p u ds) = map (distance p u) (range_with_len 0 p.size) ≡ ds
Holds (radii p sites r) = radius p (marked sites) ≡ r
Holds (slots l lists) = map l.slots (range_with_len 0 l.size) ≡ lists
Holds (compares p q same) = equal p q ≡ same
Holds (opens bytes n spans) = Accepted bytes n (reverse spans)
Holds (declines bytes number place) = Refused bytes number place
Holds (takes n out_starts out_ends in_starts in_ends) = Kept n out_starts out_ends in_starts in_ends
Holds (breaks out_starts out_ends in_starts in_ends) = Broken out_starts out_ends in_starts in_ends

-- every example of a list holds
abbrev pub All : List Example → Type 0
All [] = Unit {0}
All (example ∷ examples) = Holds example × All examples
