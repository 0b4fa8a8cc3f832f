-- What holds while the spans of one closure are read.
use Rattle.std.proofs.Common.{◌≡◌, ℕ, ◌+◌, ◌<◌, ◌≤◌, List, Some, Option}
use Rattle.books.specs.Plan.{Plan}
use Rattle.books.specs.Listing.{slot}
use Rattle.visits.specs.declared.search.Search.{Search}
use Rattle.visits.specs.Going.{Going, far, found, place}

-- the first k slots of u, which stands at place `head`, have been read; d is one more than its distance, z the start
pub record Looking (p : Plan) (ss : List (Option ℕ)) (k head u d z : ℕ) (s : Search) : Type 0 where
  pub going : Going p head s
  pub early : head < found s
  pub here : place s head ≡ u
  pub next : d ≡ far s u + 1
  pub zero : place s 0 ≡ z
  pub seen : (i v : ℕ) → i < k → slot ss i ≡ Some v → far s v ≤ d
