-- The measures of a whole plan, in the words of chains.
use Rattle.std.specs.Prelude.{◌≡◌, ℕ, ◌<◌, ◌≤◌, length, slice_index_or}
use Rattle.books.specs.Plan.{Plan, Distance, Diameter, InDepth, OutDepth}
use Rattle.visits.specs.declared.figures.Depths.{Depths}
use Rattle.visits.specs.declared.figures.Figures.{Figures}
use Rattle.visits.specs.declared.figures.LongestRun.{LongestRun}

-- the depths of a closure that is not measured, and those noted of closure u
abbrev pub unmeasured : Depths
unmeasured = record { out = 0; into = 0 }

abbrev pub depths_of : Figures → ℕ → Depths
depths_of f u = slice_index_or f.depths u unmeasured

-- a longest run: its length is the diameter, its first closure is the lowest from which a run is so long, and its last the lowest to which one is from there
pub record Longest (p : Plan) (r : LongestRun) : Type 0 where
  pub diameter : Diameter p r.length
  pub apart : Distance p r.from r.to r.length
  pub lowest_from : (u v : ℕ) → u < r.from → Distance p u v r.length → ⊥
  pub lowest_to : (v : ℕ) → v < r.to → Distance p r.from v r.length → ⊥

-- all measures; a number that is no closure has 0
pub record Figured (p : Plan) (f : Figures) : Type 0 where
  pub out_depth : (u : ℕ) → u < p.size → OutDepth p u (depths_of f u).out
  pub in_depth : (u : ℕ) → u < p.size → InDepth p u (depths_of f u).into
  pub outside : (u : ℕ) → p.size ≤ u → depths_of f u ≡ unmeasured
  pub longest : Longest p f.longest

-- the same of the closures below n alone, while the others are yet to be visited
pub record Sofar (p : Plan) (n : ℕ) (f : Figures) : Type 0 where
  pub long : length f.depths ≡ 1024
  pub depths : (u : ℕ) → u < n → OutDepth p u (depths_of f u).out × InDepth p u (depths_of f u).into
  pub outside : (u : ℕ) → n ≤ u → depths_of f u ≡ unmeasured
  pub inside : f.longest.from < p.size
  pub apart : Distance p f.longest.from f.longest.to f.longest.length
  pub over : (u v d : ℕ) → u < n → Distance p u v d → d ≤ f.longest.length
  pub lowest_from : (u v : ℕ) → u < f.longest.from → Distance p u v f.longest.length → ⊥
  pub lowest_to : (v : ℕ) → v < f.longest.to → Distance p f.longest.from v f.longest.length → ⊥
