-- What is proved of the computed measures: they are what the subject's words mean, in every plan with closures.
use Rattle.std.specs.Prelude.{◌≡◌, ℕ, ◌<◌, Bool, T, ◌↔◌, Some, None}
use Rattle.books.specs.Plan.{Plan, Closed, Same, Reach, Distance, OutDepth, InDepth, Diameter, Radius}
use Rattle.books.specs.Listing.{Listing, Sound, plan}
use Rattle.books.specs.Measures.{distance, out_depth, in_depth, diameter, radius, reaches, equal}

pub record Measured (p : Plan) : Type 0 where
  -- the distance is the least length of a chain, and there is none exactly where no chain goes
  pub distance_is : (u v d : ℕ) → (distance p u v ≡ Some d) ↔ Distance p u v d
  pub no_distance : (u v : ℕ) → (distance p u v ≡ None) ↔ (Reach p u v → ⊥)
  pub reach_is : (u v : ℕ) → T (reaches p u v) ↔ Reach p u v
  -- a depth is attained, and no distance is greater
  pub out_depth_is : (u : ℕ) → u < p.size → OutDepth p u (out_depth p u)
  pub in_depth_is : (u : ℕ) → u < p.size → InDepth p u (in_depth p u)
  pub diameter_is : Diameter p (diameter p)
  -- the radius is attained by a site, and no site has less; there is none exactly where no closure is marked
  pub radius_is : (site : ℕ → Bool) (d : ℕ) → (radius p site ≡ Some d) ↔ Radius p site d
  pub no_radius : (site : ℕ → Bool) → (radius p site ≡ None) ↔ ((u : ℕ) → u < p.size → T (site u) → ⊥)
  -- the test of equality finds equal plans
  pub equal_is : (q : Plan) → Closed q → T (equal p q) ↔ Same p q

abbrev pub MeasuresRight : Type 0
MeasuresRight = (p : Plan) → Closed p → 0 < p.size → Measured p

-- the plan of every book is such a plan
abbrev pub BooksClosed : Type 0
BooksClosed = (limit : ℕ) (l : Listing) → Sound limit l → Closed (plan l) × (0 < (plan l).size)
