-- A splice plan in the subject's own words: chains, distances, depths, diameter and radius.
use Rattle.std.specs.Prelude.{◌≡◌, ℕ, suc, ◌<◌, ◌≤◌, Bool, not, ◌&&◌, T}

-- A directed graph: closures (vertices) are the numbers below `size`, and `leads u v` says that a span (an arc) goes from u to v.
pub record Plan : Type 0 where
  pub size : ℕ
  pub leads : ℕ → ℕ → Bool

-- each span goes from a closure to a closure
abbrev pub Closed : Plan → Type 0
Closed p = (u v : ℕ) → T (p.leads u v) → (u < p.size) × (v < p.size)

-- equal plans: as many closures, and spans between the same closures
pub record Same (p q : Plan) : Type 0 where
  pub size : p.size ≡ q.size
  pub leads : (u v : ℕ) → p.leads u v ≡ q.leads u v

-- the plan with each span turned round
abbrev pub turned : Plan → Plan
turned p = record { size = p.size; leads = λ u v. p.leads v u }

-- the plan with closures shut: the spans between closures that are open
abbrev pub without : (ℕ → Bool) → Plan → Plan
without shut p = record { size = p.size; leads = λ u v. not (shut u) && not (shut v) && p.leads u v }

-- a chain (a walk) of k spans from u to v
pub data Chain (p : Plan) : ℕ → ℕ → ℕ → Type 0 where
  stay : {u : ℕ} → Chain p u u 0
  step : {u w v k : ℕ} → T (p.leads u w) → Chain p w v k → Chain p u v (suc k)

-- v is within reach of u, and u and v are joined
abbrev pub Reach : Plan → ℕ → ℕ → Type 0
Reach p u v = (k : ℕ) × Chain p u v k

-- the least and the greatest of the numbers that are so
pub record Least (P : ℕ → Type 0) (d : ℕ) : Type 0 where
  pub holds : P d
  pub least : (k : ℕ) → P k → d ≤ k

pub record Greatest (P : ℕ → Type 0) (d : ℕ) : Type 0 where
  pub holds : P d
  pub greatest : (k : ℕ) → P k → k ≤ d

-- the distance from u to v: the least length of a chain
abbrev pub Distance : Plan → ℕ → ℕ → ℕ → Type 0
Distance p u v d = Least (Chain p u v) d

-- the out-depth of u (its forward eccentricity): the greatest distance to a closure within its reach
abbrev pub OutDepth : Plan → ℕ → ℕ → Type 0
OutDepth p u d = Greatest (λ k. (v : ℕ) × Distance p u v k) d

-- the in-depth of u (its backward eccentricity): the greatest distance from a closure that has u within reach
abbrev pub InDepth : Plan → ℕ → ℕ → Type 0
InDepth p u d = Greatest (λ k. (v : ℕ) × Distance p v u k) d

-- the diameter: the greatest out-depth
abbrev pub Diameter : Plan → ℕ → Type 0
Diameter p d = Greatest (λ k. (u : ℕ) × (u < p.size) × OutDepth p u k) d

-- the radius: the least out-depth of a site, a closure that is marked
abbrev pub Radius : Plan → (ℕ → Bool) → ℕ → Type 0
Radius p site d = Least (λ k. (u : ℕ) × (u < p.size) × T (site u) × OutDepth p u k) d
