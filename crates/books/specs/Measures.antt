-- The measures of a plan, computed. Theorems.antt says that they are what Plan.antt means.
use Rattle.std.specs.Prelude.{ℕ, zero, suc, max, Bool, true, false, not, ◌&&◌, ◌||◌, Some, None, Option, ◌==◌}
use Rattle.books.specs.Plan.{Plan}

-- whether the test holds of some number below n
abbrev pub any : ℕ → (ℕ → Bool) → Bool
any zero t = false
any (suc n) t = t n || any n t

-- the least number below n of which the test holds
abbrev pub first : ℕ → (ℕ → Bool) → Option ℕ
first zero t = None
first (suc n) t = elim (first n t) [ Some k ↦ Some k | None ↦ elim (t n) [ true ↦ Some n | false ↦ None ] ]

-- the greatest f w over the numbers w below n of which the test holds, and 0 where there is none
unfoldable pub greatest : ℕ → (ℕ → Bool) → (ℕ → ℕ) → ℕ
greatest zero t f = 0
greatest (suc n) t f = elim (t n) [ true ↦ max (f n) (greatest n t f) | false ↦ greatest n t f ]

-- whether a chain of exactly k spans goes from u to v
abbrev pub walks : Plan → ℕ → ℕ → ℕ → Bool
walks p zero u v = u == v
walks p (suc k) u v = any p.size (λ w. p.leads u w && walks p k w v)

-- the least number of spans of a chain from u to v, where one goes
unfoldable pub distance : Plan → ℕ → ℕ → Option ℕ
distance p u v = first p.size (λ k. walks p k u v)

-- v is within reach of u
unfoldable pub reaches : Plan → ℕ → ℕ → Bool
reaches p u v = elim (distance p u v) [ Some d ↦ true | None ↦ false ]

-- the distance from u to a v within its reach, and 0 to any other
unfoldable pub far : Plan → ℕ → ℕ → ℕ
far p u v = elim (distance p u v) [ Some d ↦ d | None ↦ 0 ]

unfoldable pub out_depth : Plan → ℕ → ℕ
out_depth p u = greatest p.size (reaches p u) (far p u)

unfoldable pub in_depth : Plan → ℕ → ℕ
in_depth p u = greatest p.size (λ v. reaches p v u) (λ v. far p v u)

unfoldable pub diameter : Plan → ℕ
diameter p = greatest p.size (λ _. true) (out_depth p)

-- the least out-depth of a site, where there is one
unfoldable pub radius : Plan → (ℕ → Bool) → Option ℕ
radius p site = first p.size (λ d. any p.size (λ u. site u && out_depth p u == d))

-- whether two plans are equal
unfoldable pub equal : Plan → Plan → Bool
equal p q =
    (p.size == q.size)
    && not (any p.size (λ u. any p.size (λ v. elim (p.leads u v) [ true ↦ not (q.leads u v) | false ↦ q.leads u v ])))
