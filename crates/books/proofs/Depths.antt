-- The depths and the diameter are the greatest distances, and the radius is the least out-depth of a site.
use Rattle.std.proofs.Common.{◌≡◌, ℕ, zero, suc, ◌<◌, ◌≤◌, max, Bool, true, false, ◌&&◌, T, eqb, ◌⊎◌, Some, None, Option, sym, refl, ap, subst, inl, inr, ⊎_elim, arith, eqb→eq}
use lib.Dec.{eqb_refl}
use Rattle.std.proofs.lemmas.Bool.{cases_eq, cases_lt}
use Rattle.books.specs.Plan.{Plan, Closed, Reach, Distance, OutDepth, Diameter, Radius}
use Rattle.books.specs.Plan.Chain.{stay}
use Rattle.books.specs.Measures.{any, greatest, distance, reaches, far, out_depth, diameter, radius}
use Rattle.books.proofs.Distances.{chain_inside, distance_below, some_distance, distance_some, shortest}
use Rattle.books.proofs.Truth.{and_both, and_parts, any_from, from_any, first_is, first_none, first_some, none_first}

-- ---- the greatest of some numbers

-- what holds of either answer of a test holds of its answer
by_test : (b : Bool) (x y : ℕ) (P : ℕ → Type 0) → (T b → P x) → ((T b → ⊥) → P y) → P (elim b [ true ↦ x | false ↦ y ])
by_test true x y P f g = f tt
by_test false x y P f g = g (λ t. t)

pub greatest_over : (n : ℕ) (t : ℕ → Bool) (f : ℕ → ℕ) (w : ℕ) → w < n → T (t w) → f w ≤ greatest n t f
unfolding greatest
greatest_over zero t f w h s = absurd (omega arith)
greatest_over (suc n) t f w h s =
    by_test (t n) (max (f n) (greatest n t f)) (greatest n t f) (λ x. f w ≤ x)
    (λ _. ⊎_elim (λ (e : w ≡ n). let q = ap f e in omega arith) (λ (ne : w ≡ n → ⊥). omega (arith, greatest_over n t f w (omega arith) s)) (cases_eq w n))
    (λ no'. ⊎_elim (λ (e : w ≡ n). absurd (no' (subst (λ x. T (t x)) e s))) (λ (ne : w ≡ n → ⊥). greatest_over n t f w (omega arith) s) (cases_eq w n))

-- some number has the greatest, unless it is 0
pub greatest_taken : (n : ℕ) (t : ℕ → Bool) (f : ℕ → ℕ) → (greatest n t f ≡ 0) ⊎ ((w : ℕ) × (w < n) × T (t w) × (f w ≡ greatest n t f))
unfolding greatest
greatest_taken zero t f = inl refl
greatest_taken (suc n) t f =
    by_test (t n) (max (f n) (greatest n t f)) (greatest n t f) (λ x. (x ≡ 0) ⊎ ((w : ℕ) × (w < suc n) × T (t w) × (f w ≡ x)))
    (λ s. ⊎_elim (λ l. ⊎_elim (λ z. absurd (omega arith)) (λ b. inr (b.0, omega arith, b.2, omega arith)) (greatest_taken n t f)) (λ l. inr (n, omega arith, s, omega arith)) (cases_lt (f n) (greatest n t f)))
    (λ _. ⊎_elim (λ z. inl z) (λ b. inr (b.0, omega arith, b.2, b.3)) (greatest_taken n t f))

-- ---- reach and distance as numbers

abbrev Told : Plan → ℕ → ℕ → Option ℕ → Type 0
Told p u v o = T (elim o [ Some d ↦ true | None ↦ false ]) → Distance p u v (elim o [ Some d ↦ d | None ↦ 0 ])

told_by : (p : Plan) (u v : ℕ) → Closed p → (o : Option ℕ) → distance p u v ≡ o → Told p u v o
told_by p u v closed (Some d) e = λ _. some_distance p u v d closed e
told_by p u v closed None e = λ t. elim t [ ]

pub reaches_distance : (p : Plan) (u v : ℕ) → Closed p → T (reaches p u v) → Distance p u v (far p u v)
unfolding reaches far
reaches_distance p u v closed = told_by p u v closed (distance p u v) refl

-- two distances are the same
pub distance_only : {p : Plan} {u v d e : ℕ} → Distance p u v d → Distance p u v e → d ≡ e
distance_only {d = d} {e = e} s r = omega (arith, s.least e r.holds, r.least d s.holds)

module _ (p : Plan) (closed : Closed p) (some : 0 < p.size) where
  distance_reaches : (u v d : ℕ) → Distance p u v d → T (reaches p u v)
  unfolding reaches
  distance_reaches u v d s =
      subst (λ (o : Option ℕ). T (elim o [ Some d ↦ true | None ↦ false ])) (sym (distance_some p u v d closed some s)) tt

  pub reach_right : (u v : ℕ) → T (reaches p u v) → Reach p u v
  reach_right u v t = (far p u v, (reaches_distance p u v closed t).holds)

  pub reach_only : (u v : ℕ) → Reach p u v → T (reaches p u v)
  reach_only u v r = let s = shortest p u v r.0 closed r.1 in distance_reaches u v s.0 s.1

  far_is : (u v d : ℕ) → Distance p u v d → far p u v ≡ d
  far_is u v d s = distance_only (reaches_distance p u v closed (distance_reaches u v d s)) s

  self : (u : ℕ) → Distance p u u 0
  self u = record { holds = stay; least = λ k _. omega arith }

  -- ---- out-depths

  depth_over : (u v d : ℕ) → u < p.size → Distance p u v d → d ≤ out_depth p u
  unfolding out_depth
  depth_over u v d h s =
      omega (arith, far_is u v d s, greatest_over p.size (reaches p u) (far p u) v (chain_inside closed h s.holds) (distance_reaches u v d s))

  depth_taken : (u : ℕ) → (v : ℕ) × Distance p u v (out_depth p u)
  unfolding out_depth
  depth_taken u =
      ⊎_elim (λ z. (u, subst (λ d. Distance p u u d) (sym z) (self u)))
      (λ b. (b.0, subst (λ d. Distance p u b.0 d) b.3 (reaches_distance p u b.0 closed b.2)))
      (greatest_taken p.size (reaches p u) (far p u))

  pub out_depth_right : (u : ℕ) → u < p.size → OutDepth p u (out_depth p u)
  out_depth_right u h = record { holds = depth_taken u; greatest = λ k s. depth_over u s.0 k h s.1 }

  -- two out-depths of a closure are the same
  pub depth_only : (u d : ℕ) → u < p.size → OutDepth p u d → d ≡ out_depth p u
  depth_only u d h o =
      omega (arith, o.greatest (out_depth p u) (depth_taken u), depth_over u o.holds.0 d h o.holds.1)

  pub depth_below : (u : ℕ) → out_depth p u < p.size
  depth_below u = let t = depth_taken u in distance_below p u t.0 (out_depth p u) closed some t.1

  -- ---- the diameter

  pub diameter_right : Diameter p (diameter p)
  unfolding diameter
  diameter_right =
      record {
        holds =
            ⊎_elim
            (λ z.
            let o = greatest_over p.size (λ _. true) (out_depth p) 0 some tt in
            let e : out_depth p 0 ≡ diameter p = omega arith in
            (0, some, subst (λ d. OutDepth p 0 d) e (out_depth_right 0 some)))
            (λ b. (b.0, b.1, subst (λ d. OutDepth p b.0 d) b.3 (out_depth_right b.0 b.1)))
            (greatest_taken p.size (λ _. true) (out_depth p));
        greatest = λ k s. let e = depth_only s.0 k s.1 s.2 in omega (arith, greatest_over p.size (λ _. true) (out_depth p) s.0 s.1 tt);
      }

  -- ---- the radius

  module _ (site : ℕ → Bool) where
    -- a site has the out-depth d
    has : ℕ → ℕ → Bool
    has d u = site u && eqb (out_depth p u) d

    attained : (d : ℕ) → T (any p.size (has d)) → (u : ℕ) × (u < p.size) × T (site u) × OutDepth p u d
    unfolding has
    attained d t =
        let r = from_any p.size (has d) t in
        let h = and_parts (site r.0) (eqb (out_depth p r.0) d) r.2 in
        (r.0, r.1, h.0, subst (λ x. OutDepth p r.0 x) (eqb→eq (out_depth p r.0) d h.1) (out_depth_right r.0 r.1))

    attains : (d u : ℕ) → u < p.size → T (site u) → OutDepth p u d → T (any p.size (has d))
    unfolding has
    attains d u h t o =
        any_from p.size (has d) u h (and_both (site u) (eqb (out_depth p u) d) t (subst (λ x. T (eqb (out_depth p u) x)) (sym (depth_only u d h o)) (eqb_refl (out_depth p u))))

    pub radius_right : (d : ℕ) → radius p site ≡ Some d → Radius p site d
    unfolding radius has
    radius_right d e =
        let f = first_some p.size (λ d. any p.size (has d)) d e in
        record {
          holds = attained d f.1;
          least = λ k s. ⊎_elim (λ l. absurd (f.2 k l (attains k s.0 s.1 s.2 s.3))) (λ m. m) (cases_lt k d);
        }

    pub radius_only : (d : ℕ) → Radius p site d → radius p site ≡ Some d
    unfolding radius has
    radius_only d r =
        let u = r.holds in
        first_is p.size (λ d. any p.size (has d)) d
        (let e = depth_only u.0 d u.1 u.3 in omega (arith, depth_below u.0))
        (attains d u.0 u.1 u.2 u.3)
        (λ k t. r.least k (attained k t))

    pub no_radius_right : radius p site ≡ None → (u : ℕ) → u < p.size → T (site u) → ⊥
    unfolding radius has
    no_radius_right e u h t =
        none_first p.size (λ d. any p.size (has d)) e (out_depth p u) (depth_below u) (attains (out_depth p u) u h t (out_depth_right u h))

    pub no_radius_only : ((u : ℕ) → u < p.size → T (site u) → ⊥) → radius p site ≡ None
    unfolding radius has
    no_radius_only no' =
        first_none p.size (λ d. any p.size (has d)) (λ k _ t. let r = attained k t in no' r.0 r.1 r.2)
