-- `distance` is the least length of a chain.
use Rattle.std.proofs.Common.{◌≡◌, ℕ, zero, suc, ◌+◌, ◌-◌, ◌<◌, ◌≤◌, ◌&&◌, T, List, length, get_or, set, replicate, Some, None, sym, refl, ◌∙◌, subst, ⊎_elim, suc-add, zero-add, arith, eqb→eq, length-set, get_or-set_other}
use lib.ListN.{length-replicate}
use lib.Dec.{eqb_refl}
use Rattle.std.proofs.lemmas.List.{get_or-replicate}
use Rattle.std.proofs.lemmas.Bool.{cases_lt}
use Rattle.books.specs.Plan.{Plan, Closed, Chain, Reach, Distance}
use Rattle.books.specs.Plan.Chain.{stay, step}
use Rattle.books.specs.Measures.{walks, distance}
use Rattle.books.specs.Counts.{others}
use Rattle.books.proofs.Counts.{others_none, others_set, others_bound}
use Rattle.books.proofs.Truth.{and_both, and_parts, any_from, from_any, first_tells, first_is, first_none, first_some}

-- ---- chains

-- one more span at the end of a chain
pub further : {p : Plan} {u w v k : ℕ} → Chain p u w k → T (p.leads w v) → Chain p u v (suc k)
further stay t = step t stay
further (step l c) t = step l (further c t)

pub join : {p : Plan} {u w v a b : ℕ} → Chain p u w a → Chain p w v b → Chain p u v (a + b)
join {b = b} stay d = rw zero-add d
join {b = b} (step {k = k} l c) d = rw (suc-add k b) (step l (join c d))

pub chain_inside : {p : Plan} {u v k : ℕ} → Closed p → u < p.size → Chain p u v k → v < p.size
chain_inside closed h stay = h
chain_inside {u = u} closed h (step {w = w} l c) = chain_inside closed (closed u w l).1 c

pub walks_chain : (p : Plan) (k u v : ℕ) → T (walks p k u v) → Chain p u v k
walks_chain p zero u v t = subst (λ w. Chain p u w 0) (eqb→eq u v t) stay
walks_chain p (suc k) u v t =
    let r = from_any p.size (λ w. p.leads u w && walks p k w v) t in
    let h = and_parts (p.leads u r.0) (walks p k r.0 v) r.2 in
    step h.0 (walks_chain p k r.0 v h.1)

pub chain_walks : {p : Plan} {u v k : ℕ} → Closed p → Chain p u v k → T (walks p k u v)
chain_walks {u = u} closed stay = eqb_refl u
chain_walks {p} {u} {v} closed (step {w = w} {k = k} l c) =
    any_from p.size (λ w. p.leads u w && walks p k w v) w (closed u w l).1 (and_both (p.leads u w) (walks p k w v) l (chain_walks closed c))

-- ---- a shortest chain passes no closure twice, so it has fewer spans than the plan has closures

-- n numbers below m, no two of them equal: n is at most m
marks : ℕ → (ℕ → ℕ) → ℕ → List ℕ
marks m w zero = replicate m 0
marks m w (suc k) = set (marks m w k) (w k) 1

marks_length : (m : ℕ) (w : ℕ → ℕ) (k : ℕ) → length (marks m w k) ≡ m
unfolding marks
marks_length m w zero = length-replicate {A = ℕ} m 0
marks_length m w (suc k) = length-set (marks m w k) (w k) 1 ∙ marks_length m w k

module _ (m n : ℕ) (w : ℕ → ℕ) (low : (i : ℕ) → i < n → w i < m) (apart : (i j : ℕ) → i < j → j < n → w i ≡ w j → ⊥) where
  free : (k j : ℕ) → k ≤ j → j < n → get_or (marks m w k) (w j) 0 ≡ 0
  unfolding marks
  free zero j h l = get_or-replicate m (w j) 0 0 (low j l)
  free (suc k) j h l =
      get_or-set_other (marks m w k) (w k) (w j) 1 0 (λ e. apart k j h l (sym e)) ∙ free k j (omega arith) l

  marked : (k : ℕ) → k ≤ n → others 0 (marks m w k) ≡ k
  unfolding marks
  marked zero h = others_none 0 m
  marked (suc k) h =
      let e = others_set 0 (marks m w k) (w k) 1 (omega (arith, marks_length m w k, low k h)) (free k k (omega arith) h) (λ q. omega arith) in
      omega (arith, marked k (omega arith))

  pigeonholes : n ≤ m
  pigeonholes =
      omega (arith, marked n (omega arith), others_bound 0 m (marks m w n) (λ v a b. absurd (omega (arith, marks_length m w n))))

-- the closure that a chain passes after i spans
stop : {p : Plan} {u v k : ℕ} → Chain p u v k → ℕ → ℕ
stop {u = u} stay i = u
stop {u = u} (step l c) zero = u
stop (step l c) (suc i) = stop c i

stop_inside : {p : Plan} {u v k : ℕ} → Closed p → u < p.size → (c : Chain p u v k) (i : ℕ) → stop c i < p.size
unfolding stop
stop_inside closed h stay i = h
stop_inside closed h (step l c) zero = h
stop_inside {u = u} closed h (step {w = w} l c) (suc i) = stop_inside closed (closed u w l).1 c i

front : {p : Plan} {u v k : ℕ} (c : Chain p u v k) (i : ℕ) → i ≤ k → Chain p u (stop c i) i
unfolding stop
front stay zero h = stay
front stay (suc i) h = absurd (omega arith)
front (step l c) zero h = stay
front (step l c) (suc i) h = step l (front c i (omega arith))

back : {p : Plan} {u v k : ℕ} (c : Chain p u v k) (i j : ℕ) → i + j ≡ k → Chain p (stop c i) v j
unfolding stop
back {p} {u} stay i j e = subst (λ j. Chain p u u j) (let z : 0 ≡ j = omega arith in z) stay
back {p} {u} {v} (step {k = k} l c) zero j e = subst (λ j. Chain p u v j) (let z : suc k ≡ j = omega arith in z) (step l c)
back (step l c) (suc i) j e = back c i j (omega arith)

from_inside : (p : Plan) (u v d : ℕ) → Closed p → u < p.size → Distance p u v d → d < p.size
from_inside p u v d closed h s =
    pigeonholes p.size (suc d) (stop s.holds) (λ i _. stop_inside closed h s.holds i)
    (λ i j l m e. let c = join (front s.holds i (omega arith)) (subst (λ w. Chain p w v (d - j)) (sym e) (back s.holds j (d - j) (omega arith))) in omega (arith, s.least (i + (d - j)) c))

from_outside : {p : Plan} {u v k : ℕ} → Closed p → p.size ≤ u → Chain p u v k → k ≡ 0
from_outside closed m stay = refl
from_outside {u = u} closed m (step {w = w} l c) = absurd (omega (arith, (closed u w l).0))

pub distance_below : (p : Plan) (u v d : ℕ) → Closed p → 0 < p.size → Distance p u v d → d < p.size
distance_below p u v d closed some s =
    ⊎_elim (λ h. from_inside p u v d closed h s) (λ m. omega (arith, from_outside closed m s.holds)) (cases_lt u p.size)

-- ---- so `distance` finds it

pub distance_some : (p : Plan) (u v d : ℕ) → Closed p → 0 < p.size → Distance p u v d → distance p u v ≡ Some d
unfolding distance
distance_some p u v d closed some s =
    first_is p.size (λ k. walks p k u v) d (distance_below p u v d closed some s) (chain_walks closed s.holds) (λ k t. s.least k (walks_chain p k u v t))

pub distance_none : (p : Plan) (u v : ℕ) → (Reach p u v → ⊥) → distance p u v ≡ None
unfolding distance
distance_none p u v h = first_none p.size (λ k. walks p k u v) (λ k _ t. h (k, walks_chain p k u v t))

pub some_distance : (p : Plan) (u v d : ℕ) → Closed p → distance p u v ≡ Some d → Distance p u v d
unfolding distance
some_distance p u v d closed e =
    let f = first_some p.size (λ k. walks p k u v) d e in
    record {
      holds = walks_chain p d u v f.1;
      least = λ k c. ⊎_elim (λ l. absurd (f.2 k l (chain_walks closed c))) (λ m. m) (cases_lt k d);
    }

-- where a chain goes, some chain is the shortest
pub shortest : (p : Plan) (u v k : ℕ) → Closed p → Chain p u v k → (d : ℕ) × Distance p u v d
shortest p u v k closed c =
    ⊎_elim (λ n. absurd (n.1 k (omega arith) (chain_walks closed c)))
    (λ f. (
      f.0,
      record {
        holds = walks_chain p f.0 u v f.1.2;
        least = λ j q. ⊎_elim (λ l. absurd (f.1.3 j l (chain_walks closed q))) (λ m. m) (cases_lt j f.0);
      },
    ))
    (first_tells (suc k) (λ k. walks p k u v))

pub none_distance : (p : Plan) (u v : ℕ) → Closed p → 0 < p.size → distance p u v ≡ None → Reach p u v → ⊥
none_distance p u v closed some e r =
    let s = shortest p u v r.0 closed r.1 in
    let f = distance_some p u v s.0 closed some s.1 in
    let x : ◌≡◌ {A = ℕ} 0 1 = cc in
    omega arith
