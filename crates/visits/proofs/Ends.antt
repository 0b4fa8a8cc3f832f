-- How a visit begins, how it passes from one closure to the next, and what it has when it ends.
use Rattle.std.proofs.Common.{◌≡◌, ℕ, suc, ◌+◌, ◌-◌, ◌<◌, ◌≤◌, T, map, length, replicate, Ok, Result, sym, ap, ◌∙◌, subst, ⊎_elim, arith, length-set, get_or-set_other, get_or-set_same, below_more}
use lib.ListN.{length-replicate}
use Rattle.std.proofs.lemmas.List.{get_or-replicate}
use Rattle.std.proofs.lemmas.Bool.{cases_eq, cond-true, lt-ltb}
use Rattle.books.specs.declared.fault.Fault.{Fault}
use Rattle.visits.specs.declared.visit.Visit.{Visit}
use Rattle.std.proofs.lemmas.List.FromFn.{fill_by_all}
use Rattle.std.specs.List.{range_with_len}
use Rattle.books.specs.Plan.{Plan, Closed, Chain, Distance, OutDepth}
use Rattle.books.specs.Plan.Chain.{stay, step}
use Rattle.books.specs.Listing.{Listing, plan, holds}
use Rattle.visits.specs.declared.search.Search.{Search}
use Rattle.books.specs.Measures.{distance, out_depth}
use Rattle.visits.specs.Visited.{visited, written}
use Rattle.visits.specs.Going.{Going, opened, far, finished, found, place}
use Rattle.books.proofs.Counts.{others_set, others_none}
use Rattle.visits.proofs.Looking.{Looking}
use Rattle.visits.proofs.Steps.{all_found}
use Rattle.visits.proofs.Slots.{holds_slot}
use Rattle.books.proofs.Depths.{depth_only}
use Rattle.books.proofs.Distances.{chain_inside, distance_some, distance_none}

-- all slots of u have been read
pub looked_all : (l : Listing) {k head u d z : ℕ} {s : Search} → length (l.slots u) ≤ k → Looking (plan l) (l.slots u) k head u d z s → Going (plan l) (head + 1) s
looked_all l {head = head} {u = u} {s = s} all o =
    let g = o.going in
    record {
      long = g.long;
      few = g.few;
      begun = g.begun;
      behind = omega (arith, o.early);
      tally = g.tally;
      outside = g.outside;
      queued = g.queued;
      soon = g.soon;
      order = g.order;
      near = λ i a b. omega (arith, g.near i o.early b, g.order head (head + 1) (omega arith) a);
      listed = g.listed;
      chains = g.chains;
      looked =
          λ i v h. below_more (λ i. T (holds (l.slots (place s i)) v) → far s v ≤ suc (far s (place s i))) head (λ i h. g.looked i v h)
          (λ t. let r = holds_slot (l.slots u) v (subst (λ w. T (holds (l.slots w) v)) o.here t) in omega (arith, o.seen r.0 v (omega (arith, r.1)) r.2, o.next, ap (far s) o.here)) i h;
    }

module _ (p : Plan) (start : ℕ) (in' : start < p.size) (few : p.size ≤ 1024) where
  wide : start < length {A = ℕ} (replicate 1024 65535)
  wide = omega (arith, length-replicate {A = ℕ} 1024 65535)

  start_far : far (opened start) start ≡ 0
  start_far = get_or-set_same (replicate 1024 65535) start 0 0 wide

  other_far : (v : ℕ) → v < 1024 → (v ≡ start → ⊥) → far (opened start) v ≡ 65535
  other_far v l ne = get_or-set_other (replicate 1024 65535) start v 0 0 ne ∙ get_or-replicate 1024 v 65535 0 l

  one : (P : ℕ → Type 0) → P 0 → (i : ℕ) → i < 1 → P i
  one P z i h = subst P (let e : 0 ≡ i = omega arith in e) z

  only : (v : ℕ) → v < 1024 → (far (opened start) v ≡ 65535 → ⊥) → v ≡ start
  only v l n = ⊎_elim (λ e. e) (λ ne. absurd (n (other_far v l ne))) (cases_eq v start)

  pub going_first : Going p 0 (opened start)
  going_first =
      record {
        long = length-set (replicate 1024 65535) start 0 ∙ length-replicate {A = ℕ} 1024 65535;
        few = few;
        begun = omega arith;
        behind = omega arith;
        tally = others_set 65535 (replicate 1024 65535) start 0 wide (get_or-replicate 1024 start 65535 0 (omega arith)) (λ q. omega arith) ∙ ap (λ n. n + 1) (others_none 65535 1024);
        outside = λ v m l. other_far v l (λ q. omega arith);
        queued = one (λ i. place (opened start) i < p.size) in';
        soon = one (λ i. far (opened start) (place (opened start) i) ≤ i) (omega (arith, start_far));
        order = λ i j m h. one (λ j. (i : ℕ) → i ≤ j → far (opened start) (place (opened start) i) ≤ far (opened start) (place (opened start) j)) (λ i m. subst (λ i. far (opened start) (place (opened start) i) ≤ far (opened start) (place (opened start) 0)) (let e : 0 ≡ i = omega arith in e) (omega arith)) j h i m;
        near = λ i _ h. one (λ i. far (opened start) (place (opened start) i) ≤ suc (far (opened start) (place (opened start) 0))) (omega arith) i h;
        listed = λ v l n. (0, omega arith, sym (only v l n));
        chains = λ v l n. subst (λ v. Chain p start v (far (opened start) v)) (sym (only v l n)) (rw start_far stay);
        looked = λ i v h _. omega arith;
      }

-- the whole queue has been looked from
module _ (p : Plan) (head : ℕ) (s : Search) (g : Going p head s) (done : found s ≤ head) (closed : Closed p) (some : 0 < p.size) where
  close : (u : ℕ) → u < 1024 → (far s u ≡ 65535 → ⊥) → far s u < p.size
  close u l n =
      let r = g.listed u l n in
      omega (arith, g.soon r.0 r.1, ap (far s) r.2, all_found g)

  on : (u v : ℕ) → u < 1024 → (far s u ≡ 65535 → ⊥) → T (p.leads u v) → far s v ≤ suc (far s u)
  on u v l n t =
      let r = g.listed u l n in
      omega (arith, g.looked r.0 v (omega arith) (subst (λ w. T (p.leads w v)) (sym r.2) t), ap (far s) r.2)

  along : {u v k : ℕ} → Chain p u v k → u < 1024 → (far s u ≡ 65535 → ⊥) → (far s v ≤ far s u + k) × (far s v ≡ 65535 → ⊥)
  along stay l n = (omega arith, n)
  along {u} {v} (step {w = w} t c) l n =
      let a = on u w l n t in
      let m : (far s w ≡ 65535 → ⊥) = λ q. omega (arith, close u l n, g.few) in
      let r = along c (omega (arith, (closed u w t).1, g.few)) m in
      (omega arith, r.1)

  origin : far s (place s 0) ≡ 0
  origin = omega (arith, g.soon 0 g.begun)

  from_origin : {v k : ℕ} → Chain p (place s 0) v k → (far s v ≤ k) × (far s v ≡ 65535 → ⊥)
  from_origin c =
      let r = along c (omega (arith, g.queued 0 g.begun, g.few)) (λ q. omega (arith, origin)) in
      (omega (arith, origin), r.1)

  near_right : (v : ℕ) → v < 1024 → (far s v ≡ 65535 → ⊥) → Distance p (place s 0) v (far s v)
  near_right v l n = record { holds = g.chains v l n; least = λ k c. (from_origin c).0 }

  -- each entry is the distance from the start
  entry_right : (v : ℕ) → v < 1024 → far s v ≡ written (distance p (place s 0) v)
  entry_right v l =
      ⊎_elim (λ e. e ∙ sym (ap written (distance_none p (place s 0) v (λ r. (from_origin r.1).1 e))))
      (λ n. sym (ap written (distance_some p (place s 0) v (far s v) closed some (near_right v l n))))
      (cases_eq (far s v) 65535)

  pub distances_right : s.distances ≡ map (λ v. written (distance p (place s 0) v)) (range_with_len 0 1024)
  distances_right = fill_by_all (λ v. written (distance p (place s 0) v)) s.distances 1024 0 g.long entry_right

  -- the closure found last is the farthest
  last_known : far s (place s (found s - 1)) ≡ 65535 → ⊥
  last_known e = omega (arith, g.soon (found s - 1) (omega (arith, g.begun)), g.begun, all_found g, g.few)

  last_farthest : OutDepth p (place s 0) (far s (place s (found s - 1)))
  last_farthest =
      let b : found s - 1 < found s = omega (arith, g.begun) in
      record {
        holds = (place s (found s - 1), near_right (place s (found s - 1)) (omega (arith, g.queued (found s - 1) b, g.few)) last_known);
        greatest = λ k d.
            let v = d.0 in
            let i = chain_inside closed (g.queued 0 g.begun) d.1.holds in
            let o = from_origin d.1.holds in
            let q = g.listed v (omega (arith, g.few)) o.1 in
            let f = d.1.least (far s v) (g.chains v (omega (arith, g.few)) o.1) in
            omega (arith, f, ap (far s) q.2, g.order q.0 (found s - 1) (omega (arith, q.1)) b);
      }

  pub depth_right : far s (place s (found s - 1)) ≡ out_depth p (place s 0)
  depth_right = depth_only p closed some (place s 0) (far s (place s (found s - 1))) (g.queued 0 g.begun) last_farthest

  -- so the search answers as the visit of its start
  pub visit_right : (start : ℕ) → place s 0 ≡ start → ◌≡◌ {A = Result Visit Fault} (Ok (finished s)) (visited p start)
  visit_right start e =
      let in' : start < p.size = omega (arith, g.queued 0 g.begun, e) in
      ap {B = Result Visit Fault} (λ (x : Visit). Ok x) (λ i. record { distances = (distances_right ∙ ap (λ u. map (λ v. written (distance p u v)) (range_with_len 0 1024)) e) i; depth = (depth_right ∙ ap (out_depth p) e) i })
      ∙ sym (cond-true _ _ _ (lt-ltb start p.size in'))
