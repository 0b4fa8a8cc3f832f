-- What a visit tells, in the words of chains.
use Rattle.std.proofs.Common.{◌≡◌, ℕ, ◌<◌, ◌≤◌, cond, Bool, true, false, T, ltb, List, map, get_or, IfOk, Some, None, Ok, Err, Option, MatchOption, Result, sym, ap, ◌∙◌, subst, ⊎_elim, arith}
use Rattle.std.proofs.lemmas.List.FromFn.{get_or-map-range_with_len}
use Rattle.std.proofs.lemmas.Bool.{cases_lt, cond_both, ltb-true}
use Rattle.std.specs.List.{range_with_len}
use Rattle.books.specs.declared.fault.Fault.{Fault}
use Rattle.books.specs.declared.fault.Fault.TheVariants.{NoClosure}
use Rattle.books.specs.Plan.{Plan, Closed, Distance, Same, turned}
use Rattle.books.specs.Listing.{Agree, Listing, Sound, plan, with_slots}
use Rattle.books.specs.Measures.{distance, first, out_depth}
use Rattle.books.proofs.Distances.{distance_some, distance_none, shortest, some_distance}
use Rattle.books.proofs.Depths.{out_depth_right}
use Rattle.books.proofs.Measured.{book_closed}
use Rattle.books.proofs.Truth.{first_is, first_none}
use Rattle.books.proofs.Turning.{turned_closed, turned_distance, turned_depth, to_turned, from_turned}
use Rattle.visits.specs.declared.visit.Visit.{Visit}
use Rattle.visits.specs.Visited.{Tells, approached, visited, written}

-- a written number other than 65,535 is a distance
read : (o : Option ℕ) (d : ℕ) → written o ≡ d → (d ≡ 65535 → ⊥) → o ≡ Some d
read (Some k) d e far = ap Some e
read None d e far = absurd (far (sym e))

module _ (p : Plan) (closed : Closed p) (some : 0 < p.size) (start : ℕ) where
  entry : (v : ℕ) → v < 1024 → get_or (map (λ v. written (distance p start v)) (range_with_len 0 1024)) v 0 ≡ written (distance p start v)
  entry v h = get_or-map-range_with_len (λ v. written (distance p start v)) 0 1024 v v 0 h (omega arith)

  pub out_tells : (r : Result Visit Fault) → r ≡ visited p start → IfOk r (Tells (λ v d. Distance p start v d))
  out_tells r e =
      subst (λ r. IfOk r (Tells (λ v d. Distance p start v d))) (sym e)
      (cond_both (ltb start p.size) (Ok (record { distances = map (λ v. written (distance p start v)) (range_with_len 0 1024); depth = out_depth p start })) (Err NoClosure) (λ r. IfOk r (Tells (λ v d. Distance p start v d)))
      (λ b. record {
        near = λ v d h s. entry v h ∙ ap written (distance_some p start v d closed some s);
        only = λ v d h e far. some_distance p start v d closed (read (distance p start v) d (sym (entry v h) ∙ e) far);
        beyond = λ v h none. entry v h ∙ ap written (distance_none p start v (λ c. let s = shortest p start v c.0 closed c.1 in none s.0 s.1));
        deepest = out_depth_right p closed some start (ltb-true start p.size b);
      })
      (λ _. tt))

made_more : {X Y : Type 0} (r : Result X Y) (P Q : X → Type 0) → ((x : X) → P x → Q x) → IfOk r P → IfOk r Q
made_more (Ok x) P Q f h = f x h
made_more (Err y) P Q f h = tt

-- an in-visit is the out-visit over the turned plan
module _ (p : Plan) (closed : Closed p) (start : ℕ) where
  turned_visit : visited (turned p) start ≡ approached p start
  turned_visit =
      ap (λ (x : Visit). cond (ltb start p.size) (Ok x) (Err NoClosure))
      (λ i. record { distances = map (λ v. written (turned_distance p closed start v i)) (range_with_len 0 1024); depth = turned_depth p closed start i })

  in_tells : 0 < p.size → (r : Result Visit Fault) → r ≡ visited (turned p) start → IfOk r (Tells (λ v d. Distance p v start d))
  in_tells some r e =
      made_more r (Tells (λ v d. Distance (turned p) start v d)) (Tells (λ v d. Distance p v start d))
      (λ x t. record {
        near = λ v d h s. t.near v d h (to_turned p v start d s);
        only = λ v d h e far. from_turned p v start d (t.only v d h e far);
        beyond = λ v h none. t.beyond v h (λ d s. none d (from_turned p v start d s));
        deepest = record {
          holds = (t.deepest.holds.0, from_turned p t.deepest.holds.0 start x.depth t.deepest.holds.1);
          greatest = λ k s. t.deepest.greatest k (s.0, to_turned p s.0 start k s.1);
        };
      })
      (out_tells (turned p) (turned_closed p closed) some start r e)

-- the plan that incoming slots describe is the turned plan
turned_plan : (l : Listing) (into : ℕ → List (Option ℕ)) → Agree l.slots into → plan (with_slots l into) ≡ turned (plan l)
turned_plan l into agrees = λ i. record { size = l.size; leads = λ u v. agrees v u i }

-- equal plans have equal visits
same_visit : (p q : Plan) (start : ℕ) → Same p q → visited p start ≡ visited q start
same_visit p q start h = ap (λ (x : Plan). visited x start) (λ i. record { size = h.size i; leads = λ u v. h.leads u v i })

-- so a search along incoming slots answers as the in-visit, which is the out-visit over every book of the turned plan
pub in_visit_right : {limit : ℕ} (l : Listing) (into : ℕ → List (Option ℕ)) (start : ℕ) (r : Result Visit Fault) → Sound limit l → Agree l.slots into → r ≡ visited (plan (with_slots l into)) start → (r ≡ approached (plan l) start) × (r ≡ visited (turned (plan l)) start) × ((m : Listing) → Same (plan m) (turned (plan l)) → r ≡ visited (plan m) start) × IfOk r (Tells (λ v d. Distance (plan l) v start d))
in_visit_right l into start r sound agrees e =
    let closed = book_closed l sound in
    let back : r ≡ visited (turned (plan l)) start = e ∙ ap (λ (p : Plan). visited p start) (turned_plan l into agrees) in
    (back ∙ turned_visit (plan l) closed start, back, (λ m h. back ∙ sym (same_visit (plan m) (turned (plan l)) start h)), in_tells (plan l) closed start sound.some r back)

-- what a search through the numbers below n finds is the least of which the test holds
pub lowest : (n : ℕ) (t : ℕ → Bool) (r : Option ℕ) → MatchOption r ((k : ℕ) → 0 ≤ k → k < n → t k ≡ false) (λ i. (0 ≤ i) × (i < n) × (t i ≡ true) × ((k : ℕ) → 0 ≤ k → k < i → t k ≡ false)) → r ≡ first n t
lowest n t (Some i) m =
    sym (first_is n t i m.1 (subst T (sym m.2) tt) (λ k s. ⊎_elim (λ l. absurd (subst T (m.3 k (omega arith) l) s)) (λ l. l) (cases_lt k i)))
lowest n t None m = sym (first_none n t (λ k h s. subst T (m k (omega arith) h) s))
