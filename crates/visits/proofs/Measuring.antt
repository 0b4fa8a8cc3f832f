-- How the measures of a plan grow with each closure that is visited.
use Rattle.std.proofs.Common.{◌≡◌, ℕ, ◌+◌, ◌<◌, ◌≤◌, T, eqb, List, get_or, set, replicate, Some, None, sym, ◌∙◌, subst, ⊎_elim, arith, eqb→eq, length-set, get_or-set_other, get_or-set_same, below_more}
use lib.Dec.{eqb_refl}
use lib.ListN.{length-replicate}
use Rattle.std.proofs.lemmas.List.{get_or-replicate, get_or_past}
use Rattle.std.proofs.lemmas.Bool.{cases_eq, cases_lt}
use Rattle.books.specs.Plan.{Plan, Closed, Distance, InDepth, OutDepth}
use Rattle.books.specs.Plan.Chain.{stay}
use Rattle.books.specs.Measures.{first}
use Rattle.books.proofs.Distances.{chain_inside, distance_below}
use Rattle.books.proofs.Truth.{first_some, none_first}
use Rattle.visits.specs.declared.figures.Depths.{Depths}
use Rattle.visits.specs.declared.figures.Figures.{Figures}
use Rattle.visits.specs.declared.visit.Visit.{Visit}
use Rattle.visits.specs.Figured.{Figured, Sofar, unmeasured}
use Rattle.visits.specs.Visited.{Tells}

none_at : (a u : ℕ) → get_or (replicate a unmeasured) u unmeasured ≡ unmeasured
none_at a u =
    ⊎_elim
    (λ (h : u < a). get_or-replicate a u unmeasured unmeasured h)
    (λ (h : a ≤ u). let l = length-replicate {A = Depths} a unmeasured in get_or_past (replicate a unmeasured) u unmeasured (omega arith))
    (cases_lt u a)

-- nothing is measured
pub none_measured : (p : Plan) → 0 < p.size → Sofar p 0 (record { depths = replicate 1024 unmeasured; longest = record { length = 0; from = 0; to = 0 } })
none_measured p some =
    record {
      long = length-replicate {A = Depths} 1024 unmeasured;
      depths = λ u h. absurd (omega arith);
      outside = λ u h. none_at 1024 u;
      inside = some;
      apart = record { holds = stay; least = λ k c. omega arith };
      over = λ u v d h. absurd (omega arith);
      lowest_from = λ u v h. absurd (omega arith);
      lowest_to = λ v h. absurd (omega arith);
    }

module _ (p : Plan) (closed : Closed p) (u : ℕ) (in' : u < p.size) (few : p.size ≤ 1024) (out into : Visit) (t : Tells (λ v d. Distance p u v d) out) (s : Tells (λ v d. Distance p v u d) into) (f : Figures) (o : Sofar p u f) where
  deep : out.depth < p.size
  deep = distance_below p u t.deepest.holds.0 out.depth closed (omega arith) t.deepest.holds.1

  -- the depths with those of u
  abbrev pub here : Depths
  here = record { out = out.depth; into = into.depth }

  abbrev pub noted : List Depths
  noted = set f.depths u here

  depths_more : (w : ℕ) → w < u + 1 → OutDepth p w (get_or noted w unmeasured).out × InDepth p w (get_or noted w unmeasured).into
  depths_more w h =
      below_more (λ w. OutDepth p w (get_or noted w unmeasured).out × InDepth p w (get_or noted w unmeasured).into) u
      (λ w h. rw (get_or-set_other f.depths u w here unmeasured (λ e. omega arith)) (o.depths w h))
      (rw (get_or-set_same f.depths u here unmeasured (omega (arith, o.long))) (t.deepest, s.deepest)) w h

  beyond : (w : ℕ) → u + 1 ≤ w → get_or noted w unmeasured ≡ unmeasured
  beyond w h = get_or-set_other f.depths u w here unmeasured (λ e. omega arith) ∙ o.outside w (omega arith)

  -- no run from u is longer
  pub kept : out.depth ≤ f.longest.length → Sofar p (u + 1) (record { depths = noted; longest = f.longest })
  kept h =
      record {
        long = length-set f.depths u here ∙ o.long;
        depths = depths_more;
        outside = beyond;
        inside = o.inside;
        apart = o.apart;
        over = λ w v d l q. ⊎_elim (λ (e : w ≡ u). omega (arith, t.deepest.greatest d (v, subst (λ w. Distance p w v d) e q))) (λ (ne : w ≡ u → ⊥). o.over w v d (omega arith) q) (cases_eq w u);
        lowest_from = o.lowest_from;
        lowest_to = o.lowest_to;
      }

  -- a run from u is longer
  pub raised : (to : ℕ) → f.longest.length < out.depth → first 1024 (λ v. eqb (get_or out.distances v 0) out.depth) ≡ Some to → Sofar p (u + 1) (record { depths = noted; longest = record { length = out.depth; from = u; to = to } })
  raised to h e =
      let q = first_some 1024 (λ v. eqb (get_or out.distances v 0) out.depth) to e in
      record {
        long = length-set f.depths u here ∙ o.long;
        depths = depths_more;
        outside = beyond;
        inside = in';
        apart = t.only to out.depth q.0 (eqb→eq (get_or out.distances to 0) out.depth q.1) (λ z. omega (arith, deep));
        over = λ w v d l q. ⊎_elim (λ (e : w ≡ u). t.deepest.greatest d (v, subst (λ w. Distance p w v d) e q)) (λ (ne : w ≡ u → ⊥). omega (arith, o.over w v d (omega arith) q)) (cases_eq w u);
        lowest_from = λ w v l d. omega (arith, o.over w v out.depth l d);
        lowest_to = λ v l d. q.2 v l (subst (λ x. T (eqb x out.depth)) (sym (t.near v out.depth (omega (arith, q.0)) d)) (eqb_refl out.depth));
      }

  -- some closure is at the depth
  pub attained : first 1024 (λ v. eqb (get_or out.distances v 0) out.depth) ≡ None → ⊥
  attained e =
      let v = t.deepest.holds.0 in
      let d = t.deepest.holds.1 in
      let h : v < 1024 = omega (arith, chain_inside closed in' d.holds) in
      none_first 1024 (λ v. eqb (get_or out.distances v 0) out.depth) e v h (subst (λ x. T (eqb x out.depth)) (sym (t.near v out.depth h d)) (eqb_refl out.depth))

-- all closures are visited
pub all_measured : (p : Plan) (f : Figures) → Sofar p p.size f → Figured p f
all_measured p f o =
    record {
      out_depth = λ u h. (o.depths u h).0;
      in_depth = λ u h. (o.depths u h).1;
      outside = o.outside;
      longest = record {
        diameter = record {
          holds = (f.longest.from, o.inside, record { holds = (f.longest.to, o.apart); greatest = λ k s. o.over f.longest.from s.0 k o.inside s.1 });
          greatest = λ k s. o.over s.0 s.2.holds.0 k s.1 s.2.holds.1;
        };
        apart = o.apart;
        lowest_from = o.lowest_from;
        lowest_to = o.lowest_to;
      };
    }
