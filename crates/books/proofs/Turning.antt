-- The in-side is the out-side of the turned plan.
use Rattle.std.proofs.Common.{◌≡◌, ℕ, ◌<◌, Bool, true, false, Some, None, Option, ap, ◌∙◌, subst}
use mathlib.Core.Path.{fun_ext}
use Rattle.books.specs.Plan.{Plan, Closed, Chain, Distance, InDepth, turned}
use Rattle.books.specs.Plan.Chain.{stay, step}
use Rattle.books.specs.Measures.{first, walks, greatest, distance, reaches, far, out_depth, in_depth}
use Rattle.books.proofs.Distances.{further, walks_chain, chain_walks}
use Rattle.books.proofs.Depths.{out_depth_right}
use Rattle.books.proofs.Truth.{same_test}

pub turned_closed : (p : Plan) → Closed p → Closed (turned p)
turned_closed p closed u v l = let i = closed v u l in (i.1, i.0)

turned_chain : (p : Plan) {u v k : ℕ} → Chain p u v k → Chain (turned p) v u k
turned_chain p stay = stay
turned_chain p (step l c) = further (turned_chain p c) l

turned_back : (p : Plan) {u v k : ℕ} → Chain (turned p) v u k → Chain p u v k
turned_back p stay = stay
turned_back p (step l c) = further (turned_back p c) l

pub from_turned : (p : Plan) (u v d : ℕ) → Distance (turned p) v u d → Distance p u v d
from_turned p u v d s = record { holds = turned_back p s.holds; least = λ k c. s.least k (turned_chain p c) }

pub to_turned : (p : Plan) (u v d : ℕ) → Distance p u v d → Distance (turned p) v u d
to_turned p u v d s = record { holds = turned_chain p s.holds; least = λ k c. s.least k (turned_back p c) }

module _ (p : Plan) (closed : Closed p) where
  turned_walks : (k u v : ℕ) → walks (turned p) k u v ≡ walks p k v u
  turned_walks k u v =
      same_test (walks (turned p) k u v) (walks p k v u)
      (λ t. chain_walks closed (turned_back p (walks_chain (turned p) k u v t)))
      (λ t. chain_walks (turned_closed p closed) (turned_chain p (walks_chain p k v u t)))

  pub turned_distance : (u v : ℕ) → distance (turned p) u v ≡ distance p v u
  unfolding distance
  turned_distance u v = ap (first p.size) (fun_ext (λ k. turned_walks k u v))

  reaches_turned : (u v : ℕ) → reaches (turned p) u v ≡ reaches p v u
  unfolding reaches
  reaches_turned u v = ap (λ (o : Option ℕ). elim o [ Some d ↦ true | None ↦ false ]) (turned_distance u v)

  far_turned : (u v : ℕ) → far (turned p) u v ≡ far p v u
  unfolding far
  far_turned u v = ap (λ (o : Option ℕ). elim o [ Some d ↦ d | None ↦ 0 ]) (turned_distance u v)

  pub turned_depth : (u : ℕ) → out_depth (turned p) u ≡ in_depth p u
  unfolding out_depth in_depth
  turned_depth u =
      ap (λ (t : ℕ → Bool). greatest p.size t (far (turned p) u)) (fun_ext (λ v. reaches_turned u v))
      ∙ ap (λ (f : ℕ → ℕ). greatest p.size (λ v. reaches p v u) f) (fun_ext (λ v. far_turned u v))

  pub in_depth_right : 0 < p.size → (u : ℕ) → u < p.size → InDepth p u (in_depth p u)
  in_depth_right some u h =
      let o = out_depth_right (turned p) (turned_closed p closed) some u h in
      let e = turned_depth u in
      subst (λ d. InDepth p u d) e
      (record {
        holds = (o.holds.0, from_turned p o.holds.0 u (out_depth (turned p) u) o.holds.1);
        greatest = λ k s. o.greatest k (s.0, to_turned p s.0 u k s.1);
      })
