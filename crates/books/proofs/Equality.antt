-- The test of equality finds equal plans.
use Rattle.std.proofs.Common.{◌≡◌, ℕ, ◌<◌, Bool, true, false, not, T, eqb, sym, refl, subst, arith, eqb→eq}
use lib.Dec.{eqb_refl}
use Rattle.books.specs.Plan.{Plan, Closed, Same}
use Rattle.books.specs.Measures.{any, equal}
use Rattle.books.proofs.Truth.{and_both, and_parts, any_from, from_any, not_from, not_parts, same_test}

differ : Bool → Bool → Bool
differ a b = elim a [ true ↦ not b | false ↦ b ]

no_difference : (a b : Bool) → (T (differ a b) → ⊥) → a ≡ b
unfolding differ
no_difference true true f = refl
no_difference true false f = absurd (f tt)
no_difference false true f = absurd (f tt)
no_difference false false f = refl

none_differs : (a b : Bool) → a ≡ b → T (differ a b) → ⊥
unfolding differ
none_differs true true e t = t
none_differs true false e t = subst T e tt
none_differs false true e t = subst T (sym e) tt
none_differs false false e t = t

module _ (p q : Plan) where
  at : ℕ → ℕ → Bool
  at u v = differ (p.leads u v) (q.leads u v)

  pub equal_same : Closed p → Closed q → T (equal p q) → Same p q
  unfolding equal differ at
  equal_same in_p in_q t =
      let h = and_parts (eqb p.size q.size) (not (any p.size (λ u. any p.size (at u)))) t in
      let size : p.size ≡ q.size = eqb→eq p.size q.size h.0 in
      let agree : (u v : ℕ) → u < p.size → v < p.size → p.leads u v ≡ q.leads u v =
      λ u v i j. no_difference (p.leads u v) (q.leads u v) (λ d. not_parts (any p.size (λ u. any p.size (at u))) h.1 (any_from p.size (λ u. any p.size (at u)) u i (any_from p.size (at u) v j d))) in
      record {
        size = size;
        leads = λ u v. same_test (p.leads u v) (q.leads u v)
            (λ l. let i = in_p u v l in subst T (agree u v i.0 i.1) l)
            (λ l. let i = in_q u v l in subst T (sym (agree u v (omega (arith, i.0)) (omega (arith, i.1)))) l);
      }

  pub same_equal : Same p q → T (equal p q)
  unfolding equal differ at
  same_equal s =
      and_both (eqb p.size q.size) (not (any p.size (λ u. any p.size (at u))))
      (subst (λ n. T (eqb p.size n)) s.size (eqb_refl p.size))
      (not_from (any p.size (λ u. any p.size (at u))) (λ t.
      let a = from_any p.size (λ u. any p.size (at u)) t in
      let b = from_any p.size (at a.0) a.2 in
      none_differs (p.leads a.0 b.0) (q.leads a.0 b.0) (s.leads a.0 b.0) b.2))
