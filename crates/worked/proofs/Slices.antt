-- Slices that are rows, and slices that are not.
use Rattle.std.proofs.Common.{◌≡◌, ℕ, zero, suc, ◌<◌, [], ◌∷◌, get_or, sym, refl, subst, arith}
use Rattle.rows.specs.Rules.{Broken, Kept, Lists}

two_zeros : (k v : ℕ) → k < 2 → get_or (0 ∷ 0 ∷ []) k 0 ≡ v → v ≡ 0
two_zeros zero v h e = sym e
two_zeros (suc zero) v h e = sym e
two_zeros (suc (suc k)) v h e = absurd (omega arith)

one_zero : (k v : ℕ) → k < 1 → get_or (0 ∷ []) k 0 ≡ v → v ≡ 0
one_zero zero v h e = sym e
one_zero (suc k) v h e = absurd (omega arith)

twice : (u v : ℕ) → Lists (0 ∷ 2 ∷ []) (0 ∷ 0 ∷ []) u v → Lists (0 ∷ 1 ∷ []) (0 ∷ []) v u
twice zero v l = subst (λ v. Lists (0 ∷ 1 ∷ []) (0 ∷ []) v 0) (sym (two_zeros l.0 v l.2 l.3)) (0, omega arith, omega arith, refl)
twice (suc zero) v l = absurd (omega (arith, l.2))
twice (suc (suc u)) v l = absurd (omega (arith, l.2))

once : (u v : ℕ) → Lists (0 ∷ 1 ∷ []) (0 ∷ []) u v → Lists (0 ∷ 2 ∷ []) (0 ∷ 0 ∷ []) v u
once zero v l = subst (λ v. Lists (0 ∷ 2 ∷ []) (0 ∷ 0 ∷ []) v 0) (sym (one_zero l.0 v l.2 l.3)) (0, omega arith, omega arith, refl)
once (suc zero) v l = absurd (omega (arith, l.2))
once (suc (suc u)) v l = absurd (omega (arith, l.2))

-- a loop that is listed twice on one side and once on the other
pub loop_twice : Kept 1 (0 ∷ 2 ∷ []) (0 ∷ 0 ∷ []) (0 ∷ 1 ∷ []) (0 ∷ [])
loop_twice = record {
  some = omega arith;
  most = omega arith;
  out = record { rising = record { long = refl; begins = refl; rises = λ u h. let z : u ≡ 0 = omega arith in rw z (omega arith); few = omega arith; inside = omega arith }; below = λ k h. omega (arith, two_zeros k _ h refl) };
  into = record { rising = record { long = refl; begins = refl; rises = λ u h. let z : u ≡ 0 = omega arith in rw z (omega arith); few = omega arith; inside = omega arith }; below = λ k h. omega (arith, one_zero k _ h refl) };
  shown = twice;
  shown_back = once;
}

-- a span that is listed on one side only
pub span_once : Broken (0 ∷ 1 ∷ 1 ∷ []) (1 ∷ []) (0 ∷ 0 ∷ 0 ∷ []) []
span_once n kept = let l = kept.shown 0 1 (0, omega arith, omega arith, refl) in omega (arith, l.2)
