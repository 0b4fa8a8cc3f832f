-- What the ranges of the words say of heads, ends and next records.
use Rattle.std.proofs.Common.{◌≡◌, ℕ, zero, suc, ◌+◌, ◌-◌, ◌*◌, ◌/◌, ◌%◌, ◌<◌, ◌≤◌, List, Some, None, Option, MatchOption, sym, refl, ap, ◌∙◌, subst, ⊎_elim, arith}
use Rattle.std.proofs.lemmas.Bool.{cases_lt, cond-true, cond-false, lt-ltb, le-ltb}
use Rattle.logs.specs.declared.side.Side.{Side}
use Rattle.logs.specs.declared.side.Side.TheVariants.{Leaving, Arriving}
use Rattle.logs.specs.Sides.{column}
use Rattle.logs.specs.Words.{word}
use Rattle.logs.specs.Opening.{Below, Outside, Ranged, bound, head_at, end_at, next_at}
use Rattle.logs.specs.Placing.{column_few}

bound_head : (n m u c : ℕ) → u < n → c < 2 → bound n m (2 * u + c) ≡ m + 1
bound_head n m u c h i = cond-true _ _ _ (lt-ltb (2 * u + c) (2 * n) (omega arith))

bound_end : (n m j c : ℕ) → c < 2 → bound n m (2 * n + (4 * j + c)) ≡ n
bound_end n m j c i =
    cond-false _ _ _ (le-ltb (2 * n + (4 * j + c)) (2 * n) (omega arith))
    ∙ cond-true _ _ _ (lt-ltb ((2 * n + (4 * j + c) - 2 * n) % 4) 2 (omega arith))

bound_next : (n m j c : ℕ) → c < 2 → bound n m (2 * n + (4 * j + (2 + c))) ≡ j + 1
bound_next n m j c i =
    let t : (2 * n + (4 * j + (2 + c)) - 2 * n) / 4 ≡ j = omega arith in
    cond-false _ _ _ (le-ltb (2 * n + (4 * j + (2 + c))) (2 * n) (omega arith))
    ∙ cond-false _ _ _ (le-ltb ((2 * n + (4 * j + (2 + c)) - 2 * n) % 4) 2 (omega arith))
    ∙ ap (λ x. x + 1) t

-- what a search for a word out of its range finds, where the words before it are below their bounds
pub outside_from : (bytes : List ℕ) (n m from to : ℕ) (r : Option ℕ) → to ≡ 2 * n + 4 * m → from ≤ to → Below bytes n m 0 from → MatchOption r (Below bytes n m from to) (λ k. (from ≤ k) × (k < to) × (bound n m k ≤ word bytes (4 + 2 * k)) × Below bytes n m from k) → MatchOption r (Ranged bytes n m) (λ k. Outside bytes n m (4 + 2 * k))
outside_from bytes n m from to None e l b f = λ k h. ⊎_elim (λ (i : k < from). b k (omega arith) i) (λ (i : from ≤ k). f k i (omega arith)) (cases_lt k from)
outside_from bytes n m from to (Some k) e l b f =
    record { index = k; stands = refl; within = omega (arith, f.1); high = f.2; first = λ i h. ⊎_elim (λ (s : i < from). b i (omega arith) s) (λ (s : from ≤ i). f.3 i s h) (cases_lt i from) }

-- the words of ranged bytes are below their bounds
pub head_below : (bytes : List ℕ) (n m : ℕ) (s : Side) (u : ℕ) → Ranged bytes n m → u < n → word bytes (head_at s u) < m + 1
head_below bytes n m s u r i =
    let c = column_few s in
    let p : 4 + 2 * (2 * u + column s) ≡ head_at s u = omega arith in
    let h = r (2 * u + column s) (omega arith) in
    rw (p, bound_head n m u (column s) i (omega arith)) at h

pub end_below : (bytes : List ℕ) (n m : ℕ) (s : Side) (j : ℕ) → Ranged bytes n m → j < m → word bytes (end_at n s j) < n
end_below bytes n m s j r i =
    let c = column_few s in
    let p : 4 + 2 * (2 * n + (4 * j + column s)) ≡ end_at n s j = omega arith in
    let h = r (2 * n + (4 * j + column s)) (omega arith) in
    rw (p, bound_end n m j (column s) (omega arith)) at h

pub next_below : (bytes : List ℕ) (n m : ℕ) (s : Side) (j : ℕ) → Ranged bytes n m → j < m → word bytes (next_at n s j) < j + 1
next_below bytes n m s j r i =
    let c = column_few s in
    let p : 4 + 2 * (2 * n + (4 * j + (2 + column s))) ≡ next_at n s j = omega arith in
    let h = r (2 * n + (4 * j + (2 + column s))) (omega arith) in
    rw (p, bound_next n m j (column s) (omega arith)) at h

-- each word is a head, an end or a next record of a side
pub side_of : (c : ℕ) → c < 2 → (s : Side) × (column s ≡ c)
side_of zero i = (Leaving, refl)
side_of (suc zero) i = (Arriving, refl)
side_of (suc (suc c)) i = absurd (omega arith)

pub ranged_from : (bytes : List ℕ) (n m : ℕ) → ((s : Side) (u : ℕ) → u < n → word bytes (head_at s u) < m + 1) → ((s : Side) (j : ℕ) → j < m → word bytes (end_at n s j) < n) → ((s : Side) (j : ℕ) → j < m → word bytes (next_at n s j) < j + 1) → Ranged bytes n m
ranged_from bytes n m a b c k h =
    let below : ℕ → ℕ → Type 0 = λ p x. word bytes p < x in
    ⊎_elim
    (λ (i : k < 2 * n).
    let x = side_of (k % 2) (omega arith) in
    let f = x.1 in
    let p : head_at x.0 (k / 2) ≡ 4 + 2 * k = omega arith in
    let e : 2 * (k / 2) + k % 2 ≡ k = omega arith in
    let q : m + 1 ≡ bound n m k = sym (bound_head n m (k / 2) (k % 2) (omega arith) (omega arith)) ∙ ap (bound n m) e in
    subst (below (4 + 2 * k)) q (subst (λ y. below y (m + 1)) p (a x.0 (k / 2) (omega arith))))
    (λ (i : 2 * n ≤ k).
    let j : ℕ = (k - 2 * n) / 4 in
    ⊎_elim
    (λ (t : (k - 2 * n) % 4 < 2).
    let x = side_of ((k - 2 * n) % 4) t in
    let f = x.1 in
    let p : end_at n x.0 ((k - 2 * n) / 4) ≡ 4 + 2 * k = omega arith in
    let e : 2 * n + (4 * ((k - 2 * n) / 4) + (k - 2 * n) % 4) ≡ k = omega arith in
    let q : n ≡ bound n m k = sym (bound_end n m j ((k - 2 * n) % 4) t) ∙ ap (bound n m) e in
    subst (below (4 + 2 * k)) q (subst (λ y. below y n) p (b x.0 j (omega arith))))
    (λ (t : 2 ≤ (k - 2 * n) % 4).
    let x = side_of ((k - 2 * n) % 4 - 2) (omega arith) in
    let f = x.1 in
    let p : next_at n x.0 ((k - 2 * n) / 4) ≡ 4 + 2 * k = omega arith in
    let e : 2 * n + (4 * ((k - 2 * n) / 4) + (2 + ((k - 2 * n) % 4 - 2))) ≡ k = omega arith in
    let q : (k - 2 * n) / 4 + 1 ≡ bound n m k = sym (bound_next n m j ((k - 2 * n) % 4 - 2) (omega arith)) ∙ ap (bound n m) e in
    subst (below (4 + 2 * k)) q (subst (λ y. below y (j + 1)) p (c x.0 j (omega arith))))
    (cases_lt ((k - 2 * n) % 4) 2))
    (cases_lt k (2 * n))
