-- Tests: both, either, some number below n, and the least one.
use Rattle.std.proofs.Common.{◌≡◌, ℕ, zero, suc, ◌<◌, ◌≤◌, Bool, true, false, not, ◌&&◌, ◌||◌, T, ◌⊎◌, Some, None, sym, refl, ap, ◌∙◌, subst, inl, inr, ⊎_elim, add-one, arith, below_more}
use Rattle.std.proofs.lemmas.Bool.{cases_eq, cases_order}
use Rattle.books.specs.Measures.{any, first}

pub or_first : (x y : Bool) → T x → T (x || y)
or_first true y t = tt
or_first false y t = elim t [ ]

pub or_second : (x y : Bool) → T y → T (x || y)
or_second true y t = tt
or_second false y t = t

pub either_of : (x y : Bool) → T (x || y) → T x ⊎ T y
either_of true y t = inl tt
either_of false y t = inr t

pub and_both : (x y : Bool) → T x → T y → T (x && y)
and_both true y s t = t
and_both false y s t = elim s [ ]

pub and_parts : (x y : Bool) → T (x && y) → T x × T y
and_parts true y t = (tt, t)
and_parts false y t = elim t [ ]

pub not_from : (x : Bool) → (T x → ⊥) → T (not x)
not_from true f = f tt
not_from false f = tt

pub not_parts : (x : Bool) → T (not x) → T x → ⊥
not_parts true n t = n
not_parts false n t = t

pub same_test : (x y : Bool) → (T x → T y) → (T y → T x) → x ≡ y
same_test true true f g = refl
same_test true false f g = elim (f tt) [ ]
same_test false true f g = elim (g tt) [ ]
same_test false false f g = refl

-- ---- some number below n

pub any_from : (n : ℕ) (t : ℕ → Bool) (w : ℕ) → w < n → T (t w) → T (any n t)
any_from zero t w h s = absurd (omega arith)
any_from (suc n) t w h s =
    ⊎_elim (λ e. or_first (t n) (any n t) (subst (λ x. T (t x)) e s)) (λ ne. or_second (t n) (any n t) (any_from n t w (omega arith) s)) (cases_eq w n)

pub from_any : (n : ℕ) (t : ℕ → Bool) → T (any n t) → (w : ℕ) × (w < n) × T (t w)
from_any zero t s = elim s [ ]
from_any (suc n) t s =
    ⊎_elim (λ a. (n, omega arith, a)) (λ b. let r = from_any n t b in (r.0, omega arith, r.2)) (either_of (t n) (any n t) s)

-- ---- the least number below n

abbrev Nothing : ℕ → (ℕ → Bool) → Type 0
Nothing n t = (first n t ≡ None) × ((k : ℕ) → k < n → T (t k) → ⊥)

-- `first` finds d: it is below n, and the least that has the test
abbrev pub Found : ℕ → (ℕ → Bool) → ℕ → Type 0
Found n t d = (first n t ≡ Some d) × (d < n) × T (t d) × ((k : ℕ) → k < d → T (t k) → ⊥)

first_next : (n : ℕ) (t : ℕ → Bool) → Nothing n t → (b : Bool) → t n ≡ b → Nothing (suc n) t ⊎ ((d : ℕ) × Found (suc n) t d)
first_next n t h true e = inr (n, (rw (h.0, e), omega arith, subst T (sym e) tt, h.1))
first_next n t h false e =
    inl (rw (h.0, e), λ k l. below_more (λ k. T (t k) → ⊥) n h.1 (λ s. subst T e s) k (rw add-one l))

pub first_tells : (n : ℕ) (t : ℕ → Bool) → Nothing n t ⊎ ((d : ℕ) × Found n t d)
first_tells zero t = inl (refl, λ k h _. absurd (omega arith))
first_tells (suc n) t =
    ⊎_elim (λ a. first_next n t a (t n) refl) (λ b. inr (b.0, (rw b.1.0, omega arith, b.1.2, b.1.3))) (first_tells n t)

no_other : (t : ℕ → Bool) (d : ℕ) → T (t d) → ((k : ℕ) → T (t k) → d ≤ k) → (b : ℕ) → T (t b) → ((k : ℕ) → k < b → T (t k) → ⊥) → b ≡ d
no_other t d s least b r low =
    ⊎_elim (λ e. e) (⊎_elim (λ l. absurd (omega (arith, least b r))) (λ l. absurd (low d l s))) (cases_order b d)

-- a number below n that is the least is the one found
pub first_is : (n : ℕ) (t : ℕ → Bool) (d : ℕ) → d < n → T (t d) → ((k : ℕ) → T (t k) → d ≤ k) → first n t ≡ Some d
first_is n t d h s least =
    ⊎_elim (λ a. absurd (a.1 d h s)) (λ b. b.1.0 ∙ ap Some (no_other t d s least b.0 b.1.2 b.1.3)) (first_tells n t)

-- nothing is found where nothing has the test
pub first_none : (n : ℕ) (t : ℕ → Bool) → ((k : ℕ) → k < n → T (t k) → ⊥) → first n t ≡ None
first_none n t h = ⊎_elim (λ a. a.0) (λ b. absurd (h b.0 b.1.1 b.1.2)) (first_tells n t)

-- what is found has the test, and nothing below it has
pub first_some : (n : ℕ) (t : ℕ → Bool) (d : ℕ) → first n t ≡ Some d → (d < n) × T (t d) × ((k : ℕ) → k < d → T (t k) → ⊥)
first_some n t d e =
    ⊎_elim (λ a. let f = a.0 in let x : ◌≡◌ {A = ℕ} 0 1 = cc in absurd (omega arith))
    (λ b. let f = b.1.0 in let x : b.0 ≡ d = cc in subst (λ d. (d < n) × T (t d) × ((k : ℕ) → k < d → T (t k) → ⊥)) x (b.1.1, b.1.2, b.1.3))
    (first_tells n t)

-- where nothing is found, nothing below n has the test
pub none_first : (n : ℕ) (t : ℕ → Bool) → first n t ≡ None → (k : ℕ) → k < n → T (t k) → ⊥
none_first n t e =
    ⊎_elim (λ a. a.1) (λ b. let f = b.1.0 in let x : ◌≡◌ {A = ℕ} 0 1 = cc in absurd (omega arith)) (first_tells n t)
