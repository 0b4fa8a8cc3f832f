-- How many entries of a list are something else than x, and how many can be.
use Rattle.std.proofs.Common.{◌≡◌, ℕ, zero, suc, ◌+◌, ◌<◌, ◌≤◌, true, false, cond, eqb, List, [], ◌∷◌, length, get_or, set, replicate, refl, suc-le-suc, arith, length-set, get_or-set_other}
use Rattle.std.proofs.lemmas.Bool.{eq-eqb, ne_eqb, cond_both}
use Rattle.books.specs.Counts.{others}

pub others_none : (x n : ℕ) → others x (replicate n x) ≡ 0
others_none x zero = refl
others_none x (suc n) =
    let e : eqb x x ≡ true = eq-eqb x x refl in
    simp e (omega (arith, others_none x n))

pub others_set : (x : ℕ) (ys : List ℕ) (i y : ℕ) → i < length ys → get_or ys i 0 ≡ x → (y ≡ x → ⊥) → others x (set ys i y) ≡ others x ys + 1
others_set x [] i y h e ne = omega arith
others_set x (z ∷ zs) zero y h e ne =
    let a : eqb z x ≡ true = eq-eqb z x e in
    let b : eqb y x ≡ false = ne_eqb y x ne in
    simp (a, b) (omega arith)
others_set x (z ∷ zs) (suc i) y h e ne = omega (arith, others_set x zs i y (omega arith) e ne)

one_at_most : (x y : ℕ) → cond (eqb y x) 0 1 ≤ 1
one_at_most x y = cond_both (eqb y x) 0 1 (λ n. n ≤ 1) (λ _. omega arith) (λ _. omega arith)

-- where only the first n are something else, there are at most n
pub others_bound : (x n : ℕ) (ys : List ℕ) → ((v : ℕ) → n ≤ v → v < length ys → get_or ys v 0 ≡ x) → others x ys ≤ n
others_bound x n [] h = omega arith
others_bound x zero (y ∷ ys) h =
    let a : eqb y x ≡ true = eq-eqb y x (h 0 (omega arith) (omega arith)) in
    let r = others_bound x zero ys (λ v _ l. h (suc v) (omega arith) (suc-le-suc l)) in
    simp a (omega arith)
others_bound x (suc n) (y ∷ ys) h =
    omega (arith, one_at_most x y, others_bound x n ys (λ v m l. h (suc v) (suc-le-suc m) (suc-le-suc l)))

-- where one of the first n is x too, there are fewer
pub others_room : (x n : ℕ) (ys : List ℕ) (i : ℕ) → ((v : ℕ) → n ≤ v → v < length ys → get_or ys v 0 ≡ x) → i < n → i < length ys → get_or ys i 0 ≡ x → others x ys < n
others_room x n ys i h b l e =
    let more = others_set x ys i (suc x) l e (λ q. omega arith) in
    let all : others x (set ys i (suc x)) ≤ n = others_bound x n (set ys i (suc x)) (λ v m w. let ne : (v ≡ i → ⊥) = λ q. omega arith in let w' : v < length ys = omega (arith, length-set ys i (suc x)) in rw (get_or-set_other ys i v (suc x) 0 ne) (h v m w')) in
    omega arith
