-- Words spread into bytes, read and written at their places.
use Rattle.std.specs.Prelude.{◌≡◌, ℕ, zero, suc, ◌+◌, ◌*◌, ◌/◌, ◌%◌, ◌<◌, List, [], ◌∷◌, ◌++◌, length, slice_index, slice_set, refl}
use Rattle.std.proofs.Common.{ap, ◌∙◌, arith}
use Rattle.std.proofs.Math.Nat.{mod-add-div}
use Rattle.std.proofs.lemmas.List.{drop_all, nil_from_length}
use Rattle.std.proofs.lemmas.List.Edits.{sets-eq}
use Rattle.logs.specs.Words.{spread, word, put}

pub spread_append : (xs ys : List ℕ) → spread (xs ++ ys) ≡ spread xs ++ spread ys
spread_append [] ys = refl
spread_append (x ∷ xs) ys = rw (spread_append xs ys)

pub length_spread : (ws : List ℕ) → length (spread ws) ≡ 2 * length ws
length_spread [] = refl
length_spread (w ∷ ws) = let e = length_spread ws in omega arith

-- four words written one after another into eight bytes
pub written : (xs : List ℕ) (a b c d : ℕ) → length xs ≡ 8 → put (put (put (put xs 0 a) 2 b) 4 c) 6 d ≡ spread (a ∷ b ∷ c ∷ d ∷ [])
written xs a b c d e =
    sets-eq (spread (a ∷ b ∷ c ∷ d ∷ [])) xs 0 (omega arith)
    ∙ ap (λ t. spread (a ∷ b ∷ c ∷ d ∷ []) ++ t) (drop_all 8 xs (omega arith))

-- a place that is twice an index
double : (k : ℕ) → 2 * suc k ≡ suc (suc (2 * k))
double k = omega arith

next : (k : ℕ) → suc (suc k) + 1 ≡ suc (suc (k + 1))
next k = omega arith

pub put_spread : (ws rest : List ℕ) (k w : ℕ) → k < length ws → put (spread ws ++ rest) (2 * k) w ≡ spread (slice_set ws k w) ++ rest
put_spread [] rest k w h = absurd (omega arith)
put_spread (v ∷ vs) rest zero w h = refl
put_spread (v ∷ vs) rest (suc k) w h =
    let i : k < length vs = omega arith in
    let e = put_spread vs rest k w i in
    rw (double k, next (2 * k), e)

pub word_spread : (ws rest : List ℕ) (k : ℕ) → k < length ws → word (spread ws ++ rest) (2 * k) ≡ slice_index ws k
word_spread [] rest k h = absurd (omega arith)
word_spread (v ∷ vs) rest zero h = mod-add-div v 256
word_spread (v ∷ vs) rest (suc k) h =
    let i : k < length vs = omega arith in
    let e = word_spread vs rest k i in
    rw (double k, next (2 * k)) e

-- bytes that read as words are those words
pub spread_from : (bs ws : List ℕ) → length bs ≡ 2 * length ws → ((i : ℕ) → slice_index bs i < 256) → ((k : ℕ) → k < length ws → word bs (2 * k) ≡ slice_index ws k) → bs ≡ spread ws
spread_from bs [] l t r = nil_from_length bs l
spread_from [] (w ∷ ws) l t r = absurd (omega arith)
spread_from (a ∷ []) (w ∷ ws) l t r = absurd (omega arith)
spread_from (a ∷ b ∷ bs) (w ∷ ws) l t r =
    let h : a + 256 * b ≡ w = r 0 (omega arith) in
    let s : a < 256 = t 0 in
    let lo : a ≡ w % 256 = omega arith in
    let hi : b ≡ w / 256 = omega arith in
    let rest : bs ≡ spread ws =
    spread_from bs ws (omega arith) (λ i. t (suc (suc i))) (λ k i. let e = r (suc k) (omega arith) in rw (double k, next (2 * k)) at e) in
    rw (← lo, ← hi, rest)
