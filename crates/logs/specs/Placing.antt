-- Where the words of a log stand.
use Rattle.std.specs.Prelude.{◌≡◌, ℕ, zero, suc, ◌+◌, ◌-◌, ◌*◌, ◌<◌, ◌≤◌, Bool, true, false, cond, List, [], ◌∷◌, ◌++◌, length, set, ◌==◌, slice_index, slice_set, refl}
use Rattle.std.proofs.Common.{ap, ◌∙◌, ⊎_elim, arith}
use Rattle.std.proofs.lemmas.List.{length-append, get_or_append_left, get_or-append_right, set-append_left, set-append_right, set_past}
use Rattle.std.proofs.lemmas.Bool.{cases_order, eq-eqb, ne_eqb}
use Rattle.logs.specs.declared.side.Side.{Side}
use Rattle.logs.specs.declared.side.Side.TheVariants.{Leaving, Arriving}
use Rattle.logs.specs.declared.span.Span.{Span}
use Rattle.logs.specs.Sides.{column}
use Rattle.logs.specs.Words.{spread, word}
use Rattle.logs.specs.History.{latest, table, pair, heads, record_of, entries, size, encode}
use Rattle.logs.specs.Opening.{head_at}
use Rattle.logs.specs.Spread.{length_spread, word_spread}

pub column_few : (s : Side) → column s ≤ 1
column_few Leaving = omega arith
column_few Arriving = omega arith

-- ---- a table whose rows have two words

abbrev Two : (ℕ → List ℕ) → Type 0
Two row = (u : ℕ) → length (row u) ≡ 2

length_table : (row : ℕ → List ℕ) (n : ℕ) → Two row → length (table row n) ≡ 2 * n
length_table row zero two = refl
length_table row (suc n) two =
    let e = length_table row n two in
    let t = two n in
    simp length-append (omega arith)

table_at : (row : ℕ → List ℕ) (n u c : ℕ) → Two row → u < n → c < 2 → slice_index (table row n) (2 * u + c) ≡ slice_index (row u) c
table_at row zero u c two h i = absurd (omega arith)
table_at row (suc n) u c two h i =
    let l = length_table row n two in
    let d : 2 * n + c - 2 * n ≡ c = omega arith in
    ⊎_elim
    (λ (e : u ≡ n). rw e (get_or-append_right (table row n) (row n) (2 * n) (2 * n + c) 0 l (omega arith) ∙ ap (λ x. slice_index (row n) x) d))
    (⊎_elim
    (λ (e : u < n). get_or_append_left (table row n) (row n) 0 (2 * u + c) (omega arith) ∙ table_at row n u c two e i)
    (λ (e : n < u). absurd (omega arith)))
    (cases_order u n)

-- a word of the table written anew
set_table : (row : ℕ → List ℕ) (n u c w : ℕ) → Two row → c < 2 → slice_set (table row n) (2 * u + c) w ≡ table (λ k. cond (u == k) (slice_set (row k) c w) (row k)) n
set_table row zero u c w two i = refl
set_table row (suc n) u c w two i =
    let l = length_table row n two in
    let t = two n in
    let e = set_table row n u c w two i in
    ⊎_elim
    (λ (h : u ≡ n).
    let p : set (table row n) (2 * u + c) w ≡ table row n = set_past (table row n) (2 * u + c) w (omega arith) in
    let d : 2 * u + c - 2 * u ≡ c = omega arith in
    let b = eq-eqb u n h in
    set-append_right (table row n) (row n) (2 * u) (2 * u + c) w (omega arith) (omega arith) ∙ rw (d, b, ← e, p))
    (⊎_elim
    (λ (h : u < n).
    let b = ne_eqb u n (omega arith) in
    set-append_left (table row n) (row n) (2 * u + c) w (omega arith) ∙ rw (b, e))
    (λ (h : n < u).
    let b = ne_eqb u n (omega arith) in
    let p : set (table row n) (2 * u + c) w ≡ table row n = set_past (table row n) (2 * u + c) w (omega arith) in
    set_past (table row n ++ row n) (2 * u + c) w (simp length-append (omega arith)) ∙ rw (b, ← e, p)))
    (cases_order u n)

table_same : (f g : ℕ → List ℕ) (n : ℕ) → ((u : ℕ) → f u ≡ g u) → table f n ≡ table g n
table_same f g zero e = refl
table_same f g (suc n) e = rw (table_same f g n e, e n)

-- ---- the heads

pub length_heads : (n : ℕ) (h : List Span) → length (heads n h) ≡ 2 * n
unfolding heads
length_heads n h = length_table (pair h) n (λ u. refl)

pair_at : (h : List Span) (u : ℕ) (s : Side) → slice_index (pair h u) (column s) ≡ latest s u h
pair_at h u Leaving = refl
pair_at h u Arriving = refl

pub heads_at : (n : ℕ) (h : List Span) (s : Side) (u : ℕ) → u < n → slice_index (heads n h) (2 * u + column s) ≡ latest s u h
unfolding heads
heads_at n h s u i =
    let c = column_few s in
    table_at (pair h) n u (column s) (λ v. refl) i (omega arith) ∙ pair_at h u s

-- both words of a row, written where its tests say
both_set : (a b : Bool) (x y w : ℕ) → cond b (slice_set (cond a (slice_set (x ∷ y ∷ []) 0 w) (x ∷ y ∷ [])) 1 w) (cond a (slice_set (x ∷ y ∷ []) 0 w) (x ∷ y ∷ [])) ≡ cond a w x ∷ cond b w y ∷ []
both_set true true x y w = refl
both_set true false x y w = refl
both_set false true x y w = refl
both_set false false x y w = refl

row_two : (a : Bool) (x y w : ℕ) → length (cond a (slice_set (x ∷ y ∷ []) 0 w) (x ∷ y ∷ [])) ≡ 2
row_two true x y w = refl
row_two false x y w = refl

-- the heads after one span more
pub heads_more : (n : ℕ) (s : Span) (h : List Span) → slice_set (slice_set (heads n h) (2 * s.from + 0) (suc (length h))) (2 * s.to + 1) (suc (length h)) ≡ heads n (s ∷ h)
unfolding heads
heads_more n s h =
    let w = suc (length h) in
    let half : ℕ → List ℕ = λ k. cond (s.from == k) (slice_set (pair h k) 0 (suc (length h))) (pair h k) in
    ap (λ t. set t (2 * s.to + 1) w) (set_table (pair h) n s.from 0 w (λ u. refl) (omega arith))
    ∙ set_table half n s.to 1 w (λ u. row_two (s.from == u) (latest Leaving u h) (latest Arriving u h) w) (omega arith)
    ∙ table_same (λ k. cond (s.to == k) (slice_set (half k) 1 w) (half k)) (pair (s ∷ h)) n (λ u. both_set (s.from == u) (s.to == u) (latest Leaving u h) (latest Arriving u h) w)

-- ---- the records

pub length_entries : (h : List Span) → length (entries h) ≡ 4 * length h
unfolding entries
length_entries [] = refl
length_entries (s ∷ h) =
    let e = length_entries h in
    simp length-append (omega arith)

pub entries_more : (s : Span) (h : List Span) → entries (s ∷ h) ≡ entries h ++ record_of s h
unfolding entries
entries_more s h = refl

-- ---- all words, behind any first two

abbrev pub words : ℕ → ℕ → ℕ → List Span → List ℕ
words a b n h = a ∷ b ∷ (heads n h ++ entries h)

pub length_words : (a b n : ℕ) (h : List Span) → length (words a b n h) ≡ 2 + 2 * n + 4 * length h
length_words a b n h =
    let x = length_heads n h in
    let y = length_entries h in
    simp length-append (omega arith)

pub length_bytes : (a b n : ℕ) (h : List Span) → length (spread (words a b n h)) ≡ size n (length h)
length_bytes a b n h =
    let x = length_spread (words a b n h) in
    let y = length_words a b n h in
    omega arith

pub length_encode : (n : ℕ) (h : List Span) → length (encode n h) ≡ size n (length h)
unfolding encode
length_encode n h = length_bytes n (length h) n h

pub body_word : (a b n : ℕ) (h : List Span) (rest : List ℕ) (k : ℕ) → k < 2 * n + 4 * length h → word (spread (words a b n h) ++ rest) (4 + 2 * k) ≡ slice_index (heads n h ++ entries h) k
body_word a b n h rest k i =
    let l = length_words a b n h in
    let p : 4 + 2 * k ≡ 2 * suc (suc k) = omega arith in
    ap (word (spread (words a b n h) ++ rest)) p ∙ word_spread (words a b n h) rest (suc (suc k)) (omega arith)

pub head_word : (a b n : ℕ) (h : List Span) (rest : List ℕ) (s : Side) (u : ℕ) → u < n → word (spread (words a b n h) ++ rest) (head_at s u) ≡ latest s u h
head_word a b n h rest s u i =
    let c = column_few s in
    let l = length_heads n h in
    let p : head_at s u ≡ 4 + 2 * (2 * u + column s) = omega arith in
    ap (word (spread (words a b n h) ++ rest)) p
    ∙ body_word a b n h rest (2 * u + column s) (omega arith)
    ∙ get_or_append_left (heads n h) (entries h) 0 (2 * u + column s) (omega arith)
    ∙ heads_at n h s u i
