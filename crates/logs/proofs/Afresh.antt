-- An accepted log is what a draft of its spans would write.
use Rattle.std.proofs.Common.{◌≡◌, ℕ, zero, suc, ◌+◌, ◌-◌, ◌*◌, ◌/◌, ◌%◌, ◌<◌, ◌≤◌, List, ◌++◌, length, get_or, sym, refl, ap, ◌∙◌, subst, ⊎_elim, arith}
use Rattle.std.proofs.lemmas.List.{get_or_append_left, get_or-append_right}
use Rattle.std.proofs.lemmas.Bool.{cases_lt, cases_order}
use Rattle.logs.specs.declared.side.Side.{Side}
use Rattle.logs.specs.declared.side.Side.TheVariants.{Leaving, Arriving}
use Rattle.logs.specs.declared.span.Span.{Span}
use Rattle.logs.specs.Sides.{column, near}
use Rattle.logs.specs.Words.{word}
use Rattle.logs.specs.History.{latest, heads, record_of, entries, size, encode}
use Rattle.logs.specs.Opening.{head_at, end_at, next_at, Whole, span_at, spans_at}
use Rattle.logs.specs.Spread.{spread_from}
use Rattle.logs.specs.Placing.{words, length_heads, length_entries, length_words, heads_at, entries_more}
use Rattle.logs.proofs.Ranges.{side_of}
use Rattle.logs.proofs.Canon.{near_end, length_spans, exact_at, linked}

-- the words of a record, by side
pub record_end : (x : Span) (h : List Span) (s : Side) → get_or (record_of x h) (column s) 0 ≡ near s x
record_end x h Leaving = refl
record_end x h Arriving = refl

pub record_next : (x : Span) (h : List Span) (s : Side) → get_or (record_of x h) (2 + column s) 0 ≡ latest s (near s x) h
record_next x h Leaving = refl
record_next x h Arriving = refl

-- the words of the record j, as a draft would write them
abbrev row : List ℕ → ℕ → ℕ → List ℕ
row bytes n j = record_of (span_at bytes n j) (spans_at bytes n j)

entries_at : (bytes : List ℕ) (n k j c : ℕ) → j < k → c < 4 → get_or (entries (spans_at bytes n k)) (4 * j + c) 0 ≡ get_or (row bytes n j) c 0
entries_at bytes n zero j c h i = absurd (omega arith)
entries_at bytes n (suc k) j c h i =
    let old = entries (spans_at bytes n k) in
    let l = length_entries (spans_at bytes n k) in
    let m = length_spans bytes n k in
    let all = ap (λ x. get_or x (4 * j + c) 0) (entries_more (span_at bytes n k) (spans_at bytes n k)) in
    ⊎_elim
    (λ (e : j ≡ k).
    let d : 4 * j + c - 4 * j ≡ c = omega arith in
    all
    ∙ get_or-append_right old (row bytes n k) (4 * j) (4 * j + c) 0 (omega arith) (omega arith)
    ∙ ap (λ x. get_or (row bytes n k) x 0) d
    ∙ ap (λ x. get_or (row bytes n x) c 0) (sym e))
    (⊎_elim
    (λ (e : j < k). all ∙ get_or_append_left old (row bytes n k) 0 (4 * j + c) (omega arith) ∙ entries_at bytes n k j c e i)
    (λ (e : k < j). absurd (omega arith)))
    (cases_order j k)

-- the words of a record are those that a draft would write
row_end : (bytes : List ℕ) (n j : ℕ) (s : Side) → word bytes (4 + 2 * (2 * n + (4 * j + column s))) ≡ get_or (row bytes n j) (column s) 0
row_end bytes n j s =
    let p : 4 + 2 * (2 * n + (4 * j + column s)) ≡ end_at n s j = omega arith in
    ap (word bytes) p ∙ sym (near_end bytes n s j) ∙ sym (record_end (span_at bytes n j) (spans_at bytes n j) s)

row_next : (bytes : List ℕ) (n m j : ℕ) (s : Side) → Whole bytes n m → j < m → word bytes (4 + 2 * (2 * n + (4 * j + (2 + column s)))) ≡ get_or (row bytes n j) (2 + column s) 0
row_next bytes n m j s w h =
    let p : 4 + 2 * (2 * n + (4 * j + (2 + column s))) ≡ next_at n s j = omega arith in
    ap (word bytes) p
    ∙ linked bytes n s m w.ranged (w.chains s) j h
    ∙ ap (λ x. latest s x (spans_at bytes n j)) (sym (near_end bytes n s j))
    ∙ sym (record_next (span_at bytes n j) (spans_at bytes n j) s)

row_word : (bytes : List ℕ) (n m j c : ℕ) → Whole bytes n m → j < m → c < 4 → word bytes (4 + 2 * (2 * n + (4 * j + c))) ≡ get_or (row bytes n j) c 0
row_word bytes n m j c w h i =
    let P : ℕ → Type 0 = λ x. word bytes (4 + 2 * (2 * n + (4 * j + x))) ≡ get_or (row bytes n j) x 0 in
    ⊎_elim
    (λ (t : c < 2).
    let x = side_of c t in
    subst P x.1 (row_end bytes n j x.0))
    (λ (t : 2 ≤ c).
    let x = side_of (c - 2) (omega arith) in
    let f = x.1 in
    let e : 2 + column x.0 ≡ c = omega arith in
    subst P e (row_next bytes n m j x.0 w h))
    (cases_lt c 2)

-- so are the heads
head_word : (bytes : List ℕ) (n m u : ℕ) (s : Side) → Whole bytes n m → u < n → word bytes (4 + 2 * (2 * u + column s)) ≡ get_or (heads n (spans_at bytes n m)) (2 * u + column s) 0
head_word bytes n m u s w h =
    let p : 4 + 2 * (2 * u + column s) ≡ head_at s u = omega arith in
    ap (word bytes) p ∙ (exact_at bytes n s m w.ranged (w.chains s) u h).head ∙ sym (heads_at n (spans_at bytes n m) s u h)

body_word : (bytes : List ℕ) (n m k : ℕ) → Whole bytes n m → k < 2 * n + 4 * m → word bytes (4 + 2 * k) ≡ get_or (heads n (spans_at bytes n m) ++ entries (spans_at bytes n m)) k 0
body_word bytes n m k w h =
    let hs = heads n (spans_at bytes n m) in
    let es = entries (spans_at bytes n m) in
    let l = length_heads n (spans_at bytes n m) in
    ⊎_elim
    (λ (i : k < 2 * n).
    let x = side_of (k % 2) (omega arith) in
    let f = x.1 in
    let e : k ≡ 2 * (k / 2) + column x.0 = omega arith in
    let a : get_or (hs ++ es) k 0 ≡ get_or hs k 0 = get_or_append_left hs es 0 k (omega arith) in
    ap (λ y. word bytes (4 + 2 * y)) e ∙ head_word bytes n m (k / 2) x.0 w (omega arith) ∙ ap (λ y. get_or hs y 0) (sym e) ∙ sym a)
    (λ (i : 2 * n ≤ k).
    let j : ℕ = (k - 2 * n) / 4 in
    let c : ℕ = (k - 2 * n) % 4 in
    let e : k ≡ 2 * n + (4 * ((k - 2 * n) / 4) + (k - 2 * n) % 4) = omega arith in
    let d : k - 2 * n ≡ 4 * ((k - 2 * n) / 4) + (k - 2 * n) % 4 = omega arith in
    let b : (k - 2 * n) / 4 < m = omega arith in
    let t : (k - 2 * n) % 4 < 4 = omega arith in
    let a : get_or (hs ++ es) k 0 ≡ get_or es (k - 2 * n) 0 = get_or-append_right hs es (2 * n) k 0 l i in
    ap (λ x. word bytes (4 + 2 * x)) e ∙ row_word bytes n m j c w b t ∙ sym (entries_at bytes n m j c b t) ∙ ap (λ x. get_or es x 0) (sym d) ∙ sym a)
    (cases_lt k (2 * n))

word_of : (bytes : List ℕ) (n m k : ℕ) → n ≡ word bytes 0 → m ≡ word bytes 2 → Whole bytes n m → k < 2 + 2 * n + 4 * m → word bytes (2 * k) ≡ get_or (words n (length (spans_at bytes n m)) n (spans_at bytes n m)) k 0
word_of bytes n m zero en em w h = sym en
word_of bytes n m (suc zero) en em w h = sym em ∙ sym (length_spans bytes n m)
word_of bytes n m (suc (suc k)) en em w h =
    let p : 2 * suc (suc k) ≡ 4 + 2 * k = omega arith in
    ap (word bytes) p ∙ body_word bytes n m k w (omega arith)

pub afresh : (bytes : List ℕ) (n m : ℕ) → length bytes ≡ size n m → ((i : ℕ) → get_or bytes i 0 < 256) → n ≡ word bytes 0 → m ≡ word bytes 2 → Whole bytes n m → bytes ≡ encode n (spans_at bytes n m)
unfolding encode
afresh bytes n m l t en em w =
    let h = spans_at bytes n m in
    let k = length_spans bytes n m in
    let b = length_words n (length h) n h in
    spread_from bytes (words n (length h) n h) (omega arith) t (λ i j. word_of bytes n m i en em w (omega arith))
