-- How the bytes of a draft follow its history.
use Rattle.std.specs.Prelude.{◌≡◌, ℕ, zero, suc, ◌+◌, ◌*◌, ◌<◌, ◌≤◌, true, false, List, [], ◌∷◌, ◌++◌, length, take, drop, replicate, None, slice_set, refl}
use Rattle.std.proofs.Common.{sym, ap, ◌∙◌, arith}
use borrow.Rule.Slice.PartMut.{put_mid}
use Rattle.std.proofs.lemmas.List.{append_assoc, append-nil, length-append, length-drop, length-set, length-take-le, set-append_left, take_at, drop_at, drop-drop, replicate-append-replicate}
use Rattle.std.proofs.lemmas.Bool.{and_from, and_parts, cond-false, lt-ltb, ltb-true, or_from, ne_eqb, le-ltb}
use Rattle.std.proofs.lemmas.Bool.Decides.{nat_tests}
use Rattle.logs.specs.declared.side.Side.{Side}
use Rattle.logs.specs.declared.side.Side.TheVariants.{Leaving, Arriving}
use Rattle.logs.specs.declared.span.Span.{Span}
use Rattle.logs.specs.Sides.{near}
use Rattle.logs.specs.Words.{spread, word, put}
use Rattle.logs.specs.History.{inside, heads, record_of, entries, size, encode, unsealed}
use Rattle.logs.specs.Opening.{Accepted, head_at}
use Rattle.logs.specs.Drafts.{Drafted, Wrote, added, behind, empty, fitting, sealed, sealed_length}
use Rattle.logs.specs.Spread.{spread_append, put_spread}
use Rattle.logs.specs.Placing.{words, length_words, length_bytes, length_encode, length_heads, head_word, heads_more, entries_more}

-- every span of a history is inside where the newest is and the older ones are
pub inside_more : (n : ℕ) (s : Span) (h : List Span) → s.from < n → s.to < n → inside n h ≡ true → inside n (s ∷ h) ≡ true
inside_more n s h i j t = and_from _ _ (lt-ltb s.from n i) (and_from _ _ (lt-ltb s.to n j) t)

pub inside_parts : (n : ℕ) (s : Span) (h : List Span) → inside n (s ∷ h) ≡ true → (s.from < n) × (s.to < n) × (inside n h ≡ true)
inside_parts n s h t =
    let a = and_parts _ _ t in
    let b = and_parts _ _ a.1 in
    (ltb-true s.from n a.0, ltb-true s.to n b.0, b.1)

pub near_inside : (n : ℕ) (s : Side) (x : Span) (h : List Span) → inside n (x ∷ h) ≡ true → near s x < n
near_inside n Leaving x h t = (inside_parts n x h t).0
near_inside n Arriving x h t = (inside_parts n x h t).1

-- ---- the start

fitting_tells : (n len : ℕ) → fitting n len ≡ None → (1 ≤ n) × (n ≤ 1024) × (4 + 4 * n ≤ len)
fitting_tells n len e = (grind (arith, nat_tests), grind (arith, nat_tests), grind (arith, nat_tests))

-- a table of zeros
zeros : (n : ℕ) → spread (heads n []) ≡ replicate (4 * n) 0
unfolding heads
zeros zero = refl
zeros (suc n) =
    let e = zeros n in
    let f : 4 * suc n ≡ 4 * n + 4 = omega arith in
    spread_append (heads n []) (0 ∷ 0 ∷ [])
    ∙ rw (e, f) (replicate-append-replicate (4 * n) 4 0)

blank : (n : ℕ) → spread (words 0 0 n []) ≡ replicate (4 + 4 * n) 0
unfolding entries
blank n =
    let e = zeros n in
    simp append-nil (rw e (replicate-append-replicate 4 (4 * n) 0))

pub started : (n k : ℕ) (before front : List ℕ) → fitting n (length before) ≡ None → k ≡ 4 + 4 * n → front ≡ replicate (length (take k before)) 0 → Drafted before n 0 [] (front ++ drop k before)
unfolding unsealed
started n k before front e i f =
    let t = fitting_tells n (length before) e in
    let l = length-take-le (4 + 4 * n) before t.2 in
    let z : 4 + 4 * n + 0 ≡ 4 + 4 * n = omega arith in
    record {
      some = t.0;
      few = t.1;
      count = refl;
      most = omega arith;
      room = omega arith;
      inside = refl;
      bytes = rw (f, i, l, ← blank n, z);
    }

-- ---- one span more

pub length_drafted : (before : List ℕ) (n m : ℕ) (h : List Span) (buffer : List ℕ) → Drafted before n m h buffer → length buffer ≡ length before
unfolding unsealed
length_drafted before n m h buffer d =
    let a = length_bytes 0 0 n h in
    let b = length-drop (size n (length h)) before in
    let e = length-append (spread (words 0 0 n h)) (drop (size n (length h)) before) in
    let c = d.count in
    let r = d.room in
    let l = ap length d.bytes in
    omega arith

-- what the code writes is `added`
pub writes : (buffer part one two : List ℕ) (n m out into k at p q : ℕ) (s : Span) → k ≡ 8 → at ≡ size n m → p ≡ head_at Leaving s.from → q ≡ head_at Arriving s.to → out ≡ word buffer p → into ≡ word buffer q → part ≡ spread (s.from ∷ s.to ∷ out ∷ into ∷ []) → one ≡ put (put_mid at k buffer part) p (m + 1) → two ≡ put one q (m + 1) → two ≡ added n m buffer s
writes buffer part one two n m out into k at p q s e8 ea f t eo ei ep e1 e2 =
    rw (e2, e1, ep, eo, ei, f, t, ea, e8, drop-drop 8 (size n m) buffer)

-- a record behind the words of a draft
behind_words : (n m : ℕ) (h : List Span) (s : Span) (buffer rest : List ℕ) → m ≡ length h → buffer ≡ spread (words 0 0 n h) ++ rest → s.from < n → s.to < n → behind n m buffer s ≡ spread (words 0 0 n h ++ record_of s h) ++ drop 8 rest
behind_words n m h s buffer rest c b i j =
    let ws = words 0 0 n h in
    let l : length (spread (words 0 0 n h)) ≡ size n m = length_bytes 0 0 n h ∙ ap (size n) (sym c) in
    rw (
      b,
      take_at (spread ws) rest (size n m) l,
      head_word 0 0 n h rest Leaving s.from i,
      head_word 0 0 n h rest Arriving s.to j,
      ← drop-drop 8 (size n m) (spread ws ++ rest),
      drop_at (spread ws) rest (size n m) l,
    )
    (sym (append_assoc (spread ws) (spread (record_of s h)) (drop 8 rest)) ∙ ap (λ x. x ++ drop 8 rest) (sym (spread_append ws (record_of s h))))

-- the words of the heads written anew, before a record that is written already
anew : (n : ℕ) (s : Span) (h : List Span) → s.from < n → s.to < n → slice_set (slice_set (words 0 0 n h ++ record_of s h) (suc (suc (2 * s.from + 0))) (suc (length h))) (suc (suc (2 * s.to + 1))) (suc (length h)) ≡ words 0 0 n (s ∷ h)
anew n s h i j =
    let l = length_heads n h in
    let w = suc (length h) in
    let tail = entries h ++ record_of s h in
    let one = slice_set (heads n h) (2 * s.from + 0) w in
    let k : length (slice_set (heads n h) (2 * s.from + 0) (suc (length h))) ≡ 2 * n = length-set (heads n h) (2 * s.from + 0) w ∙ l in
    rw (
      append_assoc (heads n h) (entries h) (record_of s h),
      set-append_left (heads n h) tail (2 * s.from + 0) w (omega arith),
      set-append_left one tail (2 * s.to + 1) w (omega arith),
      heads_more n s h,
      entries_more s h,
    )

pub grown : (before buffer two : List ℕ) (n m : ℕ) (s : Span) (h : List Span) → Drafted before n m h buffer → s.from < n → s.to < n → m < 4096 → size n m + 8 ≤ length buffer → two ≡ added n m buffer s → Drafted before n (m + 1) (s ∷ h) two
unfolding unsealed
grown before buffer two n m s h d i j few room e =
    let rest = drop (size n (length h)) before in
    let c = d.count in
    let lb = length_drafted before n m h buffer d in
    let lw = length_words 0 0 n h in
    let ws = words 0 0 n h ++ record_of s h in
    let lq : length (words 0 0 n h ++ record_of s h) ≡ length (words 0 0 n h) + 4 = length-append (words 0 0 n h) (record_of s h) in
    let w : m + 1 ≡ suc (length h) = omega arith in
    let pf : head_at Leaving s.from ≡ 2 * suc (suc (2 * s.from + 0)) = omega arith in
    let pt : head_at Arriving s.to ≡ 2 * suc (suc (2 * s.to + 1)) = omega arith in
    let one = slice_set ws (suc (suc (2 * s.from + 0))) (suc (length h)) in
    let lo : length (slice_set (words 0 0 n h ++ record_of s h) (suc (suc (2 * s.from + 0))) (suc (length h))) ≡ length (words 0 0 n h ++ record_of s h) = length-set ws (suc (suc (2 * s.from + 0))) (suc (length h)) in
    let sz : size n (length h) + 8 ≡ size n (suc (length h)) = omega arith in
    record {
      some = d.some;
      few = d.few;
      count = w;
      most = omega arith;
      room = omega arith;
      inside = inside_more n s h i j d.inside;
      bytes =
          rw (
            e,
            behind_words n m h s buffer rest c d.bytes i j,
            pf,
            pt,
            w,
            put_spread ws (drop 8 rest) (suc (suc (2 * s.from + 0))) (suc (length h)) (omega arith),
            put_spread one (drop 8 rest) (suc (suc (2 * s.to + 1))) (suc (length h)) (omega arith),
          )
          (ap (λ x. spread x ++ drop 8 rest) (anew n s h i j)
          ∙ ap (λ x. spread (words 0 0 n (s ∷ h)) ++ x) (drop-drop 8 (size n (length h)) before ∙ ap (λ x. drop x before) sz));
    }

-- ---- the seal

put_first : (n m : ℕ) (h : List Span) (rest : List ℕ) → m ≡ length h → put (put (spread (words 0 0 n h) ++ rest) 0 n) 2 m ≡ encode n h ++ rest
unfolding encode
put_first n m h rest c = ap (λ x. spread (words n x n h) ++ rest) c

-- what a draft would seal is a log
accepted : (before : List ℕ) (n m : ℕ) (h : List Span) (buffer : List ℕ) → Drafted before n m h buffer → Accepted (encode n h) n h
accepted before n m h buffer d =
    let c = d.count in
    let m = d.most in
    record { written = refl; some = d.some; few = d.few; short = omega arith; inside = d.inside }

pub seals : (before : List ℕ) (n m len : ℕ) (h : List Span) (buffer after : List ℕ) → Drafted before n m h buffer → len ≡ sealed_length n m buffer → after ≡ sealed n m buffer → Wrote n h before len after
unfolding unsealed
seals before n m len h buffer after d e f =
    let c = d.count in
    let l = length_drafted before n m h buffer d in
    let r = d.room in
    let s = d.some in
    let no : empty n buffer ≡ false = or_from _ _ (ne_eqb n 0 (omega arith)) (le-ltb (length buffer) 4 (omega arith)) in
    let k : len ≡ size n (length h) = e ∙ cond-false _ 0 (size n m) no ∙ ap (size n) c in
    record {
      gives = k;
      extent = length_encode n h ∙ sym k;
      log = accepted before n m h buffer d;
      bytes =
          f
          ∙ cond-false _ buffer (put (put buffer 0 n) 2 m) no
          ∙ ap (λ x. put (put x 0 n) 2 m) d.bytes
          ∙ put_first n m h (drop (size n (length h)) before) c
          ∙ ap (λ x. encode n h ++ drop x before) (sym k);
    }
