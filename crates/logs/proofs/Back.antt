-- The bytes of a history read back as that history, and pass every test.
use Rattle.std.proofs.Common.{◌≡◌, ℕ, zero, suc, ◌+◌, ◌-◌, ◌*◌, ◌<◌, ◌≤◌, true, List, [], ◌∷◌, ◌++◌, length, get_or, None, sym, refl, ap, ◌∙◌, subst, ⊎_elim, arith}
use Rattle.std.proofs.lemmas.List.{append-nil, get_or_append_left, get_or-append_right}
use Rattle.std.proofs.lemmas.Bool.{cases_eq}
use Rattle.std.proofs.lemmas.Bool.Decides.{nat_tests}
use Rattle.logs.specs.declared.opening.Tested.{Tested}
use Rattle.logs.specs.declared.side.Side.{Side}
use Rattle.logs.specs.declared.side.Side.TheVariants.{Leaving, Arriving}
use Rattle.logs.specs.declared.span.Span.{Span}
use Rattle.logs.specs.Sides.{column, near}
use Rattle.logs.specs.Words.{spread, word}
use Rattle.logs.specs.History.{encode, entries, heads, inside, latest, record_of, size}
use Rattle.logs.specs.Opening.{Accepted, Chain, Chains, Judged, Ranged, Whole, end, end_at, head_at, headed, link, more, next_at, none, spans_at}
use Rattle.logs.specs.Spread.{word_spread}
use Rattle.logs.specs.Placing.{words, length_words, length_heads, length_entries, length_encode, entries_more, body_word, head_word, column_few}
use Rattle.logs.specs.Drafting.{inside_parts, near_inside}
use Rattle.logs.proofs.Ranges.{ranged_from}
use Rattle.logs.proofs.Canon.{Linked, count, count_other, count_own, length_spans, newest, newest_few, newest_other, newest_own, tally, tally_all}
use Rattle.logs.proofs.Afresh.{record_end, record_next}

-- the words of the records stand behind the heads
abbrev Holding : List ℕ → ℕ → List Span → Type 0
Holding bytes n h = (i : ℕ) → i < 4 * length h → word bytes (4 + 4 * n + 2 * i) ≡ get_or (entries h) i 0

-- the records read as those of the history
record Read (bytes : List ℕ) (n : ℕ) (h : List Span) : Type 0 where
  same : spans_at bytes n (length h) ≡ h
  next : (s : Side) (j : ℕ) → j < length h → word bytes (next_at n s j) ≡ newest bytes n s (word bytes (end_at n s j)) j
  below : (s : Side) (j : ℕ) → j < length h → word bytes (end_at n s j) < n

-- the words of the newest record
top : (bytes : List ℕ) (n : ℕ) (x : Span) (h : List Span) (c : ℕ) → Holding bytes n (x ∷ h) → c < 4 → word bytes (4 + 4 * n + 2 * (4 * length h + c)) ≡ get_or (record_of x h) c 0
top bytes n x h c k i =
    let l = length_entries h in
    let d : 4 * length h + c - 4 * length h ≡ c = omega arith in
    k (4 * length h + c) (omega arith)
    ∙ ap (λ y. get_or y (4 * length h + c) 0) (entries_more x h)
    ∙ get_or-append_right (entries h) (record_of x h) (4 * length h) (4 * length h + c) 0 l (omega arith)
    ∙ ap (λ y. get_or (record_of x h) y 0) d

top_end : (bytes : List ℕ) (n : ℕ) (x : Span) (h : List Span) (s : Side) → Holding bytes n (x ∷ h) → word bytes (end_at n s (length h)) ≡ near s x
top_end bytes n x h s k =
    let c = column_few s in
    let p : end_at n s (length h) ≡ 4 + 4 * n + 2 * (4 * length h + column s) = omega arith in
    ap (word bytes) p ∙ top bytes n x h (column s) k (omega arith) ∙ record_end x h s

top_next : (bytes : List ℕ) (n : ℕ) (x : Span) (h : List Span) (s : Side) → Holding bytes n (x ∷ h) → word bytes (next_at n s (length h)) ≡ latest s (near s x) h
top_next bytes n x h s k =
    let c = column_few s in
    let p : next_at n s (length h) ≡ 4 + 4 * n + 2 * (4 * length h + (2 + column s)) = omega arith in
    ap (word bytes) p ∙ top bytes n x h (2 + column s) k (omega arith) ∙ record_next x h s

older : (bytes : List ℕ) (n : ℕ) (x : Span) (h : List Span) → Holding bytes n (x ∷ h) → Holding bytes n h
older bytes n x h k i l =
    let e = length_entries h in
    k i (omega arith)
    ∙ ap (λ y. get_or y i 0) (entries_more x h)
    ∙ get_or_append_left (entries h) (record_of x h) 0 i (omega arith)

read : (bytes : List ℕ) (n : ℕ) (h : List Span) → Holding bytes n h → inside n h ≡ true → Read bytes n h
read bytes n [] k t = record { same = refl; next = λ s j l. absurd (omega arith); below = λ s j l. absurd (omega arith) }
read bytes n (x ∷ h) k t =
    let i = inside_parts n x h t in
    let r = read bytes n h (older bytes n x h k) i.2 in
    let m = length h in
    let e = top_end bytes n x h in
    record {
      same = rw (e Leaving k, e Arriving k, r.same);
      next = λ s j l.
          ⊎_elim
          (λ (q : j ≡ length h).
          rw q
          (top_next bytes n x h s k ∙ ap (latest s (near s x)) (sym r.same) ∙ ap (λ y. newest bytes n s y m) (sym (e s k))))
          (λ (q : j ≡ length h → ⊥). r.next s j (omega arith))
          (cases_eq j m);
      below = λ s j l.
          ⊎_elim
          (λ (q : j ≡ length h). rw (q, e s k) (near_inside n s x h t))
          (λ (q : j ≡ length h → ⊥). r.below s j (omega arith))
          (cases_eq j m);
    }

-- ---- the words of the bytes of a history

-- bytes as the lemmas on words behind which something follows have them
encoded : (n : ℕ) (h : List Span) → spread (words n (length h) n h) ++ [] ≡ encode n h
unfolding encode
encoded n h = append-nil (spread (words n (length h) n h))

word_encode : (n : ℕ) (h : List Span) (k : ℕ) → k < 2 + 2 * n + 4 * length h → word (encode n h) (2 * k) ≡ get_or (words n (length h) n h) k 0
word_encode n h k l =
    let b = length_words n (length h) n h in
    ap (λ x. word x (2 * k)) (sym (encoded n h)) ∙ word_spread (words n (length h) n h) [] k (omega arith)

holding : (n : ℕ) (h : List Span) → Holding (encode n h) n h
holding n h i l =
    let e = length_heads n h in
    let p : 4 + 4 * n + 2 * i ≡ 4 + 2 * (2 * n + i) = omega arith in
    let d : 2 * n + i - 2 * n ≡ i = omega arith in
    ap (word (encode n h)) p
    ∙ ap (λ x. word x (4 + 2 * (2 * n + i))) (sym (encoded n h))
    ∙ body_word n (length h) n h [] (2 * n + i) (omega arith)
    ∙ get_or-append_right (heads n h) (entries h) (2 * n) (2 * n + i) 0 e (omega arith)
    ∙ ap (λ x. get_or (entries h) x 0) d

read_back : (n : ℕ) (h : List Span) → inside n h ≡ true → Read (encode n h) n h
read_back n h t = read (encode n h) n h (holding n h) t

head_newest : (n : ℕ) (h : List Span) (s : Side) (u : ℕ) → inside n h ≡ true → u < n → word (encode n h) (head_at s u) ≡ newest (encode n h) n s u (length h)
head_newest n h s u t l =
    ap (λ x. word x (head_at s u)) (sym (encoded n h))
    ∙ head_word n (length h) n h [] s u l
    ∙ ap (latest s u) (sym (read_back n h t).same)

-- ---- the chains

module _ (bytes : List ℕ) (n : ℕ) (s : Side) where
  -- the chain that begins at the newest of the first records
  chain_from : (m u k p : ℕ) → Linked bytes n s m → k ≤ m → word bytes p ≡ newest bytes n s u k → (js : List ℕ) × (Chain bytes n s u p js × (length js ≡ count bytes n s u k))
  chain_from m u zero p x l e = ([], (end e, refl))
  chain_from m u (suc k) p x l e =
      ⊎_elim
      (λ (o : word bytes (end_at n s k) ≡ u).
      let f : word bytes (next_at n s k) ≡ newest bytes n s u k = x k (omega arith) ∙ ap (λ y. newest bytes n s y k) o in
      let c = chain_from m u k (next_at n s k) x (omega arith) f in
      (k ∷ c.0, (link (e ∙ newest_own bytes n s u k o) o c.1.0, ap suc c.1.1 ∙ sym (count_own bytes n s u k o))))
      (λ (o : word bytes (end_at n s k) ≡ u → ⊥).
      let c = chain_from m u k p x (omega arith) (e ∙ newest_other bytes n s u k o) in
      (c.0, (c.1.0, c.1.1 ∙ sym (count_other bytes n s u k o))))
      (cases_eq (word bytes (end_at n s k)) u)

  chains_from : (m u : ℕ) → Linked bytes n s m → ((v : ℕ) → v < n → word bytes (head_at s v) ≡ newest bytes n s v m) → u ≤ n → Chains bytes n s u (tally bytes n s u m)
  chains_from m zero x y l = none
  chains_from m (suc u) x y l =
      let cs = chains_from m u x y (omega arith) in
      let c = chain_from m u m (head_at s u) x (omega arith) (y u (omega arith)) in
      subst (λ z. Chains bytes n s (suc u) (tally bytes n s u m + z)) c.1.1 (more cs c.1.0)

whole : (n : ℕ) (h : List Span) → inside n h ≡ true → Whole (encode n h) n (length h)
whole n h t =
    let bytes = encode n h in
    let m = length h in
    let x = read_back n h t in
    let r : Ranged (encode n h) n (length h) =
    ranged_from bytes n m
    (λ s u l. let e = head_newest n h s u t l in let f = newest_few bytes n s u m in omega arith)
    x.below
    (λ s j l. let e = x.next s j l in let f = newest_few bytes n s (word bytes (end_at n s j)) j in omega arith) in
    record {
      ranged = r;
      chains = λ s.
          subst (λ z. Chains (encode n h) n s n z) (tally_all bytes n s m m r (omega arith))
          (chains_from bytes n s m n (x.next s) (λ v l. head_newest n h s v t l) (omega arith));
    }

-- ---- accepted bytes

pub first_word : (bytes : List ℕ) (n : ℕ) (h : List Span) → Accepted bytes n h → word bytes 0 ≡ n
first_word bytes n h a = ap (λ x. word x 0) a.written ∙ word_encode n h 0 (omega arith)

second_word : (bytes : List ℕ) (n : ℕ) (h : List Span) → Accepted bytes n h → word bytes 2 ≡ length h
second_word bytes n h a = ap (λ x. word x 2) a.written ∙ word_encode n h 1 (omega arith)

pub headed_ok : (bytes : List ℕ) (n m : ℕ) → word bytes 0 ≡ n → word bytes 2 ≡ m → 1 ≤ n → n ≤ 1024 → m ≤ 4096 → length bytes ≡ size n m → headed bytes ≡ None
headed_ok bytes n m a b some few short l = grind (arith, nat_tests)

pub accepted_headed : (bytes : List ℕ) (n : ℕ) (h : List Span) → Accepted bytes n h → headed bytes ≡ None
accepted_headed bytes n h a =
    headed_ok bytes n (length h) (first_word bytes n h a) (second_word bytes n h a) a.some a.few a.short (ap length a.written ∙ length_encode n h)

-- whole, at the numbers that the first words give
pub accepted_whole : (bytes : List ℕ) (n : ℕ) (h : List Span) → Accepted bytes n h → Whole bytes (word bytes 0) (word bytes 2)
accepted_whole bytes n h a =
    subst (λ x. Whole bytes x (word bytes 2)) (sym (first_word bytes n h a))
    (subst (λ x. Whole bytes n x) (sym (second_word bytes n h a))
    (subst (λ x. Whole x n (length h)) (sym a.written) (whole n h a.inside)))

-- bytes are the log of one history only
pub accepted_spans : (bytes : List ℕ) (n : ℕ) (h : List Span) → Accepted bytes n h → h ≡ spans_at bytes (word bytes 0) (word bytes 2)
accepted_spans bytes n h a =
    sym (read_back n h a.inside).same
    ∙ ap (λ x. spans_at x n (length h)) (sym a.written)
    ∙ ap (λ x. spans_at bytes x (length h)) (sym (first_word bytes n h a))
    ∙ ap (λ x. spans_at bytes (word bytes 0) x) (sym (second_word bytes n h a))

-- tested bytes are the log of their spans
pub accepted : (t : Tested) → Accepted t.log.bytes.now t.log.header.n (spans_at t.log.bytes.now t.log.header.n t.log.header.m)
accepted t =
    let l = length_spans t.log.bytes.now t.log.header.n t.log.header.m in
    record { written = t.written; some = t.log.some; few = t.log.few; short = omega (arith, t.log.short); inside = t.within }

-- they pass every test
pub judged : (t : Tested) → Judged t.log.bytes.now t.log.header.n t.log.header.m
judged t =
    let bytes = t.log.bytes.now in
    let n = t.log.header.n in
    let h = spans_at bytes n t.log.header.m in
    record {
      len = t.log.len;
      some = t.log.some;
      few = t.log.few;
      short = t.log.short;
      whole =
          subst (λ b. Whole b n t.log.header.m) (sym t.written)
          (subst (Whole (encode n h) n) (length_spans bytes n t.log.header.m) (whole n h t.within));
    }
