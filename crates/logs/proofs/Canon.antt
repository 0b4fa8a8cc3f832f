-- Chains that hold every record are those that a draft would write.
use Rattle.std.proofs.Common.{◌≡◌, ℕ, zero, suc, ◌<◌, ◌≤◌, List, [], ◌∷◌, map, length, Some, sym, refl, ap, ◌∙◌, ⊎_elim, arith}
use Rattle.std.proofs.lemmas.Bool.{cases_order, cases_eq, cond-true, cond-false, eq-eqb, ne_eqb}
use Rattle.logs.specs.declared.side.Side.{Side}
use Rattle.logs.specs.declared.side.Side.TheVariants.{Leaving, Arriving}
use Rattle.logs.specs.Sides.{near, other}
use Rattle.logs.specs.Words.{word}
use Rattle.logs.specs.History.{chosen, latest, slots_on}
use Rattle.logs.specs.Opening.{Ranged, head_at, end_at, next_at, Chain, Chains, end, link, none, more, span_at, spans_at}
use Rattle.books.specs.Adjacent.{slots_below}
use Rattle.logs.proofs.Ranges.{head_below, end_below, next_below}

pub near_end : (bytes : List ℕ) (n : ℕ) (s : Side) (j : ℕ) → near s (span_at bytes n j) ≡ word bytes (end_at n s j)
near_end bytes n Leaving j = refl
near_end bytes n Arriving j = refl

pub length_spans : (bytes : List ℕ) (n k : ℕ) → length (spans_at bytes n k) ≡ k
length_spans bytes n zero = refl
length_spans bytes n (suc k) = ap suc (length_spans bytes n k)

module _ (bytes : List ℕ) (n : ℕ) (s : Side) where
  -- the other ends of the first records with the end u on a side, how many these are, and the link to the newest of them
  abbrev pub reach : ℕ → ℕ → List ℕ
  reach u k = chosen s u (spans_at bytes n k)

  abbrev pub count : ℕ → ℕ → ℕ
  count u k = length (map Some (reach u k))

  abbrev pub newest : ℕ → ℕ → ℕ
  newest u k = latest s u (spans_at bytes n k)

  pub reach_own : (u j : ℕ) → word bytes (end_at n s j) ≡ u → reach u (suc j) ≡ word bytes (end_at n (other s) j) ∷ reach u j
  reach_own u j e =
      cond-true _ _ _ (eq-eqb _ _ (near_end bytes n s j ∙ e)) ∙ ap (λ x. x ∷ reach u j) (near_end bytes n (other s) j)

  pub reach_other : (u j : ℕ) → (word bytes (end_at n s j) ≡ u → ⊥) → reach u (suc j) ≡ reach u j
  reach_other u j e = cond-false _ _ _ (ne_eqb _ _ (λ o. e (sym (near_end bytes n s j) ∙ o)))

  pub count_own : (u j : ℕ) → word bytes (end_at n s j) ≡ u → count u (suc j) ≡ suc (count u j)
  count_own u j e = ap (λ xs. length (map Some xs)) (reach_own u j e)

  pub count_other : (u j : ℕ) → (word bytes (end_at n s j) ≡ u → ⊥) → count u (suc j) ≡ count u j
  count_other u j e = ap (λ xs. length (map Some xs)) (reach_other u j e)

  pub newest_own : (u j : ℕ) → word bytes (end_at n s j) ≡ u → newest u (suc j) ≡ suc j
  newest_own u j e = cond-true _ _ _ (eq-eqb _ _ (near_end bytes n s j ∙ e)) ∙ ap suc (length_spans bytes n j)

  pub newest_other : (u j : ℕ) → (word bytes (end_at n s j) ≡ u → ⊥) → newest u (suc j) ≡ newest u j
  newest_other u j e = cond-false _ _ _ (ne_eqb _ _ (λ o. e (sym (near_end bytes n s j) ∙ o)))

  pub newest_few : (u k : ℕ) → newest u k ≤ k
  newest_few u zero = omega arith
  newest_few u (suc k) =
      let e = newest_few u k in
      ⊎_elim
      (λ (o : word bytes (end_at n s k) ≡ u). let b = newest_own u k o in omega arith)
      (λ (o : word bytes (end_at n s k) ≡ u → ⊥). let b = newest_other u k o in omega arith)
      (cases_eq (word bytes (end_at n s k)) u)

  count_grows : (u j : ℕ) → count u j ≤ count u (suc j)
  count_grows u j =
      ⊎_elim
      (λ (e : word bytes (end_at n s j) ≡ u). let c = count_own u j e in omega arith)
      (λ (e : word bytes (end_at n s j) ≡ u → ⊥). let c = count_other u j e in omega arith)
      (cases_eq (word bytes (end_at n s j)) u)

  -- a chain has at most the records of its closure
  chain_few : (m u k p : ℕ) (js : List ℕ) → Ranged bytes n m → Chain bytes n s u p js → word bytes p ≤ k → k ≤ m → length js ≤ count u k
  chain_few m u k p [] r (end w) h l = omega arith
  chain_few m u zero p (j ∷ js) r (link w o c) h l = absurd (omega arith)
  chain_few m u (suc k) p (j ∷ js) r (link w o c) h l =
      ⊎_elim
      (λ (e : j ≡ k).
      let b = next_below bytes n m s j r (omega arith) in
      let t = chain_few m u k (next_at n s j) js r c (omega arith) (omega arith) in
      let a = count_own u k (rw e at o) in
      omega arith)
      (⊎_elim
      (λ (e : j < k).
      let t = chain_few m u k p (j ∷ js) r (link w o c) (omega arith) (omega arith) in
      let a = count_grows u k in
      omega arith)
      (λ (e : k < j). absurd (omega arith)))
      (cases_order j k)

  -- what a chain that has them all says of its links
  pub record Exact (u k p : ℕ) : Type 0 where
    pub head : word bytes p ≡ newest u k
    pub next : (j : ℕ) → j < k → word bytes (end_at n s j) ≡ u → word bytes (next_at n s j) ≡ newest u j

  -- one record more, of another closure
  exact_other : (u k p : ℕ) → (word bytes (end_at n s k) ≡ u → ⊥) → Exact u k p → Exact u (suc k) p
  exact_other u k p o x =
      record {
        head = x.head ∙ sym (newest_other u k o);
        next = λ j h e.
            ⊎_elim
            (λ (i : j ≡ k). absurd (o (rw i at e)))
            (⊎_elim (λ (i : j < k). x.next j i e) (λ (i : k < j). absurd (omega arith)))
            (cases_order j k);
      }

  -- one record more, of this closure, to which the link leads
  exact_own : (u k p : ℕ) → word bytes p ≡ suc k → word bytes (end_at n s k) ≡ u → Exact u k (next_at n s k) → Exact u (suc k) p
  exact_own u k p w o x =
      record {
        head = w ∙ sym (newest_own u k o);
        next = λ j h e.
            ⊎_elim
            (λ (i : j ≡ k). rw i x.head)
            (⊎_elim (λ (i : j < k). x.next j i e) (λ (i : k < j). absurd (omega arith)))
            (cases_order j k);
      }

  -- where a chain has as many records as its closure, a newest record that the chain does not begin with is of another closure
  not_own : (m u k p : ℕ) (js : List ℕ) → Ranged bytes n m → Chain bytes n s u p js → word bytes p ≤ k → suc k ≤ m → length js ≡ count u (suc k) → word bytes (end_at n s k) ≡ u → ⊥
  not_own m u k p js r c h l e o =
      let a = chain_few m u k p js r c h (omega arith) in
      let b = count_own u k o in
      omega arith

  exact : (m u k p : ℕ) (js : List ℕ) → Ranged bytes n m → Chain bytes n s u p js → word bytes p ≤ k → k ≤ m → length js ≡ count u k → Exact u k p
  exact m u zero p [] r (end w) h l e =
      record { head = w; next = λ j b _. absurd (omega arith) }
  exact m u zero p (j ∷ js) r (link w o c) h l e = absurd (omega arith)
  exact m u (suc k) p [] r (end w) h l e =
      let o = not_own m u k p [] r (end w) (omega arith) l e in
      let f = count_other u k o in
      exact_other u k p o (exact m u k p [] r (end w) (omega arith) (omega arith) (omega arith))
  exact m u (suc k) p (j ∷ js) r (link w o c) h l e =
      ⊎_elim
      (λ (q : j ≡ k).
      let b = next_below bytes n m s j r (omega arith) in
      let o' : word bytes (end_at n s k) ≡ u = rw q at o in
      let a = count_own u k o' in
      let x : Exact u k (next_at n s j) = exact m u k (next_at n s j) js r c (omega arith) (omega arith) (omega arith) in
      exact_own u k p (omega arith) o' (rw q at x))
      (⊎_elim
      (λ (q : j < k).
      let c' : Chain bytes n s u p (j ∷ js) = link w o c in
      let z = not_own m u k p (j ∷ js) r c' (omega arith) l e in
      let f = count_other u k z in
      exact_other u k p z (exact m u k p (j ∷ js) r c' (omega arith) (omega arith) (omega arith)))
      (λ (q : k < j). absurd (omega arith)))
      (cases_order j k)

  -- how many of the first records have an end below a closure
  abbrev pub tally : ℕ → ℕ → ℕ
  tally u k = slots_below (slots_on s (spans_at bytes n k)) u

  tally_none : (u : ℕ) → tally u 0 ≡ 0
  tally_none zero = refl
  tally_none (suc u) = let e = tally_none u in omega arith

  tally_below : (u k : ℕ) → u ≤ word bytes (end_at n s k) → tally u (suc k) ≡ tally u k
  tally_below zero k h = refl
  tally_below (suc u) k h =
      let e = tally_below u k (omega arith) in
      let c = count_other u k (λ (o : word bytes (end_at n s k) ≡ u). omega arith) in
      omega arith

  tally_above : (u k : ℕ) → word bytes (end_at n s k) < u → tally u (suc k) ≡ suc (tally u k)
  tally_above zero k h = absurd (omega arith)
  tally_above (suc u) k h =
      ⊎_elim
      (λ (e : word bytes (end_at n s k) ≡ u).
      let c = count_own u k e in
      let t = tally_below u k (omega arith) in
      omega arith)
      (⊎_elim
      (λ (e : word bytes (end_at n s k) < u).
      let c = count_other u k (λ (o : word bytes (end_at n s k) ≡ u). omega arith) in
      let t = tally_above u k e in
      omega arith)
      (λ (e : u < word bytes (end_at n s k)). absurd (omega arith)))
      (cases_order (word bytes (end_at n s k)) u)

  -- every record has an end
  pub tally_all : (m k : ℕ) → Ranged bytes n m → k ≤ m → tally n k ≡ k
  tally_all m zero r l = tally_none n
  tally_all m (suc k) r l =
      let b = end_below bytes n m s k r (omega arith) in
      let t = tally_above n k b in
      let e = tally_all m k r (omega arith) in
      omega arith

  pub chains_few : (m u t : ℕ) → Ranged bytes n m → u ≤ n → Chains bytes n s u t → t ≤ tally u m
  chains_few m zero t r l none = omega arith
  chains_few m (suc u) t r l (more {t = t'} {js = js} cs c) =
      let h = head_below bytes n m s u r (omega arith) in
      let a = chains_few m u t' r (omega arith) cs in
      let b = chain_few m u m (head_at s u) js r c (omega arith) (omega arith) in
      omega arith

  -- chains with every record are exact
  chains_exact : (m u t : ℕ) → Ranged bytes n m → u ≤ n → Chains bytes n s u t → t ≡ tally u m → (v : ℕ) → v < u → Exact v m (head_at s v)
  chains_exact m zero t r l none e v h = absurd (omega arith)
  chains_exact m (suc u) t r l (more {t = t'} {js = js} cs c) e v h =
      let w = head_below bytes n m s u r (omega arith) in
      let a = chains_few m u t' r (omega arith) cs in
      let b = chain_few m u m (head_at s u) js r c (omega arith) (omega arith) in
      ⊎_elim
      (λ (q : v ≡ u).
      let x : Exact u m (head_at s u) = exact m u m (head_at s u) js r c (omega arith) (omega arith) (omega arith) in
      rw (sym q) at x)
      (⊎_elim
      (λ (q : v < u). chains_exact m u t' r (omega arith) cs (omega arith) v q)
      (λ (q : u < v). absurd (omega arith)))
      (cases_order v u)

  pub exact_at : (m : ℕ) → Ranged bytes n m → Chains bytes n s n m → (v : ℕ) → v < n → Exact v m (head_at s v)
  exact_at m r cs v h =
      let t = tally_all m m r (omega arith) in
      chains_exact m n m r (omega arith) cs (omega arith) v h

  -- the next record of each of the first m is the newest before it with the same end
  abbrev pub Linked : ℕ → Type 0
  Linked m = (j : ℕ) → j < m → word bytes (next_at n s j) ≡ newest (word bytes (end_at n s j)) j

  pub linked : (m : ℕ) → Ranged bytes n m → Chains bytes n s n m → Linked m
  linked m r cs j h = (exact_at m r cs (word bytes (end_at n s j)) (end_below bytes n m s j r h)).next j h refl
