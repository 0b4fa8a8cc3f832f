-- Chains with fewer records than there are leave one out.
use Rattle.std.proofs.Common.{◌≡◌, ℕ, zero, suc, ◌<◌, ◌≤◌, List, [], ◌∷◌, length, sym, refl, ◌∙◌, subst, inl, inr, ⊎_elim, arith}
use Rattle.std.proofs.lemmas.Bool.{cases_lt, cases_eq, cases_order}
use Rattle.logs.specs.declared.side.Side.{Side}
use Rattle.logs.specs.Words.{word}
use Rattle.logs.specs.Opening.{Ranged, head_at, end_at, next_at, Chain, Chains, end, link, none, more, Among, Lost}
use Rattle.logs.proofs.Ranges.{head_below, next_below}
use Rattle.logs.proofs.Canon.{count, count_own, count_other, tally, tally_all, chains_few}

module _ (bytes : List ℕ) (n : ℕ) (s : Side) where
  -- the records of a chain lie below its first link
  among_below : (m u k p : ℕ) (js : List ℕ) → Ranged bytes n m → Chain bytes n s u p js → word bytes p ≤ k → k ≤ m → (j : ℕ) → Among j js → j < k
  among_below m u k p [] r (end w) h l j a = absurd a
  among_below m u k p (x ∷ js) r (link w o c) h l j (inl e) = omega arith
  among_below m u k p (x ∷ js) r (link w o c) h l j (inr a) =
      let b = next_below bytes n m s x r (omega arith) in
      let t = among_below m u x (next_at n s x) js r c (omega arith) (omega arith) j a in
      omega arith

  -- they are of its closure
  among_own : (u p : ℕ) (js : List ℕ) → Chain bytes n s u p js → (j : ℕ) → Among j js → word bytes (end_at n s j) ≡ u
  among_own u p [] (end w) j a = absurd a
  among_own u p (x ∷ js) (link w o c) j (inl e) = rw (sym e) o
  among_own u p (x ∷ js) (link w o c) j (inr a) = among_own u (next_at n s x) js c j a

  -- a link begins one chain only
  chain_one : (u p : ℕ) (js ks : List ℕ) → Chain bytes n s u p js → Chain bytes n s u p ks → js ≡ ks
  chain_one u p [] [] (end w) (end v) = refl
  chain_one u p [] (k ∷ ks) (end w) (link v o c) = absurd (omega arith)
  chain_one u p (j ∷ js) [] (link w o c) (end v) = absurd (omega arith)
  chain_one u p (j ∷ js) (k ∷ ks) (link w o c) (link v q d) =
      let e : k ≡ j = omega arith in
      let d' : Chain bytes n s u (next_at n s j) ks = let P : ℕ → Type 0 = λ x. Chain bytes n s u (next_at n s x) ks in subst P e d in
      let t = chain_one u (next_at n s j) js ks c d' in
      rw (t, e)

  -- a record of the closure that its chain leaves out
  record Left (u k : ℕ) (js : List ℕ) : Type 0 where
    number : ℕ
    within : number < k
    own : word bytes (end_at n s number) ≡ u
    out : Among number js → ⊥

  -- one record more, to which the chain does not lead at once
  left_low : (m u k p : ℕ) (js : List ℕ) → Ranged bytes n m → Chain bytes n s u p js → word bytes p ≤ k → suc k ≤ m → length js < count bytes n s u (suc k) → (length js < count bytes n s u k → Left u k js) → Left u (suc k) js
  left_low m u k p js r c h l f before =
      ⊎_elim
      (λ (e : word bytes (end_at n s k) ≡ u).
      record {
        number = k;
        within = omega arith;
        own = e;
        out = λ a. let b = among_below m u k p js r c h (omega arith) k a in omega arith;
      })
      (λ (e : word bytes (end_at n s k) ≡ u → ⊥).
      let d = count_other bytes n s u k e in
      let x = before (omega arith) in
      let w = x.within in
      record { number = x.number; within = omega arith; own = x.own; out = x.out })
      (cases_eq (word bytes (end_at n s k)) u)

  left_out : (m u k p : ℕ) (js : List ℕ) → Ranged bytes n m → Chain bytes n s u p js → word bytes p ≤ k → k ≤ m → length js < count bytes n s u k → Left u k js
  left_out m u zero p js r c h l f = absurd (omega arith)
  left_out m u (suc k) p [] r (end w) h l f =
      left_low m u k p [] r (end w) (omega arith) l f (left_out m u k p [] r (end w) (omega arith) (omega arith))
  left_out m u (suc k) p (j ∷ js) r (link w o c) h l f =
      ⊎_elim
      (λ (q : j ≡ k).
      let b = next_below bytes n m s j r (omega arith) in
      let o' : word bytes (end_at n s k) ≡ u = rw q at o in
      let d = count_own bytes n s u k o' in
      let x = left_out m u k (next_at n s j) js r c (omega arith) (omega arith) (omega arith) in
      let v = x.within in
      record {
        number = x.number;
        within = omega arith;
        own = x.own;
        out = λ a. ⊎_elim (λ (e : j ≡ x.number). absurd (omega arith)) x.out a;
      })
      (⊎_elim
      (λ (q : j < k).
      let c' : Chain bytes n s u p (j ∷ js) = link w o c in
      left_low m u k p (j ∷ js) r c' (omega arith) l f (left_out m u k p (j ∷ js) r c' (omega arith) (omega arith)))
      (λ (q : k < j). absurd (omega arith)))
      (cases_order j k)

  -- a record that the chain of its closure leaves out is in no chain
  left_lost : (m u : ℕ) (js : List ℕ) → u < n → Chain bytes n s u (head_at s u) js → Left u m js → Lost bytes n m s
  left_lost m u js h c x =
      record {
        number = x.number;
        within = x.within;
        chainless = λ v ks b d a.
            let o = among_own v (head_at s v) ks d x.number a in
            let e : v ≡ u = sym o ∙ x.own in
            let d' : Chain bytes n s u (head_at s u) ks = let P : ℕ → Type 0 = λ y. Chain bytes n s y (head_at s y) ks in subst P e d in
            let t = chain_one u (head_at s u) ks js d' c in
            let a' : Among x.number js = let P : List ℕ → Type 0 = λ y. Among x.number y in subst P t a in
            x.out a';
      }

  find : (m u t : ℕ) → Ranged bytes n m → u ≤ n → Chains bytes n s u t → t < tally bytes n s u m → Lost bytes n m s
  find m zero t r l none f = absurd (omega arith)
  find m (suc u) t r l (more {t = t'} {js = js} cs c) f =
      let h = head_below bytes n m s u r (omega arith) in
      ⊎_elim
      (λ (q : length js < count bytes n s u m).
      left_lost m u js (omega arith) c (left_out m u m (head_at s u) js r c (omega arith) (omega arith) q))
      (λ (q : count bytes n s u m ≤ length js). find m u t' r (omega arith) cs (omega arith))
      (cases_lt (length js) (count bytes n s u m))

  -- chains that do not have every record
  pub missing : (m t : ℕ) → Ranged bytes n m → Chains bytes n s n t → (t ≡ m → ⊥) → Lost bytes n m s
  missing m t r cs f =
      let a = tally_all bytes n s m m r (omega arith) in
      let b = chains_few bytes n s m n t r (omega arith) cs in
      find m n t r (omega arith) cs (omega arith)
