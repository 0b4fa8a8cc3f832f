-- The lists of a side, laid out along the chains.
use Rattle.std.proofs.Common.{◌≡◌, ℕ, zero, suc, ◌+◌, ◌<◌, ◌≤◌, List, ◌∷◌, map, Some, Option, sym, refl, ap, ◌∙◌, ⊎_elim, arith}
use Rattle.std.proofs.lemmas.Bool.{cases_eq}
use Rattle.books.specs.Adjacent.{slots_below}
use Rattle.books.proofs.Laying.{slots_up}
use Rattle.logs.specs.declared.side.Side.{Side}
use Rattle.logs.specs.Sides.{other}
use Rattle.logs.specs.Words.{word}
use Rattle.logs.specs.History.{size, slots_on}
use Rattle.logs.specs.Placing.{column_few}
use Rattle.logs.specs.Opening.{Judged, end_at, head_at, next_at, spans_at}
use Rattle.logs.proofs.Canon.{exact_at, newest, newest_few, newest_other, newest_own, linked, reach, reach_other, reach_own, tally_all}

-- ---- the records of a closure, from its newest

module _ (bytes : List ℕ) (n : ℕ) (s : Side) where
  -- the newest record of a closure has its slots below it
  pub reach_newest : (u k : ℕ) → reach bytes n s u (newest bytes n s u k) ≡ reach bytes n s u k
  reach_newest u zero = refl
  reach_newest u (suc k) =
      ⊎_elim
      (λ (o : word bytes (end_at n s k) ≡ u). ap (reach bytes n s u) (newest_own bytes n s u k o))
      (λ (o : word bytes (end_at n s k) ≡ u → ⊥).
      ap (reach bytes n s u) (newest_other bytes n s u k o) ∙ reach_newest u k ∙ sym (reach_other bytes n s u k o))
      (cases_eq (word bytes (end_at n s k)) u)

  -- and it is of the closure
  own_newest : (u k j : ℕ) → newest bytes n s u k ≡ suc j → word bytes (end_at n s j) ≡ u
  own_newest u zero j e = absurd (omega arith)
  own_newest u (suc k) j e =
      ⊎_elim
      (λ (o : word bytes (end_at n s k) ≡ u).
      let b = newest_own bytes n s u k o in
      let i : j ≡ k = omega arith in
      rw i o)
      (λ (o : word bytes (end_at n s k) ≡ u → ⊥). own_newest u k j (sym (newest_other bytes n s u k o) ∙ e))
      (cases_eq (word bytes (end_at n s k)) u)

  -- the slots of all closures are at most as many as the records
  pub slots_few : (m u : ℕ) → Judged bytes n m → u ≤ n → slots_below (slots_on s (spans_at bytes n m)) u ≤ 4096
  slots_few m u y l =
      let a = slots_up (slots_on s (spans_at bytes n m)) u n l in
      let t = tally_all bytes n s m m y.whole.ranged (omega arith) in
      let f = y.short in
      omega arith

-- ---- one closure

module _ (bytes : List ℕ) (n m : ℕ) (s : Side) (u : ℕ) where
  -- the link at a place is one of the chain of u, or ends it
  pub record Following (place : ℕ) : Type 0 where
    pub within : place + 1 < size n m
    pub few : word bytes place ≤ m
    pub own : (j : ℕ) → word bytes place ≡ suc j → word bytes (end_at n s j) ≡ u

  -- the slots of u that are still to come from there
  abbrev pub rest : ℕ → List (Option ℕ)
  rest place = map Some (reach bytes n s u (word bytes place))

  module _ (y : Judged bytes n m) (i : u < n) (place : ℕ) (is : place ≡ head_at s u) where
    head_newest : word bytes place ≡ newest bytes n s u m
    head_newest = ap (word bytes) is ∙ (exact_at bytes n s m y.whole.ranged (y.whole.chains s) u i).head

    pub follow_start : Following place
    follow_start =
        let q = newest_few bytes n s u m in
        let c = column_few s in
        let e = head_newest in
        record { within = omega arith; few = omega arith; own = λ j h. own_newest bytes n s u m j (sym e ∙ h) }

    pub rest_all : rest place ≡ slots_on s (spans_at bytes n m) u
    rest_all = ap (map Some) (ap (reach bytes n s u) head_newest ∙ reach_newest bytes n s u m)

  module _ (y : Judged bytes n m) (place j : ℕ) (f : Following place) (e : word bytes place ≡ suc j) where
    -- the place of an end is in the bytes
    pub end_within : (at : ℕ) (t : Side) → at ≡ end_at n t j → at + 1 < size n m
    end_within at t p =
        let few = f.few in
        let c = column_few t in
        omega arith

    module _ (next : ℕ) (p : next ≡ next_at n s j) where
      next_newest : word bytes next ≡ newest bytes n s u j
      next_newest =
          let few = f.few in
          ap (word bytes) p
          ∙ linked bytes n s m y.whole.ranged (y.whole.chains s) j (omega arith)
          ∙ ap (λ x. newest bytes n s x j) (f.own j e)

      pub follow_falls : word bytes next < word bytes place
      follow_falls =
          let q = newest_few bytes n s u j in
          let i = next_newest in
          omega arith

      pub follow_on : Following next
      follow_on =
          let few = f.few in
          let q = newest_few bytes n s u j in
          let l = column_few s in
          let i = next_newest in
          record { within = omega arith; few = omega arith; own = λ k h. own_newest bytes n s u j k (sym i ∙ h) }

      -- the first of the slots that are still to come
      pub rest_next : (at far : ℕ) → at ≡ end_at n (other s) j → far ≡ word bytes at → rest place ≡ Some far ∷ rest next
      rest_next at far q w =
          ap (map Some)
          (ap (reach bytes n s u) e
          ∙ reach_own bytes n s u j (f.own j e)
          ∙ ap (λ x. x ∷ reach bytes n s u j) (ap (word bytes) (sym q) ∙ sym w)
          ∙ ap (λ xs. far ∷ xs) (sym (ap (reach bytes n s u) next_newest ∙ reach_newest bytes n s u j)))
