-- What the rules of one listing tell of its starts.
use Rattle.std.proofs.Common.{◌≡◌, ℕ, suc, ◌+◌, ◌≤◌, List, length, get_or, ap, arith}
use Rattle.std.specs.List.Sorted.{IsNonDecreasing}
use Rattle.std.proofs.lemmas.Grind.{get_or_default_zero}
use Rattle.std.proofs.lemmas.List.{get_or_past}
use Rattle.std.proofs.lemmas.List.Sorted.{IsNonDecreasingBy-from_all_adjacent}
use Rattle.books.proofs.Laid.{slots_end}
use Rattle.books.specs.Adjacent.{slots_below}
use Rattle.rows.specs.declared.listed.Listed.{Listed}
use Rattle.rows.specs.Rules.{Ordered, Rising}
use Rattle.rows.specs.Slots.{row_of}

-- the next start, as code and as a rule reads it
next_start : (starts : List ℕ) (u : ℕ) → get_or starts (u + 1) 0 ≡ get_or starts (suc u) 0
next_start starts u = let e : u + 1 ≡ suc u = omega arith in ap (λ i. get_or starts i 0) e

-- starts never fall
pub rising_sorted : (n ends : ℕ) (starts : List ℕ) → Rising n ends starts → IsNonDecreasing starts
rising_sorted n ends starts r =
    IsNonDecreasingBy-from_all_adjacent (λ x. x) starts
    (λ k d h.
    let a = get_or_default_zero starts k d (omega arith) in
    let b = get_or_default_zero starts (k + 1) d h in
    omega (arith, r.rises k (omega (arith, r.long)), next_start starts k))

module _ (n : ℕ) (l : Listed) (o : Ordered n l.starts.now l.ends.now) where
  -- the slots of each closure are a part of the ends
  pub start_inside : (u : ℕ) → u ≤ n → get_or l.starts.now u 0 ≤ length l.ends.now
  start_inside u h =
      let r = o.rising in
      omega (arith, rising_sorted n (length l.ends.now) l.starts.now r u n 0 h (omega (arith, r.long)), r.inside)

  -- up to any closure there are at most 4,096 slots
  pub slots_few : (u : ℕ) → u ≤ n → slots_below (row_of l) u ≤ 4096
  slots_few u h =
      let r = o.rising in
      let e = slots_end (λ w. get_or l.starts.now w 0) l.ends.now r.begins u (λ w k. (r.rises w (omega arith), start_inside (suc w) (omega arith))) in
      omega (arith, rising_sorted n (length l.ends.now) l.starts.now r u n 0 h (omega (arith, r.long)), r.few)

  -- past the last closure there is no start
  pub none_past : (u : ℕ) → n ≤ u → get_or l.starts.now (suc u) 0 ≡ 0
  none_past u h = get_or_past l.starts.now (suc u) 0 (omega (arith, o.rising.long))
