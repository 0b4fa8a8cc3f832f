-- Slots that hold a closure.
use Rattle.std.proofs.Common.{◌≡◌, ℕ, zero, suc, ◌+◌, ◌-◌, ◌<◌, ◌≤◌, ◌==◌, IsTrue, List, [], ◌∷◌, map, length, get_or, drop, Some, sym, ap, ◌∙◌, ⊎_elim, arith}
use Rattle.std.proofs.lemmas.List.{length-take}
use Rattle.std.proofs.lemmas.List.Edits.{get_or-between, length-between}
use Rattle.std.proofs.lemmas.Bool.{cases_lt, eq-eqb, eqb-true, false≢true, or_cases, or_left, or_right}
use Rattle.books.specs.Listing.{holds}
use Rattle.rows.specs.declared.listed.Listed.{Listed}
use Rattle.rows.specs.Rules.{Lists, Ordered, Shown}
use Rattle.rows.specs.Slots.{Mirrors, row_of, slots_of}
use Rattle.rows.specs.Starts.{none_past, start_inside}

-- slots hold what stands at some index, and only that
pub holds_at : (xs : List ℕ) (k v : ℕ) → k < length xs → get_or xs k 0 ≡ v → IsTrue (holds (map Some xs) v)
holds_at [] k v h e = absurd (omega arith)
holds_at (x ∷ xs) zero v h e = or_left (x == v) (holds (map Some xs) v) (eq-eqb x v e)
holds_at (x ∷ xs) (suc k) v h e = or_right (x == v) (holds (map Some xs) v) (holds_at xs k v (omega arith) e)

pub held_at : (xs : List ℕ) (v : ℕ) → IsTrue (holds (map Some xs) v) → (k : ℕ) × (k < length xs) × (get_or xs k 0 ≡ v)
held_at [] v t = absurd (false≢true t)
held_at (x ∷ xs) v t =
    ⊎_elim
    (λ e. (0, omega arith, eqb-true x v e))
    (λ s. let p = held_at xs v s in (suc p.0, omega (arith, p.1), p.2))
    (or_cases (x == v) (holds (map Some xs) v) t)

pub held_lists : (l : Listed) (u v : ℕ) → IsTrue (holds (row_of l u) v) → Lists l.starts.now l.ends.now u v
held_lists l u v t =
    let from = get_or l.starts.now u 0 in
    let to = get_or l.starts.now (suc u) 0 in
    let p = held_at (slots_of l u) v t in
    let c = length-take (to - from) (drop from l.ends.now) in
    let k : p.0 < to - from = omega (arith, p.1) in
    (from + p.0, omega arith, omega arith, sym (get_or-between l.ends.now from to p.0 0 (omega arith)) ∙ p.2)

module _ (n : ℕ) (l : Listed) (o : Ordered n l.starts.now l.ends.now) where
  -- what has a slot is a closure
  lists_closure : (u v : ℕ) → Lists l.starts.now l.ends.now u v → u < n
  lists_closure u v x =
      ⊎_elim
      (λ (h : u < n). h)
      (λ (h : n ≤ u). absurd (omega (arith, none_past n l o u h, x.2)))
      (cases_lt u n)

  pub held_closure : (u v : ℕ) → IsTrue (holds (row_of l u) v) → u < n
  held_closure u v t = lists_closure u v (held_lists l u v t)

  -- the slots of a closure hold what the starts and ends list
  pub lists_held : (u v : ℕ) → Lists l.starts.now l.ends.now u v → IsTrue (holds (row_of l u) v)
  lists_held u v x =
      let from = get_or l.starts.now u 0 in
      let to = get_or l.starts.now (suc u) 0 in
      let c = length-between l.ends.now from to (start_inside n l o (suc u) (lists_closure u v x)) in
      let low = x.1 in
      let high = x.2 in
      let z : from + (x.0 - from) ≡ x.0 = omega arith in
      let g = get_or-between l.ends.now from to (x.0 - from) 0 (omega arith) ∙ ap (λ k. get_or l.ends.now k 0) z ∙ x.3 in
      holds_at (slots_of l u) (x.0 - from) v (omega arith) g

-- ---- both listings

pub mirrors_shown : (n : ℕ) (here there : Listed) → Ordered n there.starts.now there.ends.now → Shown here.starts.now here.ends.now there.starts.now there.ends.now → Mirrors here there
mirrors_shown n here there o s u v t = lists_held n there o v u (s u v (held_lists here u v t))

pub shown_mirrors : (n : ℕ) (here there : Listed) → Ordered n here.starts.now here.ends.now → Mirrors here there → Shown here.starts.now here.ends.now there.starts.now there.ends.now
shown_mirrors n here there o m u v x = held_lists there v u (m u v (lists_held n here o u v x))
