-- Adjacency lists in their tables: how slots are read, and how a closure or a slot is added.
use Rattle.std.proofs.Common.{◌≡◌, Bor, ℕ, zero, suc, ◌+◌, ◌-◌, ◌<◌, ◌≤◌, T, List, [], ◌∷◌, ◌++◌, map, length, get_or, set, take, drop, Some, None, Option, sym, refl, ap, ◌∙◌, ⊎_elim, arith}
use Rattle.std.specs.Option.{option_copied}
use Rattle.std.specs.Prelude.{slice_get}
use Rattle.std.specs.Slice.{IsItemAt}
use Rattle.std.proofs.lemmas.Option.{slice_get_past, slice_get_read}
use Rattle.std.specs.List.{between, refill}
use Rattle.std.proofs.lemmas.List.{get_or_past, get_or_append_left, get_or-append_right, get_or_default, length-append, length-map, length-set, map-append, take-append-le}
use Rattle.std.proofs.Math.Seq.{get_or-append_seam, take-length, take-suc, take-suc-set}
use Rattle.std.proofs.lemmas.List.Edits.{length-between, between_none, between_more}
use Rattle.std.proofs.lemmas.Slice.{between_is}
use Rattle.std.proofs.lemmas.Bool.{cases_eq, cases_lt}
use Rattle.books.specs.Listing.{Sound, holds, slot}
use Rattle.books.specs.declared.stored.Adjacency.{Adjacency}
use Rattle.books.specs.Adjacent.{Bare, Grown, Pushed, filled, listing, slots_below}
use Rattle.books.specs.Tables.{Ascends, cut, part}

-- ---- how slots are read

-- the slots that tables hold
abbrev pub slots_in : List ℕ → List ℕ → ℕ → List (Option ℕ)
slots_in starts ends = part (cut starts (length ends)) ends

-- past the last start there are no slots
none_past : (starts ends : List ℕ) (u : ℕ) → length starts ≤ u → slots_in starts ends u ≡ []
none_past starts ends u h =
    rw (get_or_past starts u (length ends) h, get_or_past starts (suc u) (length ends) (omega arith))
    (ap (map Some) (between_none ends (length ends)))

-- from the last start on, every cut is the end of all slots
cut_past : (a : Adjacency) (u : ℕ) → (listing a).size ≤ u → cut a.starts.items (length a.ends.items) u ≡ length a.ends.items
cut_past a u h =
    ⊎_elim
    (λ (e : u ≡ (listing a).size). rw e a.last)
    (λ (e : u ≡ (listing a).size → ⊥). get_or_past a.starts.items u (length a.ends.items) (omega arith))
    (cases_eq u (listing a).size)

-- a closure past the last has no slots
pub listed_past : (a : Adjacency) (u : ℕ) → (listing a).size ≤ u → (listing a).slots u ≡ []
listed_past a u h =
    rw (cut_past a u h, cut_past a (suc u) (omega arith)) (ap (map Some) (between_none a.ends.items (length a.ends.items)))

-- the slots of a closure are a part of the ends
pub row_inside : (a : Adjacency) (u : ℕ) → u + 1 < length a.starts.items → (get_or a.starts.items u 0 ≤ get_or a.starts.items (u + 1) 0) × (get_or a.starts.items (u + 1) 0 ≤ length a.ends.items)
row_inside a u h =
    let end = length a.ends.items in
    let e : suc u ≡ u + 1 = omega arith in
    let n = ap (λ k. cut a.starts.items end k) e in
    let from = get_or_default a.starts.items u 0 end (omega arith) in
    let to = get_or_default a.starts.items (u + 1) 0 end h in
    (omega (arith, (a.ascends.1 u).0), omega (arith, (a.ascends.1 (suc u)).1))

-- a slot is read as an item is
pub slot_is : (xs : List ℕ) (k : ℕ) → slot (map Some xs) k ≡ slice_get xs k
slot_is [] k = refl
slot_is (x ∷ xs) zero = refl
slot_is (x ∷ xs) (suc k) = slot_is xs k

-- the item that a slice lends
pub copied_item : {X : Type 0} (xs : List X) (k : ℕ) (r : Option (Bor X)) → IsItemAt xs k r → option_copied r ≡ slice_get xs k
copied_item xs k None i = sym (slice_get_past xs k i.3)
copied_item xs k (Some x) i = sym (slice_get_read xs (length xs) k x.now refl i.3.0 i.1)

-- one item, and the same past it
one_or : (x k : ℕ) → get_or (x ∷ []) k x ≡ x
one_or x zero = refl
one_or x (suc k) = refl

-- ---- how many slots there are

-- equal rows have as many slots
pub rows_below : (l m : ℕ → List (Option ℕ)) (k : ℕ) → ((u : ℕ) → u < k → l u ≡ m u) → slots_below l k ≡ slots_below m k
rows_below l m zero h = refl
rows_below l m (suc k) h =
    let b = rows_below l m k (λ u i. h u (omega arith)) in
    let e = ap length (h k (omega arith)) in
    omega arith

-- the slots of the first rows end where the next one's begin
pub slots_end : (at : ℕ → ℕ) (ends : List ℕ) → at 0 ≡ 0 → (k : ℕ) → ((u : ℕ) → u < k → (at u ≤ at (suc u)) × (at (suc u) ≤ length ends)) → slots_below (part at ends) k ≡ at k
slots_end at ends z zero f = sym z
slots_end at ends z (suc k) f =
    let b = slots_end at ends z k (λ u h. f u (omega arith)) in
    let r = f k (omega arith) in
    let m = length-map (between (at k) (at (suc k)) ends) Some in
    let l = length-between ends (at k) (at (suc k)) r.1 in
    omega (arith, r.0)

-- there are as many slots as ends
pub filled_is : (a : Adjacency) → filled a ≡ length a.ends.items
unfolding filled
filled_is a =
    let n = (listing a).size in
    slots_end (cut a.starts.items (length a.ends.items)) a.ends.items a.ascends.0 n (λ u i. ((a.ascends.1 u).0, (a.ascends.1 (suc u)).1))
    ∙ cut_past a n (omega arith)

-- the last of the starts, behind those before it
pub last_of : (xs : List ℕ) (i : ℕ) → length xs ≡ suc i → xs ≡ take i xs ++ get_or xs i 0 ∷ []
last_of xs i l = sym (take-length xs) ∙ ap (λ n. take n xs) l ∙ take-suc xs i 0 (omega arith)

-- another last start is put in its place
pub put_last : (xs ws : List ℕ) (i j y z : ℕ) → length xs ≡ suc i → ws ≡ xs → j ≡ i → z ≡ y → refill (length xs) xs (set ws j z) ≡ take i xs ++ y ∷ []
put_last xs ws i j y z l w e q =
    let m = length-set xs i y in
    rw (w, e, q)
    (take-append-le (length xs) (set xs i y) (drop (length (set xs i y)) xs) (omega arith) ∙ ap (λ n. take n (set xs i y)) l ∙ take-suc-set xs i y (omega arith))

-- ---- no slots

bare_cut : (u : ℕ) → cut (0 ∷ 0 ∷ []) 0 u ≡ 0
bare_cut zero = refl
bare_cut (suc zero) = refl
bare_cut (suc (suc u)) = refl

pub bare : (a : Adjacency) → a.starts.items ≡ 0 ∷ 0 ∷ [] → a.ends.items ≡ [] → Bare a
bare a s e =
    record {
      size = ap (λ xs. length xs - 1) s;
      slots = λ u.
          ap (λ xs. slots_in xs a.ends.items u) s
          ∙ ap (λ xs. slots_in (0 ∷ 0 ∷ []) xs u) e
          ∙ rw (bare_cut u, bare_cut (suc u)) (ap (map Some) (between_none [] 0));
      none = filled_is a ∙ ap length e;
    }

-- ---- one closure more

module _ (starts : List ℕ) (end : ℕ) where
  -- every cut stays
  pub grown_cut : (u : ℕ) → cut (starts ++ end ∷ []) end u ≡ cut starts end u
  grown_cut u =
      ⊎_elim
      (λ (h : u < length starts). get_or_append_left starts (end ∷ []) end u h)
      (λ (h : length starts ≤ u). get_or-append_right starts (end ∷ []) (length starts) u end refl h ∙ one_or end (u - length starts) ∙ sym (get_or_past starts u end h))
      (cases_lt u (length starts))

  pub grown_ascends : Ascends starts end → Ascends (starts ++ end ∷ []) end
  grown_ascends a = (grown_cut 0 ∙ a.0, λ u. (omega (arith, grown_cut u, grown_cut (suc u), (a.1 u).0), omega (arith, grown_cut u, (a.1 u).1)))

grown_in : (starts ends : List ℕ) (u : ℕ) → slots_in (starts ++ length ends ∷ []) ends u ≡ slots_in starts ends u
grown_in starts ends u = rw (grown_cut starts (length ends) u, grown_cut starts (length ends) (suc u)) refl

-- one start more at the end is the last
pub grown_last : (starts : List ℕ) (end : ℕ) → cut (starts ++ end ∷ []) end (length (starts ++ end ∷ []) - 1) ≡ end
grown_last starts end =
    let l : length (starts ++ end ∷ []) - 1 ≡ length starts = omega (arith, length-append starts (end ∷ [])) in
    rw (l, get_or-append_seam starts end [] end) refl

pub grown : (a b : Adjacency) → b.ends ≡ a.ends → b.starts.items ≡ a.starts.items ++ length a.ends.items ∷ [] → Grown a b
grown a b e s =
    let l = ap length s ∙ length-append a.starts.items (length a.ends.items ∷ []) in
    record {
      size = omega (arith, a.few.0);
      slots = λ u.
          ap (λ xs. slots_in b.starts.items xs.items u) e
          ∙ ap (λ xs. slots_in xs a.ends.items u) s
          ∙ grown_in a.starts.items a.ends.items u;
      none = filled_is b ∙ ap (λ xs. length xs.items) e ∙ sym (filled_is a);
    }

-- ---- one slot more

module _ (starts ends : List ℕ) (v : ℕ) (some : 1 ≤ length starts) (a : Ascends starts (length ends)) where
  -- the cuts of closures stay
  pushed_cut : (u : ℕ) → u < length starts → cut starts (length (ends ++ v ∷ [])) u ≡ cut starts (length ends) u
  pushed_cut u h = get_or_default starts u (length (ends ++ v ∷ [])) (length ends) h

  pushed_end : (u : ℕ) → length starts ≤ u → cut starts (length (ends ++ v ∷ [])) u ≡ length ends + 1
  pushed_end u h = get_or_past starts u (length (ends ++ v ∷ [])) h ∙ length-append ends (v ∷ [])

  pub pushed_ascends : Ascends starts (length (ends ++ v ∷ []))
  pushed_ascends =
      let l = length-append ends (v ∷ []) in
      let at : (u : ℕ) → (cut starts (length (ends ++ v ∷ [])) u ≤ cut starts (length (ends ++ v ∷ [])) (suc u)) × (cut starts (length (ends ++ v ∷ [])) u ≤ length (ends ++ v ∷ [])) =
      λ u.
      ⊎_elim
      (λ (h : u < length starts).
      ⊎_elim
      (λ (i : suc u < length starts). (omega (arith, pushed_cut u h, pushed_cut (suc u) i, (a.1 u).0), omega (arith, pushed_cut u h, (a.1 u).1)))
      (λ (i : length starts ≤ suc u). (omega (arith, pushed_cut u h, pushed_end (suc u) i, (a.1 u).1), omega (arith, pushed_cut u h, (a.1 u).1)))
      (cases_lt (suc u) (length starts)))
      (λ (h : length starts ≤ u). (omega (arith, pushed_end u h, pushed_end (suc u) (omega arith)), omega (arith, pushed_end u h)))
      (cases_lt u (length starts)) in
      (pushed_cut 0 (omega arith) ∙ a.0, at)

  -- what lies before the new end stays
  before_end : (i j : ℕ) → j ≤ length ends → between i j (ends ++ v ∷ []) ≡ between i j ends
  before_end i j h =
      between_is (ends ++ v ∷ []) i j ∙ ap (drop i) (take-append-le j ends (v ∷ []) h) ∙ sym (between_is ends i j)

  pub pushed_last : (u : ℕ) → length starts ≡ suc u → slots_in starts (ends ++ v ∷ []) u ≡ slots_in starts ends u ++ Some v ∷ []
  pushed_last u e =
      let from = cut starts (length ends) u in
      let low = (a.1 u).1 in
      let l = length-append ends (v ∷ []) in
      let more = between_more (ends ++ v ∷ []) from (length ends) 0 low (omega arith) in
      let whole : between from (length ends + 1) (ends ++ v ∷ []) ≡ between from (length ends) ends ++ v ∷ [] =
      more ∙ rw (before_end from (length ends) (omega arith), get_or-append_seam ends v [] 0) refl in
      let old : cut starts (length ends) (suc u) ≡ length ends = get_or_past starts (suc u) (length ends) (omega arith) in
      rw (pushed_cut u (omega arith), pushed_end (suc u) (omega arith), old)
      (ap (map Some) whole ∙ map-append Some (between from (length ends) ends) (v ∷ []))

  pub pushed_others : (u : ℕ) → (length starts ≡ suc u → ⊥) → slots_in starts (ends ++ v ∷ []) u ≡ slots_in starts ends u
  pushed_others u ne =
      ⊎_elim
      (λ (h : suc u < length starts).
      let at = pushed_cut u (omega arith) in
      let to = pushed_cut (suc u) h in
      rw (at, to) (ap (map Some) (before_end (cut starts (length ends) u) (cut starts (length ends) (suc u)) (a.1 (suc u)).1)))
      (λ (h : length starts ≤ suc u). none_past starts (ends ++ v ∷ []) u (omega arith) ∙ sym (none_past starts ends u (omega arith)))
      (cases_lt (suc u) (length starts))

-- the last start moves with the end of all slots
module _ (a : Adjacency) (front : List ℕ) (x v : ℕ) (is : a.starts.items ≡ front ++ x ∷ []) where
  moved_last : x ≡ length a.ends.items
  moved_last =
      let end = length a.ends.items in
      let l : length (front ++ x ∷ []) - 1 ≡ length front = omega (arith, length-append front (x ∷ [])) in
      sym (get_or-append_seam front x [] end) ∙ sym (ap (λ k. get_or (front ++ x ∷ []) k end) l) ∙ sym (ap (λ xs. cut xs end (length xs - 1)) is) ∙ a.last

  moved_is : a.starts.items ≡ front ++ length a.ends.items ∷ []
  moved_is = is ∙ ap (λ y. front ++ y ∷ []) moved_last

  moved_some : 1 ≤ length front
  moved_some = let l = ap length is in omega (arith, length-append front (x ∷ []), a.few.0)

  moved_front : Ascends front (length a.ends.items)
  moved_front =
      let end = length a.ends.items in
      let same : (u : ℕ) → cut a.starts.items end u ≡ cut front end u = λ u. ap (λ xs. cut xs end u) moved_is ∙ grown_cut front end u in
      (sym (same 0) ∙ a.ascends.0, λ u. (omega (arith, same u, same (suc u), (a.ascends.1 u).0), omega (arith, same u, (a.ascends.1 u).1)))

  pub moved_ascends : Ascends (front ++ length (a.ends.items ++ v ∷ []) ∷ []) (length (a.ends.items ++ v ∷ []))
  moved_ascends = grown_ascends front (length (a.ends.items ++ v ∷ [])) (pushed_ascends front a.ends.items v moved_some moved_front)

  pub moved_few : (y : ℕ) → (2 ≤ length (front ++ y ∷ [])) × (length (front ++ y ∷ []) ≤ 1025)
  moved_few y =
      let l = ap length is in
      let m = length-append front (x ∷ []) in
      let n = length-append front (y ∷ []) in
      (omega (arith, a.few.0), omega (arith, a.few.1))

  pub pushed : (b : Adjacency) → b.ends.items ≡ a.ends.items ++ v ∷ [] → b.starts.items ≡ front ++ length b.ends.items ∷ [] → Pushed v a b
  pushed b e s =
      let new : (u : ℕ) → (listing b).slots u ≡ slots_in front (a.ends.items ++ v ∷ []) u =
      λ u. ap (λ xs. slots_in xs b.ends.items u) s ∙ grown_in front b.ends.items u ∙ ap (λ xs. slots_in front xs u) e in
      let old : (u : ℕ) → (listing a).slots u ≡ slots_in front a.ends.items u = λ u. ap (λ xs. slots_in xs a.ends.items u) moved_is ∙ grown_in front a.ends.items u in
      let size : (listing a).size ≡ length front = omega (arith, ap length is, length-append front (x ∷ [])) in
      record {
        size = omega (arith, ap length s, ap length is, length-append front (x ∷ []), length-append front (length b.ends.items ∷ []));
        last = λ u i. new u ∙ pushed_last front a.ends.items v moved_some moved_front u (sym size ∙ i) ∙ ap (λ xs. xs ++ Some v ∷ []) (sym (old u));
        others = λ u n. new u ∙ pushed_others front a.ends.items v moved_some moved_front u (λ i. n (size ∙ i)) ∙ sym (old u);
        one = filled_is b ∙ ap length e ∙ length-append a.ends.items (v ∷ []) ∙ ap (λ k. k + 1) (sym (filled_is a));
      }

-- ---- what a book keeps

-- adjacency lists whose slots hold closures
pub lists_sound : (a : Adjacency) → ((u v : ℕ) → T (holds ((listing a).slots u) v) → v < (listing a).size) → Sound 1024 (listing a)
lists_sound a below =
    record {
      some = omega (arith, a.few.0);
      few = omega (arith, a.few.1);
      outside = listed_past a;
      below = below;
      short = λ u.
          let end = length a.ends.items in
          let at = cut a.starts.items end in
          let m = length-map (between (at u) (at (suc u)) a.ends.items) Some in
          let l = length-between a.ends.items (at u) (at (suc u)) (a.ascends.1 (suc u)).1 in
          omega (arith, a.room, (a.ascends.1 (suc u)).1);
    }
