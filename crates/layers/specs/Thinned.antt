-- What shut closures leave of the slots of a book.
use Rattle.std.specs.Prelude.{◌≡◌, ℕ, zero, suc, Bool, true, false, cond, not, ◌&&◌, T, List, [], ◌∷◌, map, length, Some, None, Option, ◌==◌, nat_eq, refl}
use Rattle.std.proofs.Common.{arith, tests, sym, ap, subst, ◌∙◌}
use Rattle.std.proofs.Math.Bool.{and_comm}
use Rattle.std.proofs.lemmas.List.{length-map}
use Rattle.books.proofs.Truth.{and_parts}
use Rattle.books.specs.Listing.{Agree, Listing, Sound, holds, slot, with_slots}
use Rattle.layers.specs.Layers.{Leaves, LeavesBoth, emptied, kept, thinned}

slot_map : (f : Option ℕ → Option ℕ) → f None ≡ None → (xs : List (Option ℕ)) (k : ℕ) → slot (map f xs) k ≡ f (slot xs k)
slot_map f z [] k = sym z
slot_map f z (x ∷ xs) zero = refl
slot_map f z (x ∷ xs) (suc k) = slot_map f z xs k

module _ (shut : ℕ → Bool) where
  -- a slot that held w holds v if w is v and open
  held : (w v : ℕ) → (elim (kept shut (Some w)) [ Some y ↦ nat_eq y v | None ↦ false ]) ≡ (not (shut v) && w == v)
  held w v = grind (arith, tests)

  held_in : (b : Bool) (xs : List (Option ℕ)) (v : ℕ) → holds (map (λ s. cond b None (kept shut s)) xs) v ≡ (not b && not (shut v) && holds xs v)
  held_in true [] v = refl
  held_in true (x ∷ xs) v = held_in true xs v
  held_in false [] v = grind (arith, tests)
  held_in false (None ∷ xs) v = held_in false xs v
  held_in false (Some w ∷ xs) v = grind (arith, tests, held w v, held_in false xs v)

  holds_is : (slots : ℕ → List (Option ℕ)) (u v : ℕ) → holds (emptied shut slots u) v ≡ (not (shut u) && not (shut v) && holds (slots u) v)
  holds_is slots u v = held_in (shut u) (slots u) v

  count_is : (slots : ℕ → List (Option ℕ)) (u : ℕ) → length (emptied shut slots u) ≡ length (slots u)
  count_is slots u = length-map (slots u) (λ s. cond (shut u) None (kept shut s))

  pub slot_is : (slots : ℕ → List (Option ℕ)) (u k : ℕ) → slot (emptied shut slots u) k ≡ cond (shut u) None (kept shut (slot (slots u) k))
  slot_is slots u k = slot_map (λ s. cond (shut u) None (kept shut s)) (grind (arith, tests)) (slots u) k

  holds_below : (slots : ℕ → List (Option ℕ)) (u v : ℕ) → T (holds (emptied shut slots u) v) → T (holds (slots u) v)
  holds_below slots u v h = (and_parts (not (shut u) && not (shut v)) (holds (slots u) v) (subst T (holds_is slots u v) h)).1

  -- the laws of books
  pub thinned_sound : {limit : ℕ} (l : Listing) → Sound limit l → Sound limit (thinned shut l)
  thinned_sound l s = record {
    some = s.some;
    few = s.few;
    outside = λ u h. ap (map (λ s. cond (shut u) None (kept shut s))) (s.outside u h);
    below = λ u v h. s.below u v (holds_below l.slots u v h);
    short = λ u. rw (count_is l.slots u) (s.short u);
  }

  pub thinned_agree : (out into : ℕ → List (Option ℕ)) → Agree out into → Agree (emptied shut out) (emptied shut into)
  thinned_agree out into a u v =
      holds_is into v u ∙ ap (λ x. not (shut v) && not (shut u) && x) (a u v) ∙ ap (λ x. x && holds (out u) v) (and_comm (not (shut v)) (not (shut u))) ∙ sym (holds_is out u v)

  leaves : (l : Listing) → Leaves shut l (thinned shut l)
  leaves l = record { size = refl; counts = count_is l.slots; entries = slot_is l.slots; spans = record { size = refl; leads = holds_is l.slots } }

  pub leaves_both : (l : Listing) (into : ℕ → List (Option ℕ)) → LeavesBoth shut l into
  leaves_both l into = (leaves l, leaves (with_slots l into))
