-- What a list of slots holds stands in one of its slots.
use Rattle.std.proofs.Common.{◌≡◌, ℕ, zero, suc, ◌<◌, false, T, eqb, List, [], ◌∷◌, length, Some, None, Option, sym, ap, subst, ⊎_elim, suc-le-suc, arith, eqb→eq}
use lib.Dec.{eqb_refl}
use Rattle.books.proofs.Truth.{or_first, or_second, either_of}
use Rattle.books.specs.Listing.{Listing, Sound, slot, holds}

in_slot : (x : Option ℕ) (v : ℕ) → T (elim x [ Some w ↦ eqb w v | None ↦ false ]) → x ≡ Some v
in_slot (Some w) v t = ap Some (eqb→eq w v t)
in_slot None v t = elim t [ ]

pub holds_slot : (ss : List (Option ℕ)) (v : ℕ) → T (holds ss v) → (i : ℕ) × (i < length ss) × (slot ss i ≡ Some v)
holds_slot [] v t = elim t [ ]
holds_slot (x ∷ ss) v t =
    ⊎_elim (λ a. (0, omega arith, in_slot x v a)) (λ b. let r = holds_slot ss v b in (suc r.0, suc-le-suc r.1, r.2)) (either_of _ _ t)

pub slot_holds : (ss : List (Option ℕ)) (k v : ℕ) → slot ss k ≡ Some v → T (holds ss v)
slot_holds [] k v e = let x : ◌≡◌ {A = ℕ} 0 1 = cc in absurd (omega arith)
slot_holds (x ∷ ss) zero v e =
    or_first _ _ (subst (λ y. T (elim y [ Some w ↦ eqb w v | None ↦ false ])) (sym e) (eqb_refl v))
slot_holds (x ∷ ss) (suc k) v e = or_second _ _ (slot_holds ss k v e)

-- a slot that a book gives holds a closure of the plan, to which a span leads
pub given_slot : {limit : ℕ} (l : Listing) (u k v : ℕ) → Sound limit l → Some v ≡ slot (l.slots u) k → (slot (l.slots u) k ≡ Some v) × T (holds (l.slots u) v) × (v < l.size)
given_slot l u k v h e =
    let t = slot_holds (l.slots u) k v (sym e) in
    (sym e, t, h.below u v t)
