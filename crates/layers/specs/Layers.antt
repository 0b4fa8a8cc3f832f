-- What a layer makes of the slots of the book below.
use Rattle.std.specs.Prelude.{◌≡◌, ℕ, ◌≤◌, Bool, false, cond, ◌&&◌, List, map, length, Some, None, Ok, Err, Option, Result, ◌==◌, nat_lt, slice_index_or}
use Rattle.books.specs.declared.fault.Fault.{Fault}
use Rattle.books.specs.declared.fault.Fault.TheVariants.{NoClosure}
use Rattle.books.specs.Plan.{Same, without}
use Rattle.books.specs.Listing.{Listing, plan, slot, with_slots}
use Rattle.layers.specs.declared.shut.Shut.{Shut}

-- what a slot holds with closures shut: nothing where it held a shut one
abbrev pub kept : (ℕ → Bool) → Option ℕ → Option ℕ
kept shut (Some v) = cond (shut v) None (Some v)
kept shut None = None

-- the slots of u with closures shut: as many, and all of them empty where u is shut
abbrev pub emptied : (ℕ → Bool) → (ℕ → List (Option ℕ)) → ℕ → List (Option ℕ)
emptied shut slots u = map (λ s. cond (shut u) None (kept shut s)) (slots u)

-- a listing with closures shut
abbrev pub thinned : (ℕ → Bool) → Listing → Listing
thinned shut l = record { size = l.size; slots = emptied shut l.slots }

-- What shut closures leave of a plan: n and the numbers of slots stay, the slots of a shut closure and those that hold one are
-- empty, and the spans are those between open closures.
pub record Leaves (shut : ℕ → Bool) (below above : Listing) : Type 0 where
  pub size : above.size ≡ below.size
  pub counts : (u : ℕ) → length (above.slots u) ≡ length (below.slots u)
  pub entries : (u k : ℕ) → slot (above.slots u) k ≡ cond (shut u) None (kept shut (slot (below.slots u) k))
  pub spans : Same (plan above) (without shut (plan below))

-- so for the outgoing slots of a book and for its incoming ones
abbrev pub LeavesBoth : (ℕ → Bool) → Listing → (ℕ → List (Option ℕ)) → Type 0
LeavesBoth shut l into = Leaves shut l (thinned shut l) × Leaves shut (with_slots l into) (thinned shut (with_slots l into))

-- whether a closure is shut
abbrev pub shuts : {B : Type 0} → Shut B → ℕ → Bool
shuts s u = slice_index_or s.marks.set u false

-- the closures that are shut once c, where it is one of n closures, has the mark
abbrev pub marked_at : ℕ → ℕ → Bool → (ℕ → Bool) → ℕ → Bool
marked_at n c mark shut u = cond (u == c && nat_lt u n) mark (shut u)

-- What giving c a mark answers and changes, over books with these slots: the book below stays, and c is shut or open as the mark
-- says. Where c is no closure, and where it has the mark already, nothing changes.
pub record Marking {B : Type 0} (outgoing : B → Listing) (incoming : B → ℕ → List (Option ℕ)) (c : ℕ) (mark : Bool) (r : Result Unit Fault) (before after : Shut B) : Type 0 where
  pub answer : r ≡ cond (nat_lt c (outgoing before.below).size) (Ok tt) (Err NoClosure)
  pub refused : (outgoing before.below).size ≤ c → after ≡ before
  pub again : shuts before c ≡ mark → after ≡ before
  pub below : after.below ≡ before.below
  pub marks : (u : ℕ) → shuts after u ≡ marked_at (outgoing before.below).size c mark (shuts before) u
  pub leaves : LeavesBoth (shuts after) (outgoing after.below) (incoming after.below)
