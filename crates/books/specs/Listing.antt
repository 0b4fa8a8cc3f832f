-- What a book means: its number of closures and, for each closure, the list of its slots.
use Rattle.std.specs.Prelude.{◌≡◌, ℕ, zero, suc, ◌<◌, ◌≤◌, Bool, false, ◌||◌, T, List, [], ◌∷◌, length, Some, None, Option, nat_eq}
use Rattle.books.specs.Plan.{Plan}

pub record Listing : Type 0 where
  pub size : ℕ
  pub slots : ℕ → List (Option ℕ)

-- as many closures, with other slots
abbrev pub with_slots : Listing → (ℕ → List (Option ℕ)) → Listing
with_slots l slots = record { size = l.size; slots = slots }

-- the entry k of a list of slots, and nothing past its end
abbrev pub slot : List (Option ℕ) → ℕ → Option ℕ
slot [] k = None
slot (x ∷ xs) zero = x
slot (x ∷ xs) (suc k) = slot xs k

-- whether some slot holds v
abbrev pub holds : List (Option ℕ) → ℕ → Bool
holds [] v = false
holds (x ∷ xs) v = (elim x [ Some w ↦ nat_eq w v | None ↦ false ]) || holds xs v

-- the plan that outgoing slots describe
abbrev pub plan : Listing → Plan
plan l = record { size = l.size; leads = λ u v. holds (l.slots u) v }

-- what every book keeps in either direction, under a limit on the number of closures
pub record Sound (limit : ℕ) (l : Listing) : Type 0 where
  pub some : 1 ≤ l.size
  pub few : l.size ≤ limit
  pub outside : (u : ℕ) → l.size ≤ u → l.slots u ≡ []
  pub below : (u v : ℕ) → T (holds (l.slots u) v) → v < l.size
  pub short : (u : ℕ) → length (l.slots u) ≤ 65535

-- incoming slots show exactly the spans that outgoing slots show
abbrev pub Agree : (ℕ → List (Option ℕ)) → (ℕ → List (Option ℕ)) → Type 0
Agree out into = (u v : ℕ) → holds (into v) u ≡ holds (out u) v
