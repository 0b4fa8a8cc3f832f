-- What adjacency lists mean, and what is changed by one closure or one slot more.
use Rattle.std.specs.Prelude.{◌≡◌, ℕ, zero, suc, ◌+◌, ◌-◌, ◌<◌, List, [], ◌∷◌, ◌++◌, length, Some, Option, ◌≢◌}
use Rattle.books.specs.declared.stored.Adjacency.{Adjacency}
use Rattle.books.specs.Listing.{Listing}
use Rattle.books.specs.Tables.{cut, part}

abbrev pub listing : Adjacency → Listing
listing a = record { size = length a.starts.items - 1; slots = part (cut a.starts.items (length a.ends.items)) a.ends.items }

-- how many slots the first closures have
abbrev pub slots_below : (ℕ → List (Option ℕ)) → ℕ → ℕ
slots_below slots zero = 0
slots_below slots (suc u) = slots_below slots u + length (slots u)

-- how many slots there are in all
unfoldable pub filled : Adjacency → ℕ
filled a = slots_below (listing a).slots (listing a).size

-- one closure without slots
pub record Bare (a : Adjacency) : Type 0 where
  pub size : (listing a).size ≡ 1
  pub slots : (u : ℕ) → (listing a).slots u ≡ []
  pub none : filled a ≡ 0

-- b has one closure more than a, without slots
pub record Grown (a b : Adjacency) : Type 0 where
  pub size : (listing b).size ≡ (listing a).size + 1
  pub slots : (u : ℕ) → (listing b).slots u ≡ (listing a).slots u
  pub none : filled b ≡ filled a

-- b has one slot more than a: the last closure has it, behind its others
pub record Pushed (v : ℕ) (a b : Adjacency) : Type 0 where
  pub size : (listing b).size ≡ (listing a).size
  pub last : (u : ℕ) → (listing a).size ≡ suc u → (listing b).slots u ≡ (listing a).slots u ++ (Some v ∷ [])
  pub others : (u : ℕ) → ((listing a).size ≢ suc u) → (listing b).slots u ≡ (listing a).slots u
  pub one : filled b ≡ filled a + 1

-- b has the closures of a, and each but the last has its slots
pub record Beside (a b : Adjacency) : Type 0 where
  pub size : (listing b).size ≡ (listing a).size
  pub others : (u : ℕ) → ((listing a).size ≢ suc u) → (listing b).slots u ≡ (listing a).slots u

-- a has n closures, and each has the slots of its row
pub record Laid (row : ℕ → List (Option ℕ)) (n : ℕ) (a : Adjacency) : Type 0 where
  pub size : (listing a).size ≡ n
  pub slots : (u : ℕ) → u < n → (listing a).slots u ≡ row u

-- of the closures of a, each below u has the slots of its row, and u, the last, has those of its row before the rest
pub record Lacking (row : ℕ → List (Option ℕ)) (u : ℕ) (rest : List (Option ℕ)) (a : Adjacency) : Type 0 where
  pub size : (listing a).size ≡ suc u
  pub slots : (v : ℕ) → v < u → (listing a).slots v ≡ row v
  pub last : (listing a).slots u ++ rest ≡ row u
