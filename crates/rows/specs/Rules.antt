-- The rules of rows: two listings of one plan, each in starts and ends.
use Rattle.std.specs.Prelude.{◌≡◌, ℕ, suc, ◌<◌, ◌≤◌, List, length, slice_index, slice_index_or}

-- some slot of the closure u holds v: its slots are the ends from its start up to but not including the next start
abbrev pub Lists : List ℕ → List ℕ → ℕ → ℕ → Type 0
Lists starts ends u v = (k : ℕ) × (slice_index starts u ≤ k) × (k < slice_index starts (suc u)) × (slice_index ends k ≡ v)

-- n + 1 starts begin at 0 and never fall, and the last is at most 4,096 and at most the number of ends
pub record Rising (n end_count : ℕ) (starts : List ℕ) : Type 0 where
  pub long : length starts ≡ suc n
  pub begins : slice_index_or starts 0 0 ≡ 0
  pub rises : (u : ℕ) → u < n → slice_index starts u ≤ slice_index starts (suc u)
  pub few : slice_index_or starts n 0 ≤ 4096
  pub inside : slice_index_or starts n 0 ≤ end_count

-- one listing of n closures keeps the rules by itself: the ends in use, those before the last start, are closures
pub record Ordered (n : ℕ) (starts ends : List ℕ) : Type 0 where
  pub rising : Rising n (length ends) starts
  pub below : (k : ℕ) → k < slice_index starts n → slice_index ends k < n

-- each span of one listing stands in the other
abbrev pub Shown : List ℕ → List ℕ → List ℕ → List ℕ → Type 0
Shown starts ends other_starts other_ends = (u v : ℕ) → Lists starts ends u v → Lists other_starts other_ends v u

-- all the rules
pub record Kept (n : ℕ) (out_starts out_ends in_starts in_ends : List ℕ) : Type 0 where
  pub some : 1 ≤ n
  pub most : n ≤ 1024
  pub out : Ordered n out_starts out_ends
  pub into : Ordered n in_starts in_ends
  pub shown : Shown out_starts out_ends in_starts in_ends
  pub shown_back : Shown in_starts in_ends out_starts out_ends

-- no number of closures keeps them
abbrev pub Broken : List ℕ → List ℕ → List ℕ → List ℕ → Type 0
Broken out_starts out_ends in_starts in_ends = (n : ℕ) → Kept n out_starts out_ends in_starts in_ends → ⊥
