-- Adjacency lists in two tables: the slots of the closure u stand in `ends` from its start to the next one's.
use Rattle.std.specs.Prelude.{◌≡◌, ℕ, suc, ◌≤◌, List, map, Some, Option, slice_index, slice_index_or}
use Rattle.std.specs.List.{between}

-- the ends from the cut at u to the next one, as slots
abbrev pub part : (ℕ → ℕ) → List ℕ → ℕ → List (Option ℕ)
part cut ends u = map Some (between (cut u) (cut (suc u)) ends)

-- where the slots of the closure u begin: at its start, and past the last start at the end of all slots
abbrev pub cut : List ℕ → ℕ → ℕ → ℕ
cut starts end u = slice_index_or starts u end

-- the slots of the closure u, where there is one, with a start more than there are closures
abbrev pub slots_at : List ℕ → List ℕ → ℕ → List (Option ℕ)
slots_at starts ends = part (λ u. slice_index starts u) ends

-- the starts begin at 0 and never fall, and none is past the end
abbrev pub Ascends : List ℕ → ℕ → Type 0
Ascends starts end = (cut starts end 0 ≡ 0) × ((u : ℕ) → (cut starts end u ≤ cut starts end (suc u)) × (cut starts end u ≤ end))
