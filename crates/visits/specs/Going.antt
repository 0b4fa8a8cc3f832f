-- What a visit keeps true while it runs.
use Rattle.std.specs.Prelude.{◌≡◌, ℕ, suc, ◌-◌, ◌<◌, ◌≤◌, cond, T, [], ◌∷◌, ◌++◌, length, replicate, ◌==◌, ◌≢◌, slice_index, slice_set}
use Rattle.books.specs.Counts.{others}
use Rattle.books.specs.Plan.{Plan, Chain}
use Rattle.visits.specs.declared.search.Search.{Search}
use Rattle.visits.specs.declared.visit.Visit.{Visit}

-- how many closures are found
abbrev pub found : Search → ℕ
found s = length s.queue.items

-- the closure at place i of the queue, and its distance
abbrev pub place : Search → ℕ → ℕ
place s i = slice_index s.queue.items i

abbrev pub far : Search → ℕ → ℕ
far s v = slice_index s.distances v

-- the first `head` closures of the queue have been looked from
pub record Going (p : Plan) (head : ℕ) (s : Search) : Type 0 where
  pub long : length s.distances ≡ 1024
  pub few : p.size ≤ 1024
  pub begun : 0 < found s
  pub behind : head ≤ found s
  pub tally : others 65535 s.distances ≡ found s
  pub outside : (v : ℕ) → p.size ≤ v → v < 1024 → far s v ≡ 65535
  pub queued : (i : ℕ) → i < found s → place s i < p.size
  pub soon : (i : ℕ) → i < found s → far s (place s i) ≤ i
  pub order : (i j : ℕ) → i ≤ j → j < found s → far s (place s i) ≤ far s (place s j)
  pub near : (i : ℕ) → head < found s → i < found s → far s (place s i) ≤ suc (far s (place s head))
  pub listed : (v : ℕ) → v < 1024 → (far s v ≢ 65535) → (i : ℕ) × (i < found s) × (place s i ≡ v)
  pub chains : (v : ℕ) → v < 1024 → (far s v ≢ 65535) → Chain p (place s 0) v (far s v)
  pub looked : (i v : ℕ) → i < head → T (p.leads (place s i) v) → far s v ≤ suc (far s (place s i))

-- the state in which only `start` is found
abbrev pub opened : ℕ → Search
opened start = record { distances = slice_set (replicate 1024 65535) start 0; queue = record { items = start ∷ [] } }

-- the state after v is noted at distance d
abbrev pub noted : Search → ℕ → ℕ → Search
noted s v d = cond (far s v == 65535) (record { distances = slice_set s.distances v d; queue = record { items = s.queue.items ++ v ∷ [] } }) s

-- what a search that is over found: the closure found last is the farthest
abbrev pub finished : Search → Visit
finished s = record { distances = s.distances; depth = far s (place s (found s - 1)) }
