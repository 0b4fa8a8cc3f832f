-- What a visit answers.
use Rattle.std.specs.Prelude.{◌≡◌, ℕ, ◌<◌, cond, map, Some, None, Ok, Err, Option, Result, ◌≢◌, nat_lt, slice_index}
use Rattle.std.specs.List.{range_with_len}
use Rattle.books.specs.declared.fault.Fault.{Fault}
use Rattle.books.specs.declared.fault.Fault.TheVariants.{NoClosure}
use Rattle.books.specs.Plan.{Plan, Greatest}
use Rattle.books.specs.Measures.{distance, in_depth, out_depth}
use Rattle.visits.specs.declared.visit.Visit.{Visit}

-- how a distance is written: 65,535 says out of reach
abbrev pub written : Option ℕ → ℕ
written (Some d) = d
written None = 65535

-- an out-visit: from `start` to each closure
abbrev pub visited : Plan → ℕ → Result Visit Fault
visited p start =
    cond (nat_lt start p.size)
    (Ok (record { distances = map (λ v. written (distance p start v)) (range_with_len 0 1024); depth = out_depth p start }))
    (Err NoClosure)

-- an in-visit: to `start` from each closure
abbrev pub approached : Plan → ℕ → Result Visit Fault
approached p start =
    cond (nat_lt start p.size)
    (Ok (record { distances = map (λ v. written (distance p v start)) (range_with_len 0 1024); depth = in_depth p start }))
    (Err NoClosure)

-- A visit tells the numbers that are so: `at v d` says that v lies at distance d.
pub record Tells (at : ℕ → ℕ → Type 0) (x : Visit) : Type 0 where
  pub near : (v d : ℕ) → v < 1024 → at v d → slice_index x.distances v ≡ d
  pub only : (v d : ℕ) → v < 1024 → slice_index x.distances v ≡ d → (d ≢ 65535) → at v d
  pub beyond : (v : ℕ) → v < 1024 → ((d : ℕ) → at v d → ⊥) → slice_index x.distances v ≡ 65535
  pub deepest : Greatest (λ d. (v : ℕ) × at v d) x.depth
