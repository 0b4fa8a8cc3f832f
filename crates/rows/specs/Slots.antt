-- The slots of the closures of one listing.
use Rattle.std.specs.Prelude.{ℕ, suc, IsTrue, List, Option, slice_index, slice_range}
use Rattle.books.specs.Listing.{holds}
use Rattle.books.specs.Tables.{slots_at}
use Rattle.rows.specs.declared.listed.Listed.{Listed}

-- the ends from the start of the closure u up to but not including the next start
abbrev pub slots_of : Listed → ℕ → List ℕ
slots_of l u = slice_range l.ends.now (slice_index l.starts.now u) (slice_index l.starts.now (suc u))

-- the same as a book has them
abbrev pub row_of : Listed → ℕ → List (Option ℕ)
row_of l = slots_at l.starts.now l.ends.now

-- a closure of which a slot of u holds the number has a slot that holds u in the other listing
abbrev pub Mirrors : Listed → Listed → Type 0
Mirrors here there = (u v : ℕ) → IsTrue (holds (row_of here u) v) → IsTrue (holds (row_of there v) u)
