use Rattle.std.proofs.Common.{◌≡◌, ℕ, ◌<◌, IsTrue, get_or}
use Rattle.books.specs.Listing.{holds}
use Rattle.rows.specs.Slots.{row_of}
use Rattle.rows.proofs.rules.shown.Given as goal

abbrev pub invariant-loop-w : goal.invariant-loop-w
invariant-loop-w l = (j : ℕ) → j < l.w-index → get_or l.w-items j 0 ≡ l.u → ⊥

abbrev pub invariant-slots : goal.invariant-slots
invariant-slots l =
    (k : ℕ) → k < l.v-index → IsTrue (holds (row_of l.there.listed (get_or l.v-items k 0)) l.u)

abbrev pub invariant-loop-u : goal.invariant-loop-u
invariant-loop-u l =
    (w : ℕ) → w < l.u → (v : ℕ) → IsTrue (holds (row_of l.here.listed w) v) → IsTrue (holds (row_of l.there.listed v) w)
