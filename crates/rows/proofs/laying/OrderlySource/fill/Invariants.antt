use Rattle.std.proofs.Common.{◌≡◌, ◌<◌, ◌≤◌, map, drop, Some}
use Rattle.books.specs.Adjacent.{Beside, Lacking}
use Rattle.rows.specs.Slots.{row_of}
use Rattle.rows.proofs.laying.OrderlySource.fill.Given as goal

abbrev pub invariant-loop-v : goal.invariant-loop-v
invariant-loop-v l =
    Beside l.initial.lists l.lists
    × (l.self.n ≤ l.u → l.lists ≡ l.initial.lists)
    × (l.u < l.self.n
    → Lacking (row_of l.self.listed) l.u (row_of l.self.listed l.u) l.initial.lists
    → Lacking (row_of l.self.listed) l.u (map Some (drop l.v-index l.v-items)) l.lists)
