use Rattle.std.proofs.Common.{◌≡◌, ℕ, List, []}
use Rattle.logs.specs.Drafts.{DraftOf}
use Rattle.logs.proofs.Written.{Onward}
use Rattle.logs.proofs.write.write_log.Given as goal

-- the draft writes to the same buffer as at first, has n closures, and has the spans so far
abbrev pub invariant-loop-span : goal.invariant-loop-span
invariant-loop-span l =
    (l.draft.buffer.ghost_name ≡ l.initial.draft.buffer.ghost_name)
    × (l.draft.header.n ≡ l.n)
    × ((before : List ℕ) → DraftOf before [] l.initial.draft → Onward before l.n l.spans l.span-index l.draft.header.m l.draft.buffer.now)
