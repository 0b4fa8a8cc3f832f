-- What an opened log means, and what opening answers.
use Rattle.std.specs.Prelude.{◌≡◌, ℕ, List, reverse, None, Result, MatchResult}
use Rattle.books.specs.declared.fault.Fault.{Fault}
use Rattle.books.specs.Adjacent.{listing}
use Rattle.books.specs.Faults.{numbered, placed, told}
use Rattle.logs.specs.declared.span.Span.{Span}
use Rattle.logs.specs.declared.stored.Log.{Log}
use Rattle.logs.specs.Opening.{Accepted, Chained, Refused}

abbrev pub closures : Log → ℕ
closures log = (listing log.out).size

abbrev pub history : Log → List Span
history log = reverse log.spans.items

-- a log has n closures and a history
abbrev pub Reads : Log → ℕ → List Span → Type 0
Reads log n h = (closures log ≡ n) × (history log ≡ h)

-- the log that bytes are
abbrev pub LogOf : List ℕ → Log → Type 0
LogOf bytes log = Accepted bytes (closures log) (history log)

-- bytes that are the log of n closures with a history are opened, and the log has these
abbrev pub Opens : {X : Type 0} → List ℕ → Result X Fault → Log → Type 0
Opens bytes r log = (n : ℕ) (h : List Span) → Accepted bytes n h → (told r ≡ None) × Reads log n h

-- the answer is right: the bytes are the log, or they are refused and the log is as before
abbrev pub Verdict : {X : Type 0} → List ℕ → Result X Fault → Log → Log → Type 0
Verdict bytes r before after = MatchResult r (λ _. LogOf bytes after) (λ e. Refused bytes (numbered e) (placed e) × (after ≡ before))

-- where bytes were opened, the slots of the log follow their chains
abbrev pub Follows : {X : Type 0} → List ℕ → Result X Fault → Log → Type 0
Follows bytes r log = told r ≡ None → Chained bytes (closures log) (history log)
