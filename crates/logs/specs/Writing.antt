-- What is written of a list of spans, the oldest first, and why it may be refused.
use Rattle.std.specs.Prelude.{◌≡◌, ℕ, suc, ◌<◌, ◌≤◌, List, [], ◌∷◌, ◌++◌, reverse, length, drop, Some, None, Ok, Err, Option, Result, MatchResult}
use Rattle.books.specs.declared.fault.Fault.{Fault}
use Rattle.books.specs.declared.fault.Fault.TheVariants.{NoRoom}
use Rattle.books.specs.Faults.{told}
use Rattle.logs.specs.declared.span.Span.{Span}
use Rattle.logs.specs.declared.stored.Log.{Log}
use Rattle.logs.specs.Drafts.{Wrote, fitting, refuses}
use Rattle.logs.specs.History.{unsealed}
use Rattle.logs.specs.Logs.{closures, history}

-- the first refusal of a draft of n closures and m records, in a buffer of a length, to which the spans are added
unfoldable pub adding : ℕ → ℕ → ℕ → List Span → Option Fault
adding n len m [] = None
adding n len m (s ∷ later) = elim (refuses n m len s) [ Some e ↦ Some e | None ↦ adding n len (suc m) later ]

-- the spans that it takes before that
unfoldable pub taken : ℕ → ℕ → ℕ → List Span → List Span
taken n len m [] = []
taken n len m (s ∷ later) = elim (refuses n m len s) [ Some e ↦ [] | None ↦ s ∷ taken n len (suc m) later ]

-- why a log of n closures and the spans is not written to a buffer of a length
unfoldable pub writing : ℕ → ℕ → List Span → Option Fault
writing n len spans = elim (fitting n len) [ Some e ↦ Some e | None ↦ adding n len 0 spans ]

-- what a buffer that held `before` holds after that refusal: the draft as far as it came
unfoldable pub left_off : ℕ → List Span → List ℕ → List ℕ
left_off n spans before =
    elim (fitting n (length before)) [ Some e ↦ before | None ↦ unsealed n (reverse (taken n (length before) 0 spans)) before ]

-- what is answered and left where a log of n closures and the spans is written to a buffer that held `before`
pub record Written (n : ℕ) (spans : List Span) (before : List ℕ) (r : Result ℕ Fault) (after : List ℕ) : Type 0 where
  pub answer : told r ≡ writing n (length before) spans
  pub bytes : MatchResult r (λ len. Wrote n (reverse spans) before len after) (λ _. after ≡ left_off n spans before)

-- The bytes of an opened log, written again to a buffer that held `before`: where there is room for them, the buffer begins
-- with them and keeps what is behind; elsewhere the call is refused.
pub record Rewritten (bytes : List ℕ) (log : Log) (before : List ℕ) (r : Result ℕ Fault) (after : List ℕ) : Type 0 where
  pub written : length bytes ≤ length before → (r ≡ Ok (length bytes)) × (after ≡ bytes ++ drop (length bytes) before)
  pub refused : length before < length bytes → (r ≡ Err NoRoom) × (after ≡ left_off (closures log) (reverse (history log)) before)
