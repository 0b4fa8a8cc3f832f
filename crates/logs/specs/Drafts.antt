-- The life of a draft.
use Rattle.std.specs.Prelude.{◌≡◌, ℕ, ◌+◌, ◌*◌, ◌≤◌, Bool, true, cond, ◌||◌, List, [], ◌∷◌, ◌++◌, length, take, drop, Some, None, Option, ◌==◌, nat_le, nat_lt}
use Rattle.books.specs.declared.fault.Fault.{Fault}
use Rattle.books.specs.declared.fault.Fault.TheVariants.{ClosureCount, NoClosure, NoRoom}
use Rattle.logs.specs.declared.draft.Draft.{Draft}
use Rattle.logs.specs.declared.side.Side.TheVariants.{Leaving, Arriving}
use Rattle.logs.specs.declared.span.Span.{Span}
use Rattle.logs.specs.History.{encode, inside, size, unsealed}
use Rattle.logs.specs.Opening.{Accepted, head_at}
use Rattle.logs.specs.Words.{put, spread, word}

-- why a draft of n closures cannot start in a buffer of a length
abbrev pub fitting : ℕ → ℕ → Option Fault
fitting n len = cond (n == 0 || nat_lt 1024 n) (Some ClosureCount) (cond (nat_lt len (4 + 4 * n)) (Some NoRoom) None)

-- why a draft of n closures and m records, in a buffer of a length, refuses a span
abbrev pub refuses : ℕ → ℕ → ℕ → Span → Option Fault
refuses n m len s =
    cond (nat_le n s.from || nat_le n s.to) (Some NoClosure) (cond (nat_le 4096 m || nat_lt len (size n m + 8)) (Some NoRoom) None)

-- a draft with n closures and m records, over a buffer that held `before`, has the history h
pub record Drafted (before : List ℕ) (n m : ℕ) (h : List Span) (buffer : List ℕ) : Type 0 where
  pub some : 1 ≤ n
  pub few : n ≤ 1024
  pub count : m ≡ length h
  pub most : m ≤ 4096
  pub room : size n m ≤ length before
  pub inside : inside n h ≡ true
  pub bytes : buffer ≡ unsealed n h before

-- a draft with a history, over a buffer that held `before`
abbrev pub DraftOf : List ℕ → List Span → Draft → Type 0
DraftOf before h draft = Drafted before draft.header.n draft.header.m h draft.buffer.now

-- a draft with nothing in it, over a buffer that holds what it held
abbrev pub Void : List ℕ → Draft → Type 0
Void before draft = (draft.header.n ≡ 0) × (draft.header.m ≡ 0) × (draft.buffer.now ≡ before)

-- a buffer with a record behind the first m, which leads on to the records that its closures' heads led to
abbrev pub behind : ℕ → ℕ → List ℕ → Span → List ℕ
behind n m buffer s =
    take (size n m) buffer
    ++ (spread (s.from ∷ s.to ∷ word buffer (head_at Leaving s.from) ∷ word buffer (head_at Arriving s.to) ∷ []) ++ drop (size n m + 8) buffer)

-- the buffer after a span was added: both heads lead to its record
abbrev pub added : ℕ → ℕ → List ℕ → Span → List ℕ
added n m buffer s = put (put (behind n m buffer s) (head_at Leaving s.from) (m + 1)) (head_at Arriving s.to) (m + 1)

-- a draft before and after a span was added
abbrev pub Added : Span → Draft → Draft → Type 0
Added s old new = (new.header.m ≡ old.header.m + 1) × (new.buffer.now ≡ added old.header.n old.header.m old.buffer.now s)

-- its history has that span more
abbrev pub Grows : Span → Draft → Draft → Type 0
Grows s old new = (before : List ℕ) (h : List Span) → DraftOf before h old → DraftOf before (s ∷ h) new

-- whether a draft has nothing to seal: it has no closures, or no room for two words
abbrev pub empty : ℕ → List ℕ → Bool
empty n buffer = n == 0 || nat_lt (length buffer) 4

-- the length that sealing gives, and the buffer that it leaves
abbrev pub sealed_length : ℕ → ℕ → List ℕ → ℕ
sealed_length n m buffer = cond (empty n buffer) 0 (size n m)

abbrev pub sealed : ℕ → ℕ → List ℕ → List ℕ
sealed n m buffer = cond (empty n buffer) buffer (put (put buffer 0 n) 2 m)

-- a buffer that held `before` holds the log of n closures with a history, whose length is len, and behind it what was there
pub record Wrote (n : ℕ) (h : List Span) (before : List ℕ) (len : ℕ) (after : List ℕ) : Type 0 where
  pub gives : len ≡ size n (length h)
  pub extent : length (encode n h) ≡ len
  pub log : Accepted (encode n h) n h
  pub bytes : after ≡ encode n h ++ drop len before

-- a draft was sealed: the buffer holds the log of its history
abbrev pub Seals : Draft → ℕ → List ℕ → Type 0
Seals draft len after = (before : List ℕ) (h : List Span) → DraftOf before h draft → Wrote draft.header.n h before len after
