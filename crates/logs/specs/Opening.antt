-- When bytes are a log, and why they are not.
use Rattle.std.specs.Prelude.{◌≡◌, ℕ, zero, suc, ◌+◌, ◌-◌, ◌*◌, ◌/◌, ◌%◌, ◌<◌, ◌≤◌, true, cond, ◌||◌, ◌⊎◌, List, [], ◌∷◌, map, length, Some, None, Option, ◌==◌, ◌≢◌, nat_lt}
use Rattle.books.specs.declared.fault.Fault.{Fault}
use Rattle.books.specs.declared.fault.Fault.TheVariants.{ShortLog, ClosureCount, RecordCount, LogLength}
use Rattle.books.specs.Faults.{numbered, placed}
use Rattle.logs.specs.declared.side.Side.{Side}
use Rattle.logs.specs.declared.side.Side.TheVariants.{Leaving, Arriving}
use Rattle.logs.specs.declared.span.Span.{Span}
use Rattle.logs.specs.Sides.{column, other}
use Rattle.logs.specs.History.{encode, inside, size, slots_on}
use Rattle.logs.specs.Words.{word}

-- what numbers of closures and records refuse
abbrev pub counted : ℕ → ℕ → Option Fault
counted n m = cond (n == 0 || nat_lt 1024 n) (Some ClosureCount) (cond (nat_lt 4096 m) (Some RecordCount) None)

-- what the first two words and the length refuse
abbrev pub headed : List ℕ → Option Fault
headed bytes =
    cond (nat_lt (length bytes) 4) (Some ShortLog)
    (cond (word bytes 0 == 0 || nat_lt 1024 (word bytes 0)) (Some ClosureCount)
    (cond (nat_lt 4096 (word bytes 2)) (Some RecordCount)
    (cond (length bytes == size (word bytes 0) (word bytes 2)) None (Some LogLength))))

-- the least value that the word k after the first two may not have: a head is at most m, an end is below n, and a next record is below its own
abbrev pub bound : ℕ → ℕ → ℕ → ℕ
bound n m k = cond (nat_lt k (2 * n)) (m + 1) (cond (nat_lt ((k - 2 * n) % 4) 2) n ((k - 2 * n) / 4 + 1))

-- every word after the first two is below its bound
abbrev pub Ranged : List ℕ → ℕ → ℕ → Type 0
Ranged bytes n m = (k : ℕ) → k < 2 * n + 4 * m → word bytes (4 + 2 * k) < bound n m k

-- every word from one on up to another is
abbrev pub Below : List ℕ → ℕ → ℕ → ℕ → ℕ → Type 0
Below bytes n m from to = (k : ℕ) → from ≤ k → k < to → word bytes (4 + 2 * k) < bound n m k

-- the word at a place is the first that is not
pub record Outside (bytes : List ℕ) (n m place : ℕ) : Type 0 where
  pub index : ℕ
  pub stands : place ≡ 4 + 2 * index
  pub within : index < 2 * n + 4 * m
  pub high : bound n m index ≤ word bytes place
  pub first : (j : ℕ) → j < index → word bytes (4 + 2 * j) < bound n m j

-- The places of a head, an end and a next record, by side.
-- Records are counted from 0 here, so the link `suc j` leads to the record j.
abbrev pub head_at : Side → ℕ → ℕ
head_at s u = 4 + 4 * u + 2 * column s

abbrev pub end_at : ℕ → Side → ℕ → ℕ
end_at n s j = 4 + 4 * n + 8 * j + 2 * column s

abbrev pub next_at : ℕ → Side → ℕ → ℕ
next_at n s j = 4 + 4 * n + 8 * j + 2 * column s + 4

-- the chain of the closure u that the link at a place begins, with its records
pub data Chain (bytes : List ℕ) (n : ℕ) (s : Side) (u : ℕ) : ℕ → List ℕ → Type 0 where
  end : {p : ℕ} → word bytes p ≡ 0 → Chain bytes n s u p []
  link : {p j : ℕ} {js : List ℕ} → word bytes p ≡ suc j → word bytes (end_at n s j) ≡ u → Chain bytes n s u (next_at n s j) js → Chain bytes n s u p (j ∷ js)

-- the links that follow a place lead to records of u up to the one at the place q, which leads to a record of another closure
pub data Strays (bytes : List ℕ) (n : ℕ) (s : Side) (u : ℕ) : ℕ → ℕ → Type 0 where
  here : {p j : ℕ} → word bytes p ≡ suc j → (word bytes (end_at n s j) ≢ u) → Strays bytes n s u p p
  there : {p q j : ℕ} → word bytes p ≡ suc j → word bytes (end_at n s j) ≡ u → Strays bytes n s u (next_at n s j) q → Strays bytes n s u p q

-- the chains of the closures below u, with so many records in all
pub data Chains (bytes : List ℕ) (n : ℕ) (s : Side) : ℕ → ℕ → Type 0 where
  none : Chains bytes n s 0 0
  more : {u t : ℕ} {js : List ℕ} → Chains bytes n s u t → Chain bytes n s u (head_at s u) js → Chains bytes n s (suc u) (t + length js)

-- the first link of a side that leads to a record of another closure, by closure, stands at a place
pub record Strayed (bytes : List ℕ) (n : ℕ) (s : Side) (place : ℕ) : Type 0 where
  pub closure : ℕ
  pub within : closure < n
  pub records : ℕ
  pub before : Chains bytes n s closure records
  pub strays : Strays bytes n s closure (head_at s closure) place

-- the first of all links, the leaving ones first
pub data Foreign (bytes : List ℕ) (n : ℕ) : ℕ → Type 0 where
  leaving : {place : ℕ} → Strayed bytes n Leaving place → Foreign bytes n place
  arriving : {place t : ℕ} → Chains bytes n Leaving n t → Strayed bytes n Arriving place → Foreign bytes n place

-- the span of a record, and those of the first records, newest first
abbrev pub span_at : List ℕ → ℕ → ℕ → Span
span_at bytes n j = record { from = word bytes (end_at n Leaving j); to = word bytes (end_at n Arriving j) }

abbrev pub spans_at : List ℕ → ℕ → ℕ → List Span
spans_at bytes n zero = []
spans_at bytes n (suc j) = span_at bytes n j ∷ spans_at bytes n j

abbrev pub Among : ℕ → List ℕ → Type 0
Among j [] = ⊥
Among j (i ∷ is) = (i ≡ j) ⊎ Among j is

-- a record that is in no chain of a side
pub record Lost (bytes : List ℕ) (n m : ℕ) (s : Side) : Type 0 where
  pub number : ℕ
  pub within : number < m
  pub chainless : (u : ℕ) (js : List ℕ) → u < n → Chain bytes n s u (head_at s u) js → Among number js → ⊥

-- Why bytes are no log, by the number of the refusal and its place: the tests in their order, each after those before it have passed.
pub data Refused (bytes : List ℕ) : ℕ → ℕ → Type 0 where
  heading : {e : Fault} → headed bytes ≡ Some e → Refused bytes (numbered e) (placed e)
  range : {place : ℕ} → headed bytes ≡ None → Outside bytes (word bytes 0) (word bytes 2) place → Refused bytes 5 place
  foreign : {place : ℕ} → headed bytes ≡ None → Ranged bytes (word bytes 0) (word bytes 2) → Foreign bytes (word bytes 0) place → Refused bytes 6 place
  lost : {t r : ℕ} {s : Side} → headed bytes ≡ None → Ranged bytes (word bytes 0) (word bytes 2) → Chains bytes (word bytes 0) Leaving (word bytes 0) t → Chains bytes (word bytes 0) Arriving (word bytes 0) r → Lost bytes (word bytes 0) (word bytes 2) s → Refused bytes 7 (4 + 4 * word bytes 0)

-- bytes are the log of n closures with a history
pub record Accepted (bytes : List ℕ) (n : ℕ) (h : List Span) : Type 0 where
  pub written : bytes ≡ encode n h
  pub some : 1 ≤ n
  pub few : n ≤ 1024
  pub short : length h ≤ 4096
  pub inside : inside n h ≡ true

-- The slots of a history follow the chains of the bytes: on each side every closure below n has a chain, and its slots are
-- the other ends of the records of its chain, in their order.
pub record Chained (bytes : List ℕ) (n : ℕ) (h : List Span) : Type 0 where
  pub chain : (s : Side) (u : ℕ) → u < n → (js : List ℕ) × Chain bytes n s u (head_at s u) js
  pub slots : (s : Side) (u : ℕ) (js : List ℕ) → u < n → Chain bytes n s u (head_at s u) js → slots_on s h u ≡ map (λ j. Some (word bytes (end_at n (other s) j))) js

-- bytes have one verdict only
pub record Decided (bytes : List ℕ) : Type 0 where
  pub refusals : (a b p q : ℕ) → Refused bytes a p → Refused bytes b q → (a ≡ b) × (p ≡ q)
  pub histories : (n k : ℕ) (h g : List Span) → Accepted bytes n h → Accepted bytes k g → (n ≡ k) × (h ≡ g)
  pub apart : (n a p : ℕ) (h : List Span) → Accepted bytes n h → Refused bytes a p → ⊥

-- chains of both sides that have every record
pub record Whole (bytes : List ℕ) (n m : ℕ) : Type 0 where
  pub ranged : Ranged bytes n m
  pub chains : (s : Side) → Chains bytes n s n m

-- bytes of n closures and m records that pass every test
pub record Judged (bytes : List ℕ) (n m : ℕ) : Type 0 where
  pub len : length bytes ≡ size n m
  pub some : 1 ≤ n
  pub few : n ≤ 1024
  pub short : m ≤ 4096
  pub whole : Whole bytes n m
