-- A log means a number of closures and a history: its spans, newest first.
use Rattle.std.specs.Prelude.{ℕ, zero, suc, ◌+◌, ◌*◌, Bool, true, cond, ◌&&◌, List, [], ◌∷◌, ◌++◌, map, length, drop, Some, None, Option, ◌==◌, nat_lt}
use Rattle.logs.specs.declared.side.Side.{Side}
use Rattle.logs.specs.declared.side.Side.TheVariants.{Leaving, Arriving}
use Rattle.logs.specs.declared.span.Span.{Span}
use Rattle.logs.specs.Sides.{near, far}
use Rattle.logs.specs.Words.{spread}

-- every span of a history is between closures below n
abbrev pub inside : ℕ → List Span → Bool
inside n [] = true
inside n (s ∷ h) = nat_lt s.from n && (nat_lt s.to n && inside n h)

-- the far ends of the spans whose near end on a side is u, newest first
abbrev pub chosen : Side → ℕ → List Span → List ℕ
chosen side u [] = []
chosen side u (s ∷ older) = cond (near side s == u) (far side s ∷ chosen side u older) (chosen side u older)

-- the slots of a closure on a side: for the spans that leave it, and for those that arrive at it
abbrev pub slots_on : Side → List Span → ℕ → List (Option ℕ)
slots_on side h u = map Some (chosen side u h)

abbrev pub leaving : List Span → ℕ → List (Option ℕ)
leaving = slots_on Leaving

abbrev pub arriving : List Span → ℕ → List (Option ℕ)
arriving = slots_on Arriving

-- the record of a number; the oldest record has the number 1
abbrev pub recorded : List Span → ℕ → Option Span
recorded [] k = None
recorded (s ∷ older) k = cond (k == suc (length older)) (Some s) (recorded older k)

-- the number of the newest record whose end on a side is u, and 0 where there is none
abbrev pub latest : Side → ℕ → List Span → ℕ
latest side u [] = 0
latest side u (s ∷ older) = cond (near side s == u) (suc (length older)) (latest side u older)

-- a row of words for each number below n
abbrev pub table : (ℕ → List ℕ) → ℕ → List ℕ
table row zero = []
table row (suc n) = table row n ++ row n

-- the two heads of each closure
abbrev pub pair : List Span → ℕ → List ℕ
pair h u = latest Leaving u h ∷ latest Arriving u h ∷ []

unfoldable pub heads : ℕ → List Span → List ℕ
heads n h = table (pair h) n

-- the four words of the record that a span gets after a history
abbrev pub record_of : Span → List Span → List ℕ
record_of s older = s.from ∷ s.to ∷ latest Leaving s.from older ∷ latest Arriving s.to older ∷ []

unfoldable pub entries : List Span → List ℕ
entries [] = []
entries (s ∷ older) = entries older ++ record_of s older

-- the length of a log in bytes
abbrev pub size : ℕ → ℕ → ℕ
size n m = 4 + 4 * n + 8 * m

-- the bytes of a log
unfoldable pub encode : ℕ → List Span → List ℕ
encode n h = spread (n ∷ length h ∷ (heads n h ++ entries h))

-- what a buffer that held `before` holds while a draft of n closures has the history h: the first two words are yet to be written
unfoldable pub unsealed : ℕ → List Span → List ℕ → List ℕ
unsealed n h before = spread (0 ∷ 0 ∷ (heads n h ++ entries h)) ++ drop (size n (length h)) before
