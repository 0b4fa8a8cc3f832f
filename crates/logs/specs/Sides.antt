-- The two sides of a span: it leaves a closure, and it arrives at one.
use Rattle.std.specs.Prelude.{ℕ}
use Rattle.logs.specs.declared.side.Side.{Side}
use Rattle.logs.specs.declared.side.Side.TheVariants.{Leaving, Arriving}
use Rattle.logs.specs.declared.span.Span.{Span}

-- the word of a side among two: in a pair of heads, of ends or of next records
abbrev pub column : Side → ℕ
column Leaving = 0
column Arriving = 1

abbrev pub other : Side → Side
other Leaving = Arriving
other Arriving = Leaving

-- the end of a span on a side, and its other end
abbrev pub near : Side → Span → ℕ
near Leaving s = s.from
near Arriving s = s.to

abbrev pub far : Side → Span → ℕ
far side s = near (other side) s
