-- The table of refusals: the number and the place of each.
use Rattle.std.specs.Prelude.{ℕ, Some, None, Ok, Err, Option, Result}
use Rattle.books.specs.declared.fault.Fault.{Fault}
use Rattle.books.specs.declared.fault.Fault.TheVariants.{ShortLog, ClosureCount, RecordCount, LogLength, WordRange, ForeignLink, LostRecord, NoRoom, NoClosure, LateMark, NoSite, VisitedBefore, NotReady, BrokenRows}

-- the number of a refusal, and its place; a refusal that is about no byte has the place 0
abbrev pub coded : Fault → ℕ × ℕ
coded ShortLog = (1, 0)
coded ClosureCount = (2, 0)
coded RecordCount = (3, 0)
coded LogLength = (4, 0)
coded (WordRange place) = (5, place)
coded (ForeignLink place) = (6, place)
coded (LostRecord place) = (7, place)
coded NoRoom = (8, 0)
coded NoClosure = (9, 0)
coded LateMark = (10, 0)
coded NoSite = (11, 0)
coded VisitedBefore = (12, 0)
coded NotReady = (13, 0)
coded BrokenRows = (14, 0)

abbrev pub numbered : Fault → ℕ
numbered fault = (coded fault).0

abbrev pub placed : Fault → ℕ
placed fault = (coded fault).1

-- the refusal of a result, and nothing where it is an Ok
abbrev pub told : {X : Type 0} → Result X Fault → Option Fault
told (Ok x) = None
told (Err e) = Some e
