use Rattle.books.proofs.Measured.{measures_right, books_closed}
use Rattle.books.proofs.theorems.measures_are_right.Goals as goal

pub returns : goal.returns
returns c = record { measures = measures_right; books = books_closed }
