use Rattle.layers.proofs.Marking.{none-marked}
use Rattle.layers.proofs.marks.Marks.none.Goals as goal

pub returns : goal.returns
returns c u = none-marked 1024 u
