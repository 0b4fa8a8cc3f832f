use Rattle.visits.proofs.Measuring.{none_measured}
use Rattle.visits.proofs.figures.Figures.blank.Goals as goal

pub returns : goal.returns
returns c = none_measured
