use Rattle.std.proofs.Common.{refl, arith}
use Rattle.books.specs.Measures.{diameter, distance, equal, far, greatest, in_depth, out_depth, radius, reaches}
use Rattle.logs.specs.History.{encode, entries, heads}
use Rattle.worked.proofs.Slices.{loop_twice, span_once}
use Rattle.worked.proofs.Verdicts.{foreign_head, high_head, lost_record, unmet_records}
use Rattle.worked.proofs.worked_plans_hold.Goals as goal

pub returns : goal.returns
unfolding diameter distance equal far greatest in_depth out_depth radius reaches encode entries heads
returns c = ((refl, refl, refl), ((refl, refl, refl), ((refl, refl, refl), ((refl, refl, refl), ((refl, refl, refl), (refl, (refl, (refl, (refl, (refl, (refl, (refl, (refl, (record { written = refl; some = omega arith; few = omega arith; short = omega arith; inside = refl }, (high_head, (lost_record, (foreign_head, (unmet_records, (loop_twice, (span_once, tt))))))))))))))))))))
