use Rattle.std.proofs.Common.{◌+◌, false, arith, rules}
use Rattle.std.proofs.lemmas.List.Sorted.{non_decreasing_from_is_sorted}
use Rattle.rows.specs.Starts.{rising_sorted}
use Rattle.rows.proofs.rules.starts_rise.Goals as goal

pub returns-then-not-is_sorted : goal.returns-then-not-is_sorted
returns-then-not-is_sorted c =
    let f = c.if-not-is_sorted.ensures.cases in
    let g = non_decreasing_from_is_sorted c.args.starts.now false f in
    (search rules, λ r. absurd (omega (arith, g.2 0, rising_sorted _ _ _ r g.0 (g.0 + 1) 0 (omega arith) g.1)))
