use Rattle.std.proofs.Common.{◌≡◌, reverse, length}
use Rattle.logs.specs.Opening.{spans_at}
use Rattle.logs.proofs.opening.Tested.read_spans.Given as goal

abbrev pub invariant-loop-j : goal.invariant-loop-j
invariant-loop-j l = record { count : length l.spans.items ≡ l.j; history : reverse l.spans.items ≡ spans_at l.bytes l.header.n l.j }
