use Rattle.std.proofs.Common.{◌+◌, ◌*◌}
use Rattle.logs.specs.Opening.{Below}
use Rattle.logs.proofs.opening.Measured.records_held.Given as goal

abbrev pub invariant-loop-j : goal.invariant-loop-j
invariant-loop-j l =
    Below l.self.bytes.now l.self.header.n l.self.header.m (2 * l.self.header.n) (2 * l.self.header.n + 4 * l.j)
