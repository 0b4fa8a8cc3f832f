use Rattle.std.proofs.Common.{◌*◌, ◌≤◌}
use Rattle.logs.specs.Opening.{Chains}
use Rattle.logs.proofs.opening.Bounded.chains.Given as goal

abbrev pub invariant-loop-u : goal.invariant-loop-u
invariant-loop-u l = (l.total ≤ 65535 * l.u) × Chains l.self.log.bytes.now l.self.log.header.n l.side l.u l.total
