use Rattle.std.proofs.Common.{arith}
use Rattle.logs.proofs.Back.{judged}
use Rattle.logs.proofs.Following.{slots_few}
use Rattle.logs.proofs.opening.Tested.on.Goals as goal

pub invariant_of-result : goal.invariant_of-result
invariant_of-result c =
    let log = c.args.self.log in
    record { room = slots_few log.bytes.now log.header.n c.args.side log.header.m log.header.n (judged c.args.self) (omega arith) }
