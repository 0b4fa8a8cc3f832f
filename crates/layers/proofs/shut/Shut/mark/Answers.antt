use Rattle.std.proofs.Common.{arith}
use Rattle.layers.proofs.Marking.{accepts, refuses}
use Rattle.layers.proofs.shut.Shut.mark.Goals as goal

pub returns-then-c-n : goal.returns-then-c-n
returns-then-c-n g c = refuses g.B.Outward.outgoing g.B.TwoWay.incoming c.args.c c.args.mark c.args.self.now (omega arith)

pub returns : goal.returns
returns g c =
    let few = (g.met.B.Outward.sound c.args.self.now.below).few in
    accepts g.B.Outward.outgoing g.B.TwoWay.incoming c.args.c c.args.mark c.args.self.now c.put.new.self
    (omega arith) (omega (arith, few, g.met.B.Outward.capped)) c.put.ensures
