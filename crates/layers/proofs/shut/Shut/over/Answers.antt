use Rattle.layers.specs.Layers.{shuts}
use Rattle.layers.specs.Thinned.{leaves_both}
use Rattle.layers.proofs.shut.Shut.over.Goals as goal

pub returns-clause-leaves : goal.returns-clause-leaves
returns-clause-leaves g c =
    leaves_both (shuts (record { below = c.args.below; marks = c.none-marks.result })) (g.B.Outward.outgoing c.args.below) (g.B.TwoWay.incoming c.args.below)
