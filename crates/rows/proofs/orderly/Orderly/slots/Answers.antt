use Rattle.std.proofs.Common.{◌+◌, arith}
use Rattle.rows.specs.Starts.{start_inside}
use Rattle.rows.proofs.orderly.Orderly.slots.Goals as goal

pub slice_bounds-result-end-2 : goal.slice_bounds-result-end-2
slice_bounds-result-end-2 c =
    let i = start_inside c.args.self.n c.args.self.listed c.args.self.ordered (c.from-u.result + 1) (omega arith) in
    omega (arith, c.from-2.ensures)
