use Rattle.std.proofs.Common.{◌≡◌, suc, ◌+◌, length, ap, arith}
use Rattle.logs.specs.Opening.{none, more}
use Rattle.logs.proofs.opening.Bounded.chains.Goals as goal

pub loop-u-init : goal.loop-u-init
loop-u-init c = (omega arith, none)

pub loop-u-preserved : goal.loop-u-preserved
loop-u-preserved c =
    let got = c.in_ok-total.ensures in
    let few = got.few in
    let chain = got.follows in
    let next = more c.loop-u.invariant.1 chain.1.0 in
    let u : suc c.loop-u.u ≡ c.loop-u.u + 1 = omega arith in
    let t : c.loop-u.total + length chain.0 ≡ c.loop-u.total + c.in_ok-total.field-0 = ap (λ x. c.loop-u.total + x) chain.1.1 in
    (omega arith, rw (u, t) at next)
