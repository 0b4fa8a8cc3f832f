use Rattle.std.proofs.Common.{◌≡◌, suc, ◌+◌, subst, arith}
use Rattle.books.specs.Adjacent.{Laid}
use Rattle.books.proofs.Laying.{begun, grown}
use Rattle.books.proofs.stored.Adjacency.of.Goals as goal

pub loop-u-init : goal.loop-u-init
loop-u-init g c =
    let s = c.args.source.now in
    c.fill.ensures.fills (g.met.S.Source.some s) (begun (g.S.Source.listing s).slots _ c.new-lists.ensures)

pub loop-u-preserved : goal.loop-u-preserved
loop-u-preserved g c =
    let l = g.S.Source.listing c.args.source.now in
    let few = g.met.S.Source.few c.args.source.now in
    let end = c.closures-u-end.ensures in
    let e : suc c.loop-u.u ≡ c.loop-u.u + 1 = omega arith in
    subst (λ k. Laid l.slots k c.fill-in-loop-u.new.lists) e
    (c.fill-in-loop-u.ensures.fills (omega arith) (grown l.slots c.loop-u.u c.loop-u.lists c.grow.new.self c.grow.result c.loop-u.invariant (omega arith) c.grow.ensures.answer c.grow.ensures.grows))

pub returns : goal.returns
returns g c =
    let l = g.S.Source.listing c.args.source.now in
    let some = g.met.S.Source.some c.args.source.now in
    let end = c.closures-u-end.ensures in
    let e : c.loop-u.u ≡ l.size = omega (arith, c.loop-u.auto.u-end) in
    subst (λ k. Laid l.slots k c.loop-u.lists) e c.loop-u.invariant
