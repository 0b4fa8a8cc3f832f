use Rattle.std.proofs.Common.{◌≡◌, refl, arith}
use Rattle.logs.specs.Words.{word}
use Rattle.logs.proofs.Walks.{walk_end, walk_falls, walk_on, walk_start, walk_strays}
use Rattle.logs.proofs.opening.Bounded.walk.Goals as goal

pub loop-j-init : goal.loop-j-init
loop-j-init c =
    walk_start c.args.self.log.bytes.now c.args.self.log.header.n c.args.self.log.header.m c.args.side c.args.u c.head_place-place.result c.args.self.ranged c.requires c.head_place-place.ensures

pub returns-then-word_at-u-clause-follows : goal.returns-then-word_at-u-clause-follows
returns-then-word_at-u-clause-follows c =
    (refl, walk_strays _ _ _ _ _ _ _ _ _ _ c.loop-j.invariant c.in-Some.ensures c.end_place-end.ensures c.word_at.ensures c.if-word_at-u.true)

pub loop-j-smaller : goal.loop-j-smaller
loop-j-smaller c =
    walk_falls _ _ _ _ _ _ _ _ _ c.args.self.ranged c.loop-j.invariant c.in-Some.ensures c.next_place-place.ensures

pub loop-j-preserved : goal.loop-j-preserved
loop-j-preserved c =
    walk_on _ _ _ _ _ _ _ _ _ _ _ c.args.self.ranged c.loop-j.invariant c.in-Some.ensures c.end_place-end.ensures c.word_at.ensures c.if-word_at-u.false c.next_place-place.ensures

pub returns : goal.returns
returns c =
    let w = c.loop-j.invariant.falls in
    let e : word c.args.self.log.bytes.now c.loop-j.place ≡ 0 = c.in_default.ensures in
    record { few = omega arith; follows = walk_end _ _ _ _ _ _ _ c.loop-j.invariant e }
