use Rattle.std.proofs.Common.{suc, ◌<◌, map, Some, ap, ◌∙◌, arith}
use Rattle.books.proofs.Laying.{beside_pushed, beside_self, ended, pushed}
use Rattle.logs.specs.Opening.{end_at}
use Rattle.logs.proofs.Back.{judged}
use Rattle.logs.proofs.Canon.{reach}
use Rattle.logs.proofs.Following.{end_within, follow_falls, follow_on, follow_start, rest_all, rest_next, slots_few}
use Rattle.logs.proofs.index.LogSideSource.fill.Goals as goal

pub loop-j-init : goal.loop-j-init
loop-j-init c =
    let s = c.args.self.now in
    let log = s.tested.log in
    let u : c.args.u < log.header.n = omega arith in (
      follow_start log.bytes.now log.header.n log.header.m s.side c.args.u (judged s.tested) u c.head_place-place.result c.head_place-place.ensures,
      beside_self _,
      λ x. rw (rest_all log.bytes.now log.header.n log.header.m s.side c.args.u (judged s.tested) u c.head_place-place.result c.head_place-place.ensures) x,
    )

pub link-requires : goal.link-requires
link-requires c =
    let w = c.loop-j.invariant.0.within in
    omega arith

pub word_at-far-requires : goal.word_at-far-requires
word_at-far-requires c =
    let s = c.args.self.now in
    let log = s.tested.log in
    let l = end_within log.bytes.now log.header.n log.header.m s.side c.args.u (judged s.tested) c.loop-j.place c.in-Some.j c.loop-j.invariant.0 c.in-Some.ensures _ _ c.end_place.ensures in
    omega arith

pub loop-j-smaller : goal.loop-j-smaller
loop-j-smaller c =
    let s = c.args.self.now in
    let log = s.tested.log in
    follow_falls log.bytes.now log.header.n log.header.m s.side c.args.u (judged s.tested) c.loop-j.place c.in-Some.j c.loop-j.invariant.0 c.in-Some.ensures _ c.next_place-place.ensures

pub loop-j-preserved : goal.loop-j-preserved
loop-j-preserved c =
    let s = c.args.self.now in
    let log = s.tested.log in
    let at = c.end_place.ensures ∙ ap (λ t. end_at log.header.n t c.in-Some.j) c.other.ensures in
    let few = slots_few log.bytes.now log.header.n s.side log.header.m (suc c.args.u) (judged s.tested) (omega arith) in (
      follow_on log.bytes.now log.header.n log.header.m s.side c.args.u (judged s.tested) c.loop-j.place c.in-Some.j c.loop-j.invariant.0 c.in-Some.ensures _ c.next_place-place.ensures,
      beside_pushed _ _ _ _ _ c.loop-j.invariant.1 c.push.ensures.pushes c.push.ensures.keeps,
      λ x.
          pushed _ _ _ _ _ _ _ _ (c.loop-j.invariant.2 x)
          (rest_next log.bytes.now log.header.n log.header.m s.side c.args.u (judged s.tested) c.loop-j.place c.in-Some.j c.loop-j.invariant.0 c.in-Some.ensures _ c.next_place-place.ensures _ _ at c.word_at-far.ensures)
          few c.push.ensures.answer c.push.ensures.pushes,
    )

pub returns-clause-fills : goal.returns-clause-fills
returns-clause-fills c =
    let s = c.args.self.now in
    let log = s.tested.log in
    λ h x. ended _ _ _ _ (c.loop-j.invariant.2 x) (ap (λ k. map Some (reach log.bytes.now log.header.n s.side c.args.u k)) c.in_default.ensures)
