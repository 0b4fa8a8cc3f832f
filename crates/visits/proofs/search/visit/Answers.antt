use Rattle.std.proofs.Common.{◌<◌, ◌≤◌, Ok, sym, ap, ◌∙◌, subst, arith}
use Rattle.books.specs.Listing.{plan}
use Rattle.books.proofs.Measured.{book_closed}
use Rattle.visits.specs.declared.search.Search.{Search}
use Rattle.visits.specs.Going.{Going, place}
use Rattle.visits.proofs.Steps.{all_found}
use Rattle.visits.proofs.Ends.{going_first, visit_right}
use Rattle.visits.proofs.search.visit.Goals as goal

pub loop-head-init : goal.loop-head-init
loop-head-init g c =
    let l = g.S.Spans.listing c.args.spans.now in
    let few : l.size ≤ 1024 = (g.met.S.Spans.sound c.args.spans.now).few in
    let in' : c.args.start < l.size = omega (arith, c.size.ensures, c.if-start-size.false) in
    record {
      going = subst (λ (s : Search). Going (plan l) 0 s) (sym c.at-search.ensures) (going_first (plan l) c.args.start in' few);
      start = ap (λ (s : Search). place s 0) c.at-search.ensures;
    }

pub loop-head-smaller : goal.loop-head-smaller
loop-head-smaller g c = omega (arith, c.loop-head-test.true, c.len.ensures.value, all_found c.loop-head.invariant.going, c.loop-head.invariant.going.few)

pub returns : goal.returns
returns g c =
    let l = g.S.Spans.listing c.args.spans.now in
    let o = c.loop-head.invariant in
    let sound = g.met.S.Spans.sound c.args.spans.now in
    ap Ok c.finish.ensures
    ∙ visit_right (plan l) c.loop-head.head c.loop-head.search o.going (omega (arith, c.loop-head-test.false, c.len.ensures.value)) (book_closed l sound) sound.some c.args.start o.start
