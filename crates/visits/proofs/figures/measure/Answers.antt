use Rattle.std.proofs.lemmas.Bool.Decides.{nat_tests}
use Rattle.std.proofs.Common.{◌≡◌, ◌<◌, ◌≤◌, subst, arith}
use Rattle.books.specs.Listing.{plan}
use Rattle.books.proofs.Measured.{book_closed}
use Rattle.visits.specs.Figured.{Sofar}
use Rattle.visits.proofs.Measuring.{all_measured}
use Rattle.visits.proofs.figures.measure.Goals as goal

pub loop-u-init : goal.loop-u-init
loop-u-init g c =
    let b = c.args.book.now in
    c.blank-figures.ensures (plan (g.B.Outward.outgoing b)) (g.met.B.Outward.sound b).some

pub loop-u-preserved-in_default-in_visit : goal.loop-u-preserved-in_default-in_visit
loop-u-preserved-in_default-in_visit g c =
    grind (arith, nat_tests, c.in_default-in_visit.ensures.answer, c.n-u-end.ensures)

pub loop-u-preserved : goal.loop-u-preserved
loop-u-preserved g c =
    let l = g.B.Outward.outgoing c.args.book.now in
    let s = g.met.B.Outward.sound c.args.book.now in
    let in' : c.loop-u.u < l.size = omega (arith, c.n-u-end.ensures) in
    let few : l.size ≤ 1024 = omega (arith, s.few, g.met.B.Outward.capped) in
    c.note.ensures (plan l) (book_closed l s) in' few c.in-Ok.ensures.tells c.in-Ok-in_visit.ensures.tells c.loop-u.invariant

pub returns : goal.returns
returns g c =
    let l = g.B.Outward.outgoing c.args.book.now in
    let e : c.loop-u.u ≡ l.size = omega (arith, c.n-u-end.ensures) in
    all_measured (plan l) c.loop-u.figures (subst (λ n. Sofar (plan l) n c.loop-u.figures) e c.loop-u.invariant)
