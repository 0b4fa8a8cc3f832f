use Rattle.visits.proofs.Told.{in_visit_right}
use Rattle.visits.proofs.visit.in_visit.Goals as goal

pub returns : goal.returns
returns g c =
    let b = c.args.book.now in
    let w = in_visit_right (g.B.Outward.outgoing b) (g.B.TwoWay.incoming b) c.args.start c.visit.result (g.met.B.Outward.sound b) (g.met.B.TwoWay.agrees b) c.visit.ensures in
    record { answer = w.0; turns = w.1; turns_listed = w.2; tells = w.3 }
