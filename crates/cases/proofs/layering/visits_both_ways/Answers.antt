use Rattle.std.proofs.Common.{sym, ◌∙◌}
use Rattle.books.specs.Listing.{with_slots}
use Rattle.cases.proofs.layering.visits_both_ways.Goals as goal

pub returns : goal.returns
returns g c =
    let turned = with_slots (g.B.Outward.outgoing c.over.result.below) (g.B.TwoWay.incoming c.over.result.below) in
    c.in_visit-into.ensures.turns_listed turned c.over.ensures.plan ∙ sym c.out_visit-out.ensures.answer
