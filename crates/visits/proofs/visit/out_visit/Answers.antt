use Rattle.books.specs.Listing.{plan}
use Rattle.books.proofs.Measured.{book_closed}
use Rattle.visits.proofs.Told.{out_tells}
use Rattle.visits.proofs.visit.out_visit.Goals as goal

pub returns : goal.returns
returns g c =
    let l = g.B.Outward.outgoing c.args.book.now in
    let s = g.met.B.Outward.sound c.args.book.now in
    record {
      answer = c.visit.ensures;
      tells = out_tells (plan l) (book_closed l s) s.some c.args.start c.visit.result c.visit.ensures;
    }
