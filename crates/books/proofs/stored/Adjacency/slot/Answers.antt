use Rattle.std.proofs.Common.{◌≡◌, sym, ap, ◌∙◌, arith}
use Rattle.std.specs.Prelude.{slice_get}
use Rattle.books.specs.Adjacent.{listing}
use Rattle.books.specs.Listing.{slot}
use Rattle.books.proofs.Laid.{copied_item, slot_is}
use Rattle.books.proofs.stored.Adjacency.slot.Goals as goal

pub returns : goal.returns
returns c =
    let at : c.from.result ≡ c.args.k = omega arith in
    c.copied.ensures
    ∙ copied_item c.row.result.now c.from.result c.get.result c.get.ensures.lookup
    ∙ ap (slice_get c.row.result.now) at
    ∙ sym (slot_is c.row.result.now c.args.k)
    ∙ ap (λ xs. slot xs c.args.k) c.row.ensures.row
    ∙ ap (λ u. slot ((listing c.args.self.now).slots u) c.args.k) (omega arith)
