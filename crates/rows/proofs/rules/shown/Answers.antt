use Rattle.std.proofs.Common.{map, Some, IsTrue, get_or, sym, refl, subst, below_more, arith}
use Rattle.std.proofs.lemmas.Bool.{false≢true}
use Rattle.books.specs.Listing.{holds}
use Rattle.rows.specs.Slots.{row_of}
use Rattle.rows.proofs.Holding.{held_closure, holds_at, held_at}
use Rattle.rows.proofs.rules.shown.Goals as goal

pub slots-preserved : goal.slots-preserved
slots-preserved c =
    below_more _ c.slots.v-index c.slots.invariant
    (subst (λ xs. IsTrue (holds (map Some xs) c.loop-u.u)) c.slots-w-items.ensures.slots (holds_at c.slots-w-items.result.now c.loop-w.w-index c.loop-u.u c.loop-w-test.true c.if-w-u.true))

pub returns-in-slots : goal.returns-in-slots
returns-in-slots c =
    let v = get_or c.slots-v-items.result.now c.slots.v-index 0 in
    let is = holds_at c.slots-v-items.result.now c.slots.v-index v c.slots-test.true refl in (
      λ t. absurd (false≢true t),
      λ m.
          let back = m c.loop-u.u v (subst (λ xs. IsTrue (holds (map Some xs) v)) c.slots-v-items.ensures.slots is) in
          let p = held_at c.slots-w-items.result.now c.loop-u.u (subst (λ xs. IsTrue (holds (map Some xs) c.loop-u.u)) (sym c.slots-w-items.ensures.slots) back) in
          absurd (c.loop-w.invariant p.0 (omega (arith, p.1)) p.2),
    )

pub loop-u-preserved : goal.loop-u-preserved
loop-u-preserved c =
    below_more _ c.loop-u.u c.loop-u.invariant
    (λ v t.
    let p = held_at c.slots-v-items.result.now v (subst (λ xs. IsTrue (holds (map Some xs) v)) (sym c.slots-v-items.ensures.slots) t) in
    subst (λ x. IsTrue (holds (row_of c.args.there.listed x) c.loop-u.u)) p.2
    (c.slots.invariant p.0 (omega (arith, p.1))))

pub returns : goal.returns
returns c = (
  λ _ u v t. c.loop-u.invariant u (omega (arith, held_closure c.args.here.n c.args.here.listed c.args.here.ordered u v t)) v t,
  λ _. refl,
)
