use Rattle.std.proofs.Common.{suc, map, length, Some, refl, ap, arith}
use Rattle.std.proofs.lemmas.List.{drop_all, drop_more}
use Rattle.books.proofs.Laying.{beside_pushed, beside_self, ended, pushed}
use Rattle.rows.specs.Starts.{slots_few}
use Rattle.rows.proofs.laying.OrderlySource.fill.Goals as goal

pub loop-v-init : goal.loop-v-init
loop-v-init c = (beside_self _, λ h. refl, λ h l. rw c.slots-v-items.ensures.slots l)

pub loop-v-preserved : goal.loop-v-preserved
loop-v-preserved c =
    let o = c.args.self.now in (
      beside_pushed _ _ _ _ _ c.loop-v.invariant.0 c.push.ensures.pushes c.push.ensures.keeps,
      λ h. absurd (omega (arith, c.loop-v-test.true, ap length (c.slots-v-items.ensures.none h))),
      λ h l.
          pushed _ _ _ _ _ _ _ _ (c.loop-v.invariant.2 h l) (ap (map Some) (drop_more c.slots-v-items.result.now c.loop-v.v-index 0 c.loop-v-test.true))
          (slots_few o.n o.listed o.ordered (suc c.args.u) (omega arith)) c.push.ensures.answer c.push.ensures.pushes,
    )

pub returns-clause-fills : goal.returns-clause-fills
returns-clause-fills c =
    λ h l. ended _ _ _ _ (c.loop-v.invariant.2 h l) (ap (map Some) (drop_all c.loop-v.v-index c.slots-v-items.result.now c.loop-v-test.false))
