use Rattle.std.proofs.Common.{reverse, refl}
use Rattle.std.proofs.lemmas.Result.{err_from_is_err_and}
use Rattle.logs.specs.declared.side.Side.TheVariants.{Leaving, Arriving}
use Rattle.logs.proofs.Decided.{decided, not_refused}
use Rattle.logs.proofs.Opened.{Made, accepts, arrives, few, follows, leaves, level, on_side, only, some}
use Rattle.logs.proofs.stored.Log.open.Goals as goal

pub invariant_of-self : goal.invariant_of-self
invariant_of-self c =
    let y : Made c.args.bytes.now c.in_ok-tested.tested (reverse c.read_spans-self.result.items) c.of-self.result c.of-self-2.result =
    record { same = c.in_ok-tested.ensures.same; history = c.read_spans-self.ensures.history; leaving = on_side c.in_ok-tested.tested Leaving c.on.result c.of-self.result c.on.ensures.log c.on.ensures.side c.of-self.ensures; arriving = on_side c.in_ok-tested.tested Arriving c.on-2.result c.of-self-2.result c.on-2.ensures.log c.on-2.ensures.side c.of-self-2.ensures } in
    record {
      few = (some _ _ _ _ _ y, few _ _ _ _ _ y, c.read_spans-self.ensures.few);
      level = level _ _ _ _ _ y;
      within = (accepts _ _ _ _ _ y).inside;
      leaves = leaves _ _ _ _ _ y;
      arrives = arrives _ _ _ _ _ y;
    }

pub returns-in_err-tested : goal.returns-in_err-tested
returns-in_err-tested c =
    let p = err_from_is_err_and c.from_residual.result c.from_residual.ensures.1 in
    let e = c.in_err-tested.ensures.verdict in
    let bytes = c.args.bytes.now in
    record { opens = λ n h a. absurd (not_refused bytes n _ _ h a e); verdict = rw (p.1, p.2) (e, refl); chains = rw p.1 (λ ok. absurd cc); decided = decided bytes }

pub returns : goal.returns
returns c =
    let y : Made c.args.bytes.now c.in_ok-tested.tested (reverse c.read_spans-self.result.items) c.of-self.result c.of-self-2.result =
    record { same = c.in_ok-tested.ensures.same; history = c.read_spans-self.ensures.history; leaving = on_side c.in_ok-tested.tested Leaving c.on.result c.of-self.result c.on.ensures.log c.on.ensures.side c.of-self.ensures; arriving = on_side c.in_ok-tested.tested Arriving c.on-2.result c.of-self-2.result c.on-2.ensures.log c.on-2.ensures.side c.of-self-2.ensures } in
    record {
      opens = λ n h a. (refl, only _ _ _ _ _ y n h a);
      verdict = accepts _ _ _ _ _ y;
      chains = λ _. follows _ _ _ _ _ y;
      decided = decided c.args.bytes.now;
    }
