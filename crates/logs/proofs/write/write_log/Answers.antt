use Rattle.std.proofs.Common.{◌≡◌, ◌<◌, ◌≤◌, length, None, sym, refl, ap, arith}
use Rattle.std.proofs.lemmas.Result.{err_from_is_err_and}
use Rattle.logs.specs.Drafts.{fitting}
use Rattle.logs.proofs.Written.{onward_more, refused_answer, refused_left, unfit_answer, unfit_left, written_answer, written_log}
use Rattle.logs.proofs.write.write_log.Goals as goal

pub loop-span-preserved : goal.loop-span-preserved
loop-span-preserved c =
    let inv = c.loop-span.invariant in
    let add = c.in_ok-add.ensures in
    let old = c.loop-span.draft in
    let new = c.add.new.self in (
      cc (add.named, inv.0),
      cc (add.size, inv.1),
      λ before d.
          onward_more before c.args.n old.header.n new.header.n c.args.spans.now c.loop-span.span-index old.header.m new.header.m old.buffer.now new.buffer.now _
          inv.1 add.size (inv.2 before d) (omega arith) add.answer (λ h x. add.grows refl before h x),
    )

pub returns-in_err-fits : goal.returns-in_err-fits
returns-in_err-fits c =
    let p = err_from_is_err_and c.from_residual.result c.from_residual.ensures.1 in
    let e = c.in_err-fits.ensures in
    rw (p.1, p.2)
    (record {
      answer = unfit_answer c.args.n (length c.args.buffer.now) c.args.spans.now _ e;
      bytes = unfit_left c.args.n c.args.spans.now c.args.buffer.now _ e;
    })

pub returns-in_err-add : goal.returns-in_err-add
returns-in_err-add c =
    let p = err_from_is_err_and c.from_residual-in_err-add.result c.from_residual-in_err-add.ensures.1 in
    let inv = c.loop-span.invariant in
    let add = c.in_err-add.ensures in
    let old = c.loop-span.draft in
    let before = c.args.buffer.now in
    let i : c.loop-span.span-index < length c.args.spans.now = omega arith in
    let ok : None ≡ fitting c.args.n (length c.args.buffer.now) = c.in_ok-fits.ensures in
    let w = inv.2 before (c.start-draft.ensures.starts (sym ok)).1 in
    let kept = ap (λ x. x.buffer.now) (add.kept (λ none. cc)) in
    let left = refused_left before c.args.n old.header.n c.args.spans.now c.loop-span.span-index old.header.m old.buffer.now _ _ inv.1 ok w i add.answer in
    rw (p.1, p.2)
    (record {
      answer =
          refused_answer before c.args.n old.header.n c.args.spans.now c.loop-span.span-index old.header.m old.buffer.now _ _ inv.1 ok w i add.answer;
      bytes = grind arith;
    })

pub returns : goal.returns
returns c =
    let inv = c.loop-span.invariant in
    let old = c.loop-span.draft in
    let before = c.args.buffer.now in
    let i : length c.args.spans.now ≤ c.loop-span.span-index = omega arith in
    let ok : None ≡ fitting c.args.n (length c.args.buffer.now) = c.in_ok-fits.ensures in
    let w = inv.2 before (c.start-draft.ensures.starts (sym ok)).1 in
    record {
      answer = written_answer before c.args.n c.args.spans.now c.loop-span.span-index old.header.m old.buffer.now ok w i;
      bytes =
          written_log before c.args.n old.header.n c.args.spans.now c.loop-span.span-index old.header.m c.seal.result old.buffer.now _ inv.1 w i
          (λ h d. let s = c.seal.ensures.seals before h d in let b = s.bytes in record { gives = s.gives; extent = s.extent; log = s.log; bytes = grind arith });
    }
