use Rattle.std.proofs.Common.{reverse, sym, refl, ◌∙◌, arith}
use Rattle.std.proofs.lemmas.List.{length-reverse, reverse-reverse}
use Rattle.logs.specs.History.{encode}
use Rattle.logs.specs.Logs.{LogOf, closures, history}
use Rattle.logs.proofs.Again.{rewritten, written_same}
use Rattle.logs.proofs.write.rewrite.Goals as goal

pub returns : goal.returns
returns c =
    let log = c.args.log.now in
    let l = length-reverse log.spans.items in
    let f = log.few in
    let before = c.args.buffer.now in
    let own : LogOf (encode (closures c.args.log.now) (history c.args.log.now)) c.args.log.now =
    record { written = refl; some = f.0; few = f.1; short = omega (arith, f.2); inside = log.within } in
    let spans = c.as_slice.ensures.value ∙ sym (reverse-reverse log.spans.items) in
    let w = written_same (closures log) c.n.result (reverse (history log)) _ before c.write_log.new.buffer c.write_log.result c.n.ensures spans c.write_log.ensures in
    record { writes = w; log = own; round = λ bytes a. rewritten bytes log before c.write_log.new.buffer c.write_log.result a w }
