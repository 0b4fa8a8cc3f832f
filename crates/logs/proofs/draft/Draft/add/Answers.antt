use Rattle.std.proofs.Common.{refl, arith, rules}
use Rattle.logs.specs.Drafting.{grown, writes}
use Rattle.logs.proofs.draft.Draft.add.Goals as goal

pub returns : goal.returns
returns c =
    let buffer = c.args.self.now.buffer.now in
    let n = c.args.self.now.header.n in
    let m = c.args.self.now.header.m in
    let two = c.put_word-2.new.bytes in
    let e =
    writes buffer c.write_record.new.part c.put_word.new.bytes two n m c.word-out.result c.word-into.result _ c.log_size-end.result c.head_place-leaving.result c.head_place-arriving.result c.args.span (omega arith) c.log_size-end.ensures c.head_place-leaving.ensures c.head_place-arriving.ensures
    c.word-out.ensures c.word-into.ensures c.write_record.ensures c.put_word.ensures c.put_word-2.ensures in
    record {
      named = search rules;
      answer = search rules;
      size = search rules;
      kept = λ no. absurd (no refl);
      adds = λ _. (refl, e);
      grows = λ _ before h d. grown before buffer two n m c.args.span h d (omega arith) (omega arith) (omega arith) (omega arith) e;
    }
