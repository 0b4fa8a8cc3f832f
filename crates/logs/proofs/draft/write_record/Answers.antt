use Rattle.logs.specs.Spread.{written}
use Rattle.logs.proofs.draft.write_record.Goals as goal

pub returns : goal.returns
returns c =
    let e = written c.args.part.now c.args.span.from c.args.span.to c.args.out c.args.into c.requires in
    cc
