use Rattle.std.proofs.Common.{refl, arith}
use Rattle.logs.specs.Drafting.{started}
use Rattle.logs.proofs.draft.Draft.start.Goals as goal

pub returns-clause-starts : goal.returns-clause-starts
returns-clause-starts c =
    λ ok. (refl, started c.args.n _ c.args.buffer.now c.fill.new.self ok (omega arith) (c.fill.ensures.after (λ y e. e)))
