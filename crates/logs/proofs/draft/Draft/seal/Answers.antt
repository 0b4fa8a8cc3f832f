use Rattle.std.proofs.Common.{rules}
use Rattle.logs.specs.Drafting.{seals}
use Rattle.logs.proofs.draft.Draft.seal.Goals as goal

pub returns-then-header-eq0-clause-seals : goal.returns-then-header-eq0-clause-seals
returns-then-header-eq0-clause-seals c = λ before h d. seals before _ c.args.self.header.m _ h c.args.self.buffer.now _ d (search rules) (search rules)

pub returns-clause-seals : goal.returns-clause-seals
returns-clause-seals c = λ before h d. seals before _ c.args.self.header.m _ h c.args.self.buffer.now _ d (search rules) (search rules)
