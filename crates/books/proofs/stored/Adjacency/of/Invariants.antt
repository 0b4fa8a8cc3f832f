use Rattle.books.specs.Adjacent.{Laid}
use Rattle.books.proofs.stored.Adjacency.of.Given as goal

abbrev pub invariant-loop-u : goal.invariant-loop-u
invariant-loop-u g l = Laid (g.S.Source.listing l.source).slots l.u l.lists
