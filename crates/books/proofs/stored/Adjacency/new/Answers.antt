use Rattle.std.proofs.Common.{ap, ◌∙◌, ◌++◌, [], ◌∷◌}
use Rattle.books.proofs.Laid.{bare}
use Rattle.books.proofs.stored.Adjacency.new.Goals as goal

pub returns : goal.returns
returns c = bare _ (c.push-2.ensures.items ∙ ap (λ xs. xs ++ 0 ∷ []) (c.push.ensures.items ∙ ap (λ xs. xs ++ 0 ∷ []) c.new-starts.ensures)) c.new.ensures
