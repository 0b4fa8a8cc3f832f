use Rattle.std.proofs.Common.{sym, subst}
use Rattle.std.proofs.lemmas.Option.{MatchOption-at_some}
use Rattle.books.specs.Adjacent.{Laid}
use Rattle.rows.specs.Slots.{row_of}
use Rattle.rows.proofs.Opened.{kept, laid_agrees, laid_level, laid_lists}
use Rattle.rows.proofs.stored.Rows.open.Goals as goal

pub invariant_of-self : goal.invariant_of-self
invariant_of-self c =
    let m = c.in_ok-matched.matched in
    record {
      level = laid_level m c.of.result c.of-2.result c.of.ensures c.of-2.ensures;
      agrees = laid_agrees m c.of.result c.of-2.result c.of.ensures c.of-2.ensures;
    }

pub returns-clause-verdict : goal.returns-clause-verdict
returns-clause-verdict c =
    let m = c.in_ok-matched.matched in
    let is = MatchOption-at_some _ _ m c.in_ok-matched.ensures.ok_part c.judge.ensures in
    (m.out.n, rw (sym is.0, sym is.1) (kept m), rw (sym is.0) c.of.ensures, rw (sym is.1) (subst (λ n. Laid (row_of m.into.listed) n c.of-2.result) m.level c.of-2.ensures))

pub returns-clause-spans : goal.returns-clause-spans
returns-clause-spans c =
    let m = c.in_ok-matched.matched in
    let is = MatchOption-at_some _ _ m c.in_ok-matched.ensures.ok_part c.judge.ensures in
    λ _. rw (sym is.0) (laid_lists m.out.n m.out.listed m.out.ordered c.of.result c.of.ensures)
