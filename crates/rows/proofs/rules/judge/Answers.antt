use Rattle.std.proofs.lemmas.Bool.{iff_false}
use Rattle.rows.proofs.Holding.{mirrors_shown}
use Rattle.rows.proofs.rules.judge.Goals.{else-shown-via-then-shown+else-shown-2, else-shown-via-else-shown}
use Rattle.rows.proofs.rules.judge.Goals as goal

pub returns-else-shown : goal.returns-else-shown
returns-else-shown c n k =
    let out = c.in_ok-out.ensures.1 in
    let into = c.in_ok-into.ensures.1 in
    elim c.else-shown.branch [
      | else-shown-via-then-shown+else-shown-2 w ↦ iff_false w.shown-then-shown.ensures w.if-shown-2.false (rw (out, into) (mirrors_shown n c.args.into c.args.out k.out k.shown_back))
      | else-shown-via-else-shown w ↦ iff_false c.shown.ensures w.if-shown.false (rw (out, into) (mirrors_shown n c.args.out c.args.into k.into k.shown))
    ]
