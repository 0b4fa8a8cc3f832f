use Rattle.std.proofs.Common.{◌≡◌, get_or, ap, ◌∙◌, arith}
use Rattle.std.proofs.lemmas.List.{get_or-take, length-take-le}
use Rattle.rows.proofs.rules.ordered.Goals as goal

pub invariant_of-result : goal.invariant_of-result
invariant_of-result c =
    let ends = c.args.listed.ends.now in
    let r = c.starts_rise.ensures.0 c.if-not-starts_rise.false in
    let used : c.from-used.result ≡ get_or c.args.listed.starts.now c.args.n 0 = c.from-used.ensures ∙ ap (λ i. get_or c.args.listed.starts.now i 0) c.from.ensures in
    let long = length-take-le c.from-used.result ends (omega (arith, used, r.inside)) in
    record {
      some = c.requires.some;
      most = c.requires.most;
      ordered = record {
        rising = r;
        below = λ k h. omega (arith, c.ends_below.ensures.0 c.if-not-ends_below.false k (omega arith), get_or-take c.from-used.result ends k 0 (omega arith));
      };
    }
