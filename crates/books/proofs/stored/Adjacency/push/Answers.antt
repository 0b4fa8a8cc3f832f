use Rattle.std.proofs.Common.{◌≡◌, ◌-◌, ◌≤◌, ◌++◌, [], ◌∷◌, length, get_or, take, sym, ap, subst, arith, rules}
use Rattle.std.proofs.lemmas.List.{length-append}
use Rattle.books.specs.Tables.{Ascends, cut}
use Rattle.books.proofs.Laid.{filled_is, grown_last, last_of, moved_ascends, moved_few, pushed, put_last}
use Rattle.books.proofs.stored.Adjacency.push.Goals as goal

pub invariant_of-self : goal.invariant_of-self
invariant_of-self c =
    let self = c.args.self.now in
    let ends = c.push.new.self.items in
    let xs = self.starts.items in
    let front = take (length xs - 1) xs in
    let x = get_or xs (length xs - 1) 0 in
    let was = last_of xs (length xs - 1) (omega (arith, self.few.0)) in
    let is = put_last xs c.deref_mut.result.now (length xs - 1) (c.len-last.result - 1) (length c.push.new.self.items) c.len.result (omega (arith, self.few.0)) c.deref_mut.ensures.value (omega (arith, c.len-last.ensures.value)) c.len.ensures.value in
    let l = ap length c.push.ensures.items in
    record {
      few = subst (λ xs. (2 ≤ length xs) × (length xs ≤ 1025)) (sym is) (moved_few self front x c.args.v was (length ends));
      room = omega (arith, length-append self.ends.items (c.args.v ∷ []));
      ascends =
          subst (λ xs. Ascends xs (length c.push.new.self.items)) (sym is)
          (subst (λ e. Ascends (front ++ e ∷ []) e) (sym l) (moved_ascends self front x c.args.v was));
      last = subst (λ xs. cut xs (length c.push.new.self.items) (length xs - 1) ≡ length c.push.new.self.items) (sym is) (grown_last front (length ends));
    }

pub returns-then-is_full-clause-answer : goal.returns-then-is_full-clause-answer
returns-then-is_full-clause-answer c = rw (filled_is c.args.self.now) (search rules)

pub returns-clause-answer : goal.returns-clause-answer
returns-clause-answer c = rw (filled_is c.args.self.now) (search rules)

pub returns-clause-pushes : goal.returns-clause-pushes
returns-clause-pushes c =
    let self = c.args.self.now in
    let xs = self.starts.items in
    pushed self (take (length xs - 1) xs) (get_or xs (length xs - 1) 0) c.args.v (last_of xs (length xs - 1) (omega (arith, self.few.0))) _ c.push.ensures.items
    (put_last xs c.deref_mut.result.now (length xs - 1) (c.len-last.result - 1) (length c.push.new.self.items) c.len.result (omega (arith, self.few.0)) c.deref_mut.ensures.value (omega (arith, c.len-last.ensures.value)) c.len.ensures.value)
