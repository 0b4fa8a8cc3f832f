use Rattle.std.proofs.Common.{◌+◌, ◌*◌, ◌<◌, ◌≤◌, refl, ⊎_elim, arith, rules}
use Rattle.std.proofs.lemmas.Iterator.{first_from_Range}
use Rattle.std.proofs.lemmas.Bool.{cases_lt}
use borrow.Author.Tests.{tests}
use Rattle.logs.specs.Opening.{bound}
use Rattle.logs.specs.Words.{word}
use Rattle.logs.proofs.Ranges.{outside_from}
use Rattle.logs.proofs.opening.Measured.first_outside.Goals as goal

pub returns-in-Some : goal.returns-in-Some
returns-in-Some c =
    let log = c.args.self in
    let some =
    rw c.in-Some.is at
    (first_from_Range _ _ _ c.find.result (λ k. bound log.header.n log.header.m k ≤ word log.bytes.now (4 + 2 * k)) (λ k. word log.bytes.now (4 + 2 * k) < bound log.header.n log.header.m k) c.find.ensures.ran
    (λ x q k. search (rules, tests)) (λ x q k. search (rules, tests))) in
    record { index = c.in-Some.k; stands = refl; within = omega arith; high = some.2; first = λ j i. some.3 j (omega arith) i }

pub returns-in-None : goal.returns-in-None
returns-in-None c =
    let log = c.args.self in
    let none =
    rw c.in-None.is at
    (first_from_Range _ _ _ c.find.result (λ k. bound log.header.n log.header.m k ≤ word log.bytes.now (4 + 2 * k)) (λ k. word log.bytes.now (4 + 2 * k) < bound log.header.n log.header.m k) c.find.ensures.ran
    (λ x q k. search (rules, tests)) (λ x q k. search (rules, tests))) in
    let held = c.records_held.ensures in
    outside_from log.bytes.now log.header.n log.header.m _ _ c.find-in-None.result c.words.ensures (omega (arith, held.few))
    (λ k _ h. ⊎_elim (λ (i : k < 2 * log.header.n). none k (omega arith) (omega arith)) (λ (i : 2 * log.header.n ≤ k). held.held k i (omega arith)) (cases_lt k (2 * log.header.n)))
    (first_from_Range _ _ _ c.find-in-None.result (λ k. bound log.header.n log.header.m k ≤ word log.bytes.now (4 + 2 * k)) (λ k. word log.bytes.now (4 + 2 * k) < bound log.header.n log.header.m k) c.find-in-None.ensures.ran
    (λ x q k. search (rules, tests)) (λ x q k. search (rules, tests)))
