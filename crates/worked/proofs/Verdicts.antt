-- The verdicts of the worked logs.
use Rattle.std.proofs.Common.{ℕ, ◌+◌, ◌*◌, not, T, leb, List, refl, ⊎_elim, arith, le→leb}
use Rattle.std.proofs.lemmas.Bool.{cases_lt}
use Rattle.books.specs.Measures.{any}
use Rattle.books.proofs.Truth.{any_from, not_parts}
use Rattle.logs.specs.declared.side.Side.TheVariants.{Leaving}
use Rattle.logs.specs.Opening.{Chains, Ranged, Refused, bound, end, link, more, none, here, leaving, range, foreign, lost}
use Rattle.logs.specs.Words.{word}
use Rattle.logs.proofs.Missing.{missing}
use Rattle.worked.specs.Worked.{one_span, unmet}

-- where a test of each word finds none out of its range, all are in it
ranged : (bytes : List ℕ) (n m : ℕ) → T (not (any (2 * n + 4 * m) (λ k. leb (bound n m k) (word bytes (4 + 2 * k))))) → Ranged bytes n m
ranged bytes n m t k h =
    ⊎_elim (λ l. l)
    (λ g. absurd (not_parts (any (2 * n + 4 * m) (λ k. leb (bound n m k) (word bytes (4 + 2 * k)))) t (any_from (2 * n + 4 * m) (λ k. leb (bound n m k) (word bytes (4 + 2 * k))) k h (le→leb (bound n m k) (word bytes (4 + 2 * k)) g))))
    (cases_lt (word bytes (4 + 2 * k)) (bound n m k))

-- a head above the number of records
pub high_head : Refused (one_span 2 0) 5 4
high_head =
    range refl (record { index = 0; stands = refl; within = omega arith; high = omega arith; first = λ j h. absurd (omega arith) })

-- a head that leads to a record of another closure
pub foreign_head : Refused (one_span 1 1) 6 4
foreign_head =
    foreign refl (ranged (one_span 1 1) 2 1 tt)
    (leaving (record { closure = 0; within = omega arith; records = 0; before = none; strays = here refl (λ e. omega arith) }))

-- a record that leaves no closure
pub lost_record : Refused (one_span 0 0) 7 12
lost_record =
    let r = ranged (one_span 0 0) 2 1 tt in
    let out : Chains (one_span 0 0) 2 Leaving 2 0 = more (more none (end refl)) (end refl) in
    lost {s = Leaving} refl r out (more (more none (end refl)) (link refl refl (end refl))) (missing (one_span 0 0) 2 Leaving 1 0 r out (λ e. omega arith))

-- records with links that no walk meets
pub unmet_records : Refused unmet 7 12
unmet_records =
    let r = ranged unmet 2 2 tt in
    let out : Chains unmet 2 Leaving 2 0 = more (more none (end refl)) (end refl) in
    lost {s = Leaving} refl r out (more (more none (end refl)) (end refl)) (missing unmet 2 Leaving 2 0 r out (λ e. omega arith))
