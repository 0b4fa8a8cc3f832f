-- The verdict on bytes, from what each test found.
use Rattle.std.proofs.Common.{◌≡◌, ℕ, zero, suc, ◌+◌, ◌*◌, ◌<◌, ◌≤◌, true, ◌⊎◌, List, get_or, None, sym, refl, subst, ⊎_elim, arith}
use Rattle.logs.specs.declared.opening.Bounded.{Bounded}
use Rattle.logs.specs.declared.opening.Measured.{Measured}
use Rattle.logs.specs.declared.side.Side.{Side}
use Rattle.logs.specs.declared.side.Side.TheVariants.{Leaving, Arriving}
use Rattle.logs.specs.Words.{word}
use Rattle.logs.specs.History.{inside}
use Rattle.logs.specs.Opening.{Accepted, Chains, Foreign, Lost, Outside, Ranged, Refused, Strayed, Whole, arriving, foreign, headed, leaving, lost, range, span_at, spans_at}
use Rattle.logs.specs.Drafting.{inside_more}
use Rattle.logs.proofs.Ranges.{end_below}
use Rattle.logs.proofs.Canon.{length_spans}
use Rattle.logs.proofs.Afresh.{afresh}
use Rattle.logs.proofs.Back.{headed_ok}
use Rattle.logs.proofs.Missing.{missing}

module _ (log : Measured) where
  -- the heading of measured bytes is passed
  passed : headed log.bytes.now ≡ None
  passed =
      headed_ok log.bytes.now log.header.n log.header.m (sym log.first) (sym log.second) log.some log.few log.short log.len

  -- what is said of its numbers is said of the first two words
  at_words : (P : ℕ → ℕ → Type 0) → P log.header.n log.header.m → P (word log.bytes.now 0) (word log.bytes.now 2)
  at_words P x = subst (λ b. P (word log.bytes.now 0) b) log.second (subst (λ a. P a log.header.m) log.first x)

  pub by_range : (number place : ℕ) → number ≡ 5 → Outside log.bytes.now log.header.n log.header.m place → Refused log.bytes.now number place
  by_range number place e o =
      rw e (range passed (at_words (λ a b. Outside log.bytes.now a b place) o))

module _ (b : Bounded) where
  by_foreign : (number place : ℕ) → number ≡ 6 → Foreign b.log.bytes.now b.log.header.n place → Refused b.log.bytes.now number place
  by_foreign number place e o =
      rw e (foreign (passed b.log) (at_words b.log (λ n m. Ranged b.log.bytes.now n m) b.ranged) (at_words b.log (λ n m. Foreign b.log.bytes.now n place) o))

  pub by_leaving : (number place : ℕ) → number ≡ 6 → Strayed b.log.bytes.now b.log.header.n Leaving place → Refused b.log.bytes.now number place
  by_leaving number place e o = by_foreign number place e (leaving o)

  pub by_arriving : (number place t : ℕ) → Chains b.log.bytes.now b.log.header.n Leaving b.log.header.n t → number ≡ 6 → Strayed b.log.bytes.now b.log.header.n Arriving place → Refused b.log.bytes.now number place
  by_arriving number place t cs e o = by_foreign number place e (arriving cs o)

  pub by_lost : (t q : ℕ) → Chains b.log.bytes.now b.log.header.n Leaving b.log.header.n t → Chains b.log.bytes.now b.log.header.n Arriving b.log.header.n q → (t ≡ b.log.header.m → ⊥) ⊎ (q ≡ b.log.header.m → ⊥) → Refused b.log.bytes.now 7 (4 + 4 * b.log.header.n)
  by_lost t q cs ds e =
      let bytes = b.log.bytes.now in
      let n = b.log.header.n in
      let m = b.log.header.m in
      let since : (s : Side) → Lost b.log.bytes.now b.log.header.n b.log.header.m s → Refused b.log.bytes.now 7 (4 + 4 * b.log.header.n) = λ s x.
      subst (λ y. Refused bytes 7 (4 + 4 * y)) (sym b.log.first)
      (lost (passed b.log) (at_words b.log (λ n m. Ranged bytes n m) b.ranged) (at_words b.log (λ n m. Chains bytes n Leaving n t) cs) (at_words b.log (λ n m. Chains bytes n Arriving n q) ds) (at_words b.log (λ n m. Lost bytes n m s) x)) in
      ⊎_elim (λ x. since Leaving (missing bytes n Leaving m t b.ranged cs x)) (λ x. since Arriving (missing bytes n Arriving m q b.ranged ds x)) e

inside_spans : (bytes : List ℕ) (n m k : ℕ) → Ranged bytes n m → k ≤ m → inside n (spans_at bytes n k) ≡ true
inside_spans bytes n m zero r h = refl
inside_spans bytes n m (suc k) r h =
    inside_more n (span_at bytes n k) (spans_at bytes n k) (end_below bytes n m Leaving k r (omega arith)) (end_below bytes n m Arriving k r (omega arith)) (inside_spans bytes n m k r (omega arith))

both_sides : (bytes : List ℕ) (n m : ℕ) → Chains bytes n Leaving n m → Chains bytes n Arriving n m → (s : Side) → Chains bytes n s n m
both_sides bytes n m cs ds Leaving = cs
both_sides bytes n m cs ds Arriving = ds

pub whole_at : (b : Bounded) (t q : ℕ) → Chains b.log.bytes.now b.log.header.n Leaving b.log.header.n t → Chains b.log.bytes.now b.log.header.n Arriving b.log.header.n q → t ≡ b.log.header.m → q ≡ b.log.header.m → Whole b.log.bytes.now b.log.header.n b.log.header.m
whole_at b t q cs ds e f =
    let bytes = b.log.bytes.now in
    let n = b.log.header.n in
    record { ranged = b.ranged; chains = both_sides bytes n b.log.header.m (subst (λ x. Chains bytes n Leaving n x) e cs) (subst (λ x. Chains bytes n Arriving n x) f ds) }

-- the log of its spans, where the chains of both sides have every record
pub by_whole : (b : Bounded) (t q : ℕ) → ((i : ℕ) → get_or b.log.bytes.now i 0 < 256) → Chains b.log.bytes.now b.log.header.n Leaving b.log.header.n t → Chains b.log.bytes.now b.log.header.n Arriving b.log.header.n q → t ≡ b.log.header.m → q ≡ b.log.header.m → Accepted b.log.bytes.now b.log.header.n (spans_at b.log.bytes.now b.log.header.n b.log.header.m)
by_whole b t q y cs ds e f =
    let bytes = b.log.bytes.now in
    let n = b.log.header.n in
    let m = b.log.header.m in
    let l = length_spans bytes n m in
    record {
      written = afresh bytes n m b.log.len y b.log.first b.log.second (whole_at b t q cs ds e f);
      some = b.log.some;
      few = b.log.few;
      short = omega (arith, b.log.short);
      inside = inside_spans bytes n m m b.ranged (omega arith);
    }
