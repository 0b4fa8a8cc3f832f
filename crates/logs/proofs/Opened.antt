-- What opening leaves in a log.
use Rattle.std.proofs.Common.{◌≡◌, ℕ, ◌≤◌, List, sym, ap, ◌∙◌, subst, arith}
use Rattle.books.specs.declared.stored.Adjacency.{Adjacency}
use Rattle.books.specs.Adjacent.{Laid, listing}
use Rattle.logs.specs.declared.index.LogSide.{LogSide}
use Rattle.logs.specs.declared.opening.Tested.{Tested}
use Rattle.logs.specs.declared.side.Side.{Side}
use Rattle.logs.specs.declared.side.Side.TheVariants.{Leaving, Arriving}
use Rattle.logs.specs.declared.span.Span.{Span}
use Rattle.logs.specs.History.{arriving, leaving, slots_on}
use Rattle.logs.specs.Opening.{Accepted, Chained, spans_at}
use Rattle.logs.specs.Showing.{laid_slots}
use Rattle.logs.proofs.Back.{accepted, judged}
use Rattle.logs.proofs.Chained.{chained}
use Rattle.logs.proofs.Decided.{one_log}

-- lists that were laid out from a side of tested bytes
pub on_side : (t : Tested) (s : Side) (r : LogSide) (a : Adjacency) → r.tested ≡ t → r.side ≡ s → Laid (slots_on r.side (spans_at r.tested.log.bytes.now r.tested.log.header.n r.tested.log.header.m)) r.tested.log.header.n a → Laid (slots_on s (spans_at t.log.bytes.now t.log.header.n t.log.header.m)) t.log.header.n a
on_side t s r a e f d =
    subst (λ t. Laid (slots_on s (spans_at t.log.bytes.now t.log.header.n t.log.header.m)) t.log.header.n a) e
    (subst (λ s. Laid (slots_on s (spans_at r.tested.log.bytes.now r.tested.log.header.n r.tested.log.header.m)) r.tested.log.header.n a) f d)

-- the history and the lists that were made of tested bytes
pub record Made (bytes : List ℕ) (t : Tested) (h : List Span) (out into : Adjacency) : Type 0 where
  pub same : t.log.bytes.now ≡ bytes
  pub history : h ≡ spans_at t.log.bytes.now t.log.header.n t.log.header.m
  pub leaving : Laid (slots_on Leaving (spans_at t.log.bytes.now t.log.header.n t.log.header.m)) t.log.header.n out
  pub arriving : Laid (slots_on Arriving (spans_at t.log.bytes.now t.log.header.n t.log.header.m)) t.log.header.n into

module _ (bytes : List ℕ) (t : Tested) (h : List Span) (out into : Adjacency) (y : Made bytes t h out into) where
  shown : (s : Side) (a : Adjacency) → Laid (slots_on s (spans_at t.log.bytes.now t.log.header.n t.log.header.m)) t.log.header.n a → (u : ℕ) → (listing a).slots u ≡ slots_on s h u
  shown s a d u =
      laid_slots s (spans_at t.log.bytes.now t.log.header.n t.log.header.m) t.log.header.n a d t.within u ∙ ap (λ x. slots_on s x u) (sym y.history)

  -- what a log keeps of them
  pub some : 1 ≤ (listing out).size
  some = let z = y.leaving.size in omega (arith, t.log.some)

  pub few : (listing out).size ≤ 1024
  few = let z = y.leaving.size in omega (arith, t.log.few)

  pub level : (listing into).size ≡ (listing out).size
  level = y.arriving.size ∙ sym y.leaving.size

  pub leaves : (u : ℕ) → (listing out).slots u ≡ leaving h u
  leaves = shown Leaving out y.leaving

  pub arrives : (v : ℕ) → (listing into).slots v ≡ arriving h v
  arrives = shown Arriving into y.arriving

  -- what is said of the spans of the bytes is said of the log
  at_log : (P : List ℕ → ℕ → List Span → Type 0) → P t.log.bytes.now t.log.header.n (spans_at t.log.bytes.now t.log.header.n t.log.header.m) → P bytes (listing out).size h
  at_log P x =
      subst (λ b. P b (listing out).size h) y.same
      (subst (λ k. P t.log.bytes.now k h) (sym y.leaving.size) (subst (P t.log.bytes.now t.log.header.n) (sym y.history) x))

  -- they are the log of the bytes, and there is no other
  pub accepts : Accepted bytes (listing out).size h
  accepts = at_log Accepted (accepted t)

  pub only : (k : ℕ) (g : List Span) → Accepted bytes k g → ((listing out).size ≡ k) × (h ≡ g)
  only k g b = one_log bytes (listing out).size k h g accepts b

  -- its slots follow the chains
  pub follows : Chained bytes (listing out).size h
  follows = at_log Chained (chained t.log.bytes.now t.log.header.n t.log.header.m (judged t).whole)
