-- Bytes have one verdict only.
use Rattle.std.proofs.Common.{◌≡◌, ℕ, zero, suc, ◌<◌, ◌≤◌, List, [], ◌∷◌, sym, refl, ap, ◌∙◌, subst, inl, inr, ⊎_elim, arith}
use Rattle.std.proofs.lemmas.Bool.{cases_eq, cases_order}
use Rattle.books.specs.Faults.{numbered, placed}
use Rattle.logs.specs.declared.side.Side.{Side}
use Rattle.logs.specs.declared.side.Side.TheVariants.{Leaving, Arriving}
use Rattle.logs.specs.declared.span.Span.{Span}
use Rattle.logs.specs.Words.{word}
use Rattle.logs.specs.Opening.{Accepted, Among, Chain, Chains, Decided, Foreign, Lost, Outside, Ranged, Refused, Strayed, Strays, Whole, arriving, end, end_at, foreign, head_at, heading, here, leaving, link, lost, more, next_at, none, range, there}
use Rattle.logs.proofs.Ranges.{end_below}
use Rattle.logs.proofs.Canon.{Linked, exact_at, newest, newest_other, newest_own, linked}
use Rattle.logs.proofs.Back.{accepted_headed, accepted_spans, accepted_whole, first_word}

-- ---- words out of their range

not_outside : (bytes : List ℕ) (n m place : ℕ) → Ranged bytes n m → Outside bytes n m place → ⊥
not_outside bytes n m place r o =
    let h = r o.index o.within in
    let t = o.high in
    let p = ap (word bytes) o.stands in
    omega arith

one_outside : (bytes : List ℕ) (n m p q : ℕ) → Outside bytes n m p → Outside bytes n m q → p ≡ q
one_outside bytes n m p q x y =
    let a = x.stands in
    let b = y.stands in
    ⊎_elim
    (λ (e : x.index ≡ y.index). omega arith)
    (⊎_elim
    (λ (e : x.index < y.index).
    let l = y.first x.index e in
    let h = x.high in
    let w = ap (word bytes) a in
    absurd (omega arith))
    (λ (e : y.index < x.index).
    let l = x.first y.index e in
    let h = y.high in
    let w = ap (word bytes) b in
    absurd (omega arith)))
    (cases_order x.index y.index)

-- ---- links to records of other closures

module _ (bytes : List ℕ) (n : ℕ) (s : Side) where
  not_strays : (u p q : ℕ) (js : List ℕ) → Chain bytes n s u p js → Strays bytes n s u p q → ⊥
  not_strays u p q [] (end w) (here v o) = omega arith
  not_strays u p q [] (end w) (there v o t) = omega arith
  not_strays u p q (j ∷ js) (link w o c) (here {j = i} v f) =
      let e : i ≡ j = omega arith in
      f (rw e o)
  not_strays u p q (j ∷ js) (link w o c) (there {j = i} v f t) =
      let e : i ≡ j = omega arith in
      not_strays u (next_at n s j) q js c (subst (λ x. Strays bytes n s u (next_at n s x) q) e t)

  one_strays : (u p q r : ℕ) → Strays bytes n s u p q → Strays bytes n s u p r → q ≡ r
  one_strays u p q r (here v o) (here w f) = refl
  one_strays u p q r (here {j = i} v o) (there {j = j} w f t) =
      let e : i ≡ j = omega arith in
      absurd (o (rw e f))
  one_strays u p q r (there {j = i} v o t) (here {j = j} w f) =
      let e : j ≡ i = omega arith in
      absurd (f (rw e o))
  one_strays u p q r (there {j = i} v o t) (there {j = j} w f z) =
      let e : j ≡ i = omega arith in
      one_strays u (next_at n s i) q r t (subst (λ x. Strays bytes n s u (next_at n s x) r) e z)

  pub chain_of : (u t v : ℕ) → Chains bytes n s u t → v < u → (js : List ℕ) × Chain bytes n s v (head_at s v) js
  chain_of zero t v none h = absurd (omega arith)
  chain_of (suc u) t v (more {t = t'} {js = js} cs c) h =
      ⊎_elim
      (λ (e : v ≡ u). (js, subst (λ x. Chain bytes n s x (head_at s x) js) (sym e) c))
      (λ (e : v ≡ u → ⊥). chain_of u t' v cs (omega arith))
      (cases_eq v u)

  not_within : (u t v place : ℕ) → Chains bytes n s u t → v < u → Strays bytes n s v (head_at s v) place → ⊥
  not_within u t v place cs h x =
      let c = chain_of u t v cs h in
      not_strays v (head_at s v) place c.0 c.1 x

  not_strayed : (t place : ℕ) → Chains bytes n s n t → Strayed bytes n s place → ⊥
  not_strayed t place cs x = not_within n t x.closure place cs x.within x.strays

  one_strayed : (p q : ℕ) → Strayed bytes n s p → Strayed bytes n s q → p ≡ q
  one_strayed p q x y =
      ⊎_elim
      (λ (e : x.closure ≡ y.closure).
      one_strays y.closure (head_at s y.closure) p q
      (subst (λ u. Strays bytes n s u (head_at s u) p) e x.strays) y.strays)
      (⊎_elim
      (λ (e : x.closure < y.closure). absurd (not_within y.closure y.records x.closure p y.before e x.strays))
      (λ (e : y.closure < x.closure). absurd (not_within x.closure x.records y.closure q x.before e y.strays)))
      (cases_order x.closure y.closure)

not_foreign : (bytes : List ℕ) (n place t r : ℕ) → Chains bytes n Leaving n t → Chains bytes n Arriving n r → Foreign bytes n place → ⊥
not_foreign bytes n place t r cs ds (leaving x) = not_strayed bytes n Leaving t place cs x
not_foreign bytes n place t r cs ds (arriving es x) = not_strayed bytes n Arriving r place ds x

one_foreign : (bytes : List ℕ) (n p q : ℕ) → Foreign bytes n p → Foreign bytes n q → p ≡ q
one_foreign bytes n p q (leaving x) (leaving y) = one_strayed bytes n Leaving p q x y
one_foreign bytes n p q (leaving x) (arriving {t = t} cs y) = absurd (not_strayed bytes n Leaving t p cs x)
one_foreign bytes n p q (arriving {t = t} cs x) (leaving y) = absurd (not_strayed bytes n Leaving t q cs y)
one_foreign bytes n p q (arriving cs x) (arriving ds y) = one_strayed bytes n Arriving p q x y

-- ---- lost records

-- a chain that begins at the newest record has every record of its closure
among_all : (bytes : List ℕ) (n m : ℕ) (s : Side) (u k p : ℕ) (js : List ℕ) → Linked bytes n s m → k ≤ m → Chain bytes n s u p js → word bytes p ≡ newest bytes n s u k → (j : ℕ) → j < k → word bytes (end_at n s j) ≡ u → Among j js
among_all bytes n m s u zero p js x l c e j h o = absurd (omega arith)
among_all bytes n m s u (suc k) p [] x l (end w) e j h o =
    ⊎_elim
    (λ (i : word bytes (end_at n s k) ≡ u). let f = newest_own bytes n s u k i in absurd (omega arith))
    (λ (i : word bytes (end_at n s k) ≡ u → ⊥).
    let d : j ≡ k → ⊥ = λ y. i (rw y at o) in
    among_all bytes n m s u k p [] x (omega arith) (end w) (e ∙ newest_other bytes n s u k i) j (omega arith) o)
    (cases_eq (word bytes (end_at n s k)) u)
among_all bytes n m s u (suc k) p (b ∷ js) x l (link w own c) e j h o =
    ⊎_elim
    (λ (i : word bytes (end_at n s k) ≡ u).
    let f = newest_own bytes n s u k i in
    let g : b ≡ k = omega arith in
    let y : word bytes (next_at n s b) ≡ newest bytes n s u k = rw g (x k (omega arith) ∙ ap (λ z. newest bytes n s z k) i) in
    ⊎_elim
    (λ (q : j ≡ k). inl (g ∙ sym q))
    (λ (q : j ≡ k → ⊥). inr (among_all bytes n m s u k (next_at n s b) js x (omega arith) c y j (omega arith) o))
    (cases_eq j k))
    (λ (i : word bytes (end_at n s k) ≡ u → ⊥).
    let d : j ≡ k → ⊥ = λ y. i (rw y at o) in
    among_all bytes n m s u k p (b ∷ js) x (omega arith) (link w own c) (e ∙ newest_other bytes n s u k i) j (omega arith) o)
    (cases_eq (word bytes (end_at n s k)) u)

not_lost : (bytes : List ℕ) (n m : ℕ) (s : Side) → Whole bytes n m → Lost bytes n m s → ⊥
not_lost bytes n m s w x =
    let cs = w.chains s in
    let j = x.number in
    let u = word bytes (end_at n s j) in
    let b : word bytes (end_at n s x.number) < n = end_below bytes n m s j w.ranged x.within in
    let c = chain_of bytes n s n m u cs b in
    let e = exact_at bytes n s m w.ranged cs u b in
    x.chainless u c.0 b c.1
    (among_all bytes n m s u m (head_at s u) c.0 (linked bytes n s m w.ranged cs) (omega arith) c.1 e.head j x.within refl)

-- ---- one refusal

one_refusal : (bytes : List ℕ) (a b p q : ℕ) → Refused bytes a p → Refused bytes b q → (a ≡ b) × (p ≡ q)
one_refusal bytes a b p q (heading {e = x} e) (heading {e = y} f) =
    let z : x ≡ y = cc in
    (ap numbered z, ap placed z)
one_refusal bytes a b p q (heading {e = x} e) (range f o) = absurd cc
one_refusal bytes a b p q (heading {e = x} e) (foreign f r o) = absurd cc
one_refusal bytes a b p q (heading {e = x} e) (lost f r cs ds o) = absurd cc
one_refusal bytes a b p q (range f o) (heading {e = x} e) = absurd cc
one_refusal bytes a b p q (range e x) (range f y) = (refl, one_outside bytes (word bytes 0) (word bytes 2) p q x y)
one_refusal bytes a b p q (range e x) (foreign f r o) = absurd (not_outside bytes (word bytes 0) (word bytes 2) p r x)
one_refusal bytes a b p q (range e x) (lost f r cs ds o) = absurd (not_outside bytes (word bytes 0) (word bytes 2) p r x)
one_refusal bytes a b p q (foreign f r o) (heading {e = x} e) = absurd cc
one_refusal bytes a b p q (foreign f r o) (range e x) = absurd (not_outside bytes (word bytes 0) (word bytes 2) q r x)
one_refusal bytes a b p q (foreign e r x) (foreign f t y) = (refl, one_foreign bytes (word bytes 0) p q x y)
one_refusal bytes a b p q (foreign e r x) (lost {t = t} {r = w} f z cs ds o) = absurd (not_foreign bytes (word bytes 0) p t w cs ds x)
one_refusal bytes a b p q (lost f r cs ds o) (heading {e = x} e) = absurd cc
one_refusal bytes a b p q (lost f r cs ds o) (range e x) = absurd (not_outside bytes (word bytes 0) (word bytes 2) q r x)
one_refusal bytes a b p q (lost {t = t} {r = w} f z cs ds o) (foreign e r x) = absurd (not_foreign bytes (word bytes 0) q t w cs ds x)
one_refusal bytes a b p q (lost e r cs ds x) (lost f t es fs y) = (refl, refl)

-- a log is not refused
pub not_refused : (bytes : List ℕ) (n a p : ℕ) (h : List Span) → Accepted bytes n h → Refused bytes a p → ⊥
not_refused bytes n a p h x (heading {e = f} e) = let none = accepted_headed bytes n h x in cc
not_refused bytes n a p h x (range e o) = not_outside bytes (word bytes 0) (word bytes 2) p (accepted_whole bytes n h x).ranged o
not_refused bytes n a p h x (foreign e r o) =
    let w = accepted_whole bytes n h x in
    not_foreign bytes (word bytes 0) p (word bytes 2) (word bytes 2) (w.chains Leaving) (w.chains Arriving) o
not_refused bytes n a p h x (lost {s = s} e r cs ds o) = not_lost bytes (word bytes 0) (word bytes 2) s (accepted_whole bytes n h x) o

pub one_log : (bytes : List ℕ) (n k : ℕ) (h g : List Span) → Accepted bytes n h → Accepted bytes k g → (n ≡ k) × (h ≡ g)
one_log bytes n k h g x y =
    (sym (first_word bytes n h x) ∙ first_word bytes k g y, accepted_spans bytes n h x ∙ sym (accepted_spans bytes k g y))

pub decided : (bytes : List ℕ) → Decided bytes
decided bytes = record { refusals = one_refusal bytes; histories = one_log bytes; apart = not_refused bytes }
