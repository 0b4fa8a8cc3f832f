-- A log written again: it is refused only where there is no room.
use Rattle.std.proofs.Common.{◌≡◌, ℕ, suc, ◌+◌, ◌*◌, ◌<◌, ◌≤◌, true, List, [], ◌∷◌, ◌++◌, reverse, length, drop, Some, None, Ok, Err, Result, sym, refl, ap, ◌∙◌, subst, ⊎_elim, arith}
use Rattle.std.proofs.lemmas.List.{length-reverse, reverse-append, reverse-reverse}
use Rattle.std.proofs.lemmas.Bool.{cases_lt}
use Rattle.std.proofs.lemmas.Bool.Decides.{nat_tests}
use Rattle.books.specs.declared.fault.Fault.{Fault}
use Rattle.books.specs.declared.fault.Fault.TheVariants.{NoRoom}
use Rattle.books.specs.Faults.{told}
use Rattle.logs.specs.declared.span.Span.{Span}
use Rattle.logs.specs.declared.stored.Log.{Log}
use Rattle.logs.specs.Drafts.{Wrote, fitting, refuses}
use Rattle.logs.specs.History.{encode, inside, size}
use Rattle.logs.specs.Logs.{LogOf, closures, history}
use Rattle.logs.specs.Opening.{Accepted}
use Rattle.logs.specs.Writing.{Rewritten, Written, adding, left_off, writing}
use Rattle.logs.specs.Placing.{length_encode}
use Rattle.logs.specs.Drafting.{inside_more, inside_parts}
use Rattle.logs.proofs.Written.{adding_on, adding_refused, fitting_answer, unfit_answer}

-- ---- spans that are inside, and few

refuses_none : (n m len : ℕ) (s : Span) → s.from < n → s.to < n → m < 4096 → size n m + 8 ≤ len → refuses n m len s ≡ None
refuses_none n m len s i j f r = grind (arith, nat_tests)

refuses_room : (n m len : ℕ) (s : Span) → s.from < n → s.to < n → len < size n m + 8 → refuses n m len s ≡ Some NoRoom
refuses_room n m len s i j r = grind (arith, nat_tests)

fitting_none : (n len : ℕ) → 1 ≤ n → n ≤ 1024 → 4 + 4 * n ≤ len → fitting n len ≡ None
fitting_none n len some few r = grind (arith, nat_tests)

fitting_room : (n len : ℕ) → 1 ≤ n → n ≤ 1024 → len < 4 + 4 * n → fitting n len ≡ Some NoRoom
fitting_room n len some few r = grind (arith, nat_tests)

adding_all : (n len m : ℕ) (ss : List Span) → inside n ss ≡ true → m + length ss ≤ 4096 → size n (m + length ss) ≤ len → adding n len m ss ≡ None
unfolding adding
adding_all n len m [] t f r = refl
adding_all n len m (s ∷ ss) t f r =
    let i = inside_parts n s ss t in
    adding_on n len m s ss (refuses_none n m len s i.0 i.1 (omega arith) (omega arith)) ∙ adding_all n len (suc m) ss i.2 (omega arith) (omega arith)

adding_room : (n len m : ℕ) (ss : List Span) → inside n ss ≡ true → m + length ss ≤ 4096 → size n m ≤ len → len < size n (m + length ss) → adding n len m ss ≡ Some NoRoom
adding_room n len m [] t f l r = absurd (omega arith)
adding_room n len m (s ∷ ss) t f l r =
    let i = inside_parts n s ss t in
    ⊎_elim
    (λ (q : len < size n m + 8). adding_refused n len m s ss NoRoom (refuses_room n m len s i.0 i.1 q))
    (λ (q : size n m + 8 ≤ len).
    adding_on n len m s ss (refuses_none n m len s i.0 i.1 (omega arith) q) ∙ adding_room n len (suc m) ss i.2 (omega arith) (omega arith) (omega arith))
    (cases_lt len (size n m + 8))

inside_append : (n : ℕ) (xs : List Span) (s : Span) → inside n xs ≡ true → s.from < n → s.to < n → inside n (xs ++ (s ∷ [])) ≡ true
inside_append n [] s t i j = inside_more n s [] i j refl
inside_append n (x ∷ xs) s t i j =
    let p = inside_parts n x xs t in
    inside_more n x (xs ++ (s ∷ [])) p.0 p.1 (inside_append n xs s p.2 i j)

inside_reverse : (n : ℕ) (h : List Span) → inside n h ≡ true → inside n (reverse h) ≡ true
inside_reverse n [] t = refl
inside_reverse n (s ∷ h) t =
    let p = inside_parts n s h t in
    subst (λ x. inside n x ≡ true) (sym (reverse-append (s ∷ []) h)) (inside_append n (reverse h) s (inside_reverse n h p.2) p.0 p.1)

-- ---- a log

writing_none : (n len : ℕ) (h : List Span) → Accepted (encode n h) n h → size n (length h) ≤ len → writing n len (reverse h) ≡ None
writing_none n len h a r =
    let l = length-reverse h in
    let s = a.some in
    let f = a.few in
    let k = a.short in
    fitting_answer n len (reverse h) (fitting_none n len s f (omega arith))
    ∙ adding_all n len 0 (reverse h) (inside_reverse n h a.inside) (omega arith) (omega arith)

writing_room : (n len : ℕ) (h : List Span) → Accepted (encode n h) n h → len < size n (length h) → writing n len (reverse h) ≡ Some NoRoom
writing_room n len h a r =
    let l = length-reverse h in
    let s = a.some in
    let f = a.few in
    let k = a.short in
    ⊎_elim
    (λ (q : len < 4 + 4 * n). sym (unfit_answer n len (reverse h) NoRoom (sym (fitting_room n len s f q))))
    (λ (q : 4 + 4 * n ≤ len).
    fitting_answer n len (reverse h) (fitting_none n len s f q)
    ∙ adding_room n len 0 (reverse h) (inside_reverse n h a.inside) (omega arith) (omega arith) (omega arith))
    (cases_lt len (4 + 4 * n))

-- what was answered and written, by what the answer should be
answered_ok : (n : ℕ) (h : List Span) (before after : List ℕ) (r : Result ℕ Fault) → told r ≡ None → Written n (reverse h) before r after → (r ≡ Ok (size n (length h))) × (after ≡ encode n h ++ drop (size n (length h)) before)
answered_ok n h before after (Ok len) t w =
    let x : Wrote n h before len after = subst (λ y. Wrote n y before len after) (reverse-reverse h) w.bytes in
    (ap Ok x.gives, x.bytes ∙ ap (λ y. encode n h ++ drop y before) x.gives)
answered_ok n h before after (Err e) t w = absurd cc

answered_err : (n : ℕ) (h : List Span) (before after : List ℕ) (r : Result ℕ Fault) → told r ≡ Some NoRoom → Written n (reverse h) before r after → (r ≡ Err NoRoom) × (after ≡ left_off n (reverse h) before)
answered_err n h before after (Ok len) t w = absurd cc
answered_err n h before after (Err e) t w = (cc, w.bytes)

pub rewritten : (bytes : List ℕ) (log : Log) (before after : List ℕ) (r : Result ℕ Fault) → LogOf bytes log → Written (closures log) (reverse (history log)) before r after → Rewritten bytes log before r after
rewritten bytes log before after r a w =
    let n = closures log in
    let h = history log in
    let e = a.written in
    let own : LogOf (encode (closures log) (history log)) log = subst (λ x. LogOf x log) e a in
    let l : length bytes ≡ size (closures log) (length (history log)) = ap length e ∙ length_encode n h in
    record {
      written = λ i.
          let x = answered_ok n h before after r (w.answer ∙ writing_none n (length before) h own (omega arith)) w in
          (x.0 ∙ ap Ok (sym l), x.1 ∙ ap (λ y. y ++ drop (size n (length h)) before) (sym e) ∙ ap (λ y. bytes ++ drop y before) (sym l));
      refused = λ i. answered_err n h before after r (w.answer ∙ writing_room n (length before) h own (omega arith)) w;
    }

-- what is written of k closures and the spans of a list is that of n closures and others, where these are equal
pub written_same : (n k : ℕ) (xs ys : List Span) (before after : List ℕ) (r : Result ℕ Fault) → k ≡ n → ys ≡ xs → Written k ys before r after → Written n xs before r after
written_same n k xs ys before after r q e w =
    subst (λ x. Written n x before r after) e (subst (λ x. Written x ys before r after) q w)
