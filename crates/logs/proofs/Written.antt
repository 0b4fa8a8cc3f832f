-- A list of spans, added one by one.
use Rattle.std.proofs.Common.{◌≡◌, ℕ, suc, ◌+◌, ◌<◌, ◌≤◌, List, [], ◌∷◌, ◌++◌, reverse, length, get_or, take, drop, Some, None, Option, sym, ap, ◌∙◌, subst, arith}
use Rattle.std.proofs.lemmas.List.{append_assoc, append-nil, drop_all, drop_more, length-reverse, length-take-le, reverse-append, take_all, take_more}
use Rattle.books.specs.declared.fault.Fault.{Fault}
use Rattle.logs.specs.declared.span.Span.{Span}
use Rattle.logs.specs.Drafts.{Drafted, Wrote, fitting, refuses}
use Rattle.logs.specs.History.{unsealed}
use Rattle.logs.specs.Writing.{adding, left_off, taken, writing}
use Rattle.logs.specs.Drafting.{length_drafted}

-- ---- the history of the first spans of a list, whose oldest is first

abbrev pub newest_first : List Span → ℕ → List Span
newest_first spans m = reverse (take m spans)

length_newest : (xs : List Span) (m : ℕ) → m ≤ length xs → length (newest_first xs m) ≡ m
length_newest xs m l = length-reverse (take m xs) ∙ length-take-le m xs l

newest_more : (xs : List Span) (m : ℕ) (d : Span) → m < length xs → newest_first xs (suc m) ≡ get_or xs m d ∷ newest_first xs m
newest_more xs m d l =
    let e : suc m ≡ m + 1 = omega arith in
    ap (newest_first xs) e ∙ ap reverse (take_more xs m d l) ∙ reverse-append (take m xs) (get_or xs m d ∷ [])

-- ---- one span

pub adding_on : (n len m : ℕ) (s : Span) (later : List Span) → refuses n m len s ≡ None → adding n len m (s ∷ later) ≡ adding n len (suc m) later
unfolding adding
adding_on n len m s later e = rw (e, adding)

pub adding_refused : (n len m : ℕ) (s : Span) (later : List Span) (x : Fault) → refuses n m len s ≡ Some x → adding n len m (s ∷ later) ≡ Some x
unfolding adding
adding_refused n len m s later x e = rw (e, adding)

taken_on : (n len m : ℕ) (s : Span) (later : List Span) → refuses n m len s ≡ None → taken n len m (s ∷ later) ≡ s ∷ taken n len (suc m) later
unfolding taken
taken_on n len m s later e = rw (e, taken)

taken_refused : (n len m : ℕ) (s : Span) (later : List Span) (x : Fault) → refuses n m len s ≡ Some x → taken n len m (s ∷ later) ≡ []
unfolding taken
taken_refused n len m s later x e = rw (e, taken)

-- ---- the spans so far

-- a draft has the first i spans, and goes on with the others
pub record Onward (before : List ℕ) (n : ℕ) (spans : List Span) (i m : ℕ) (buffer : List ℕ) : Type 0 where
  pub drafted : Drafted before n m (newest_first spans i) buffer
  pub answer : adding n (length before) 0 spans ≡ adding n (length before) i (drop i spans)
  pub takes : taken n (length before) 0 spans ≡ take i spans ++ taken n (length before) i (drop i spans)

-- what a draft of k closures answers is what is asked of the i-th span
asked : (before : List ℕ) (n k : ℕ) (spans : List Span) (i m : ℕ) (buffer : List ℕ) (s : Span) (o : Option Fault) → k ≡ n → Onward before n spans i m buffer → i < length spans → o ≡ refuses k m (length buffer) s → refuses n i (length before) s ≡ o
asked before n k spans i m buffer s o q w h e =
    let l = length_drafted before n m (newest_first spans i) buffer w.drafted in
    let c : m ≡ i = w.drafted.count ∙ length_newest spans i (omega arith) in
    sym (e ∙ ap (λ x. refuses x m (length buffer) s) q ∙ ap (λ x. refuses n x (length buffer) s) c ∙ ap (λ x. refuses n i x s) l)

pub onward_more : (before : List ℕ) (n k k' : ℕ) (spans : List Span) (i m m' : ℕ) (buffer buffer' : List ℕ) (d : Span) → k ≡ n → k' ≡ k → Onward before n spans i m buffer → i < length spans → None ≡ refuses k m (length buffer) (get_or spans i d) → ((h : List Span) → Drafted before k m h buffer → Drafted before k' m' (get_or spans i d ∷ h) buffer') → Onward before n spans (i + 1) m' buffer'
onward_more before n k k' spans i m m' buffer buffer' d q q' w h e grows =
    let s = get_or spans i d in
    let len = length before in
    let p : suc i ≡ i + 1 = omega arith in
    let ok = asked before n k spans i m buffer s None q w h e in
    let later = drop (i + 1) spans in
    let old : Drafted before k m (newest_first spans i) buffer = subst (λ x. Drafted before x m (newest_first spans i) buffer) (sym q) w.drafted in
    let new : Drafted before n m' (get_or spans i d ∷ newest_first spans i) buffer' = subst (λ x. Drafted before x m' (s ∷ newest_first spans i) buffer') (q' ∙ q) (grows (newest_first spans i) old) in
    record {
      drafted = subst (λ x. Drafted before n m' x buffer') (sym (newest_more spans i d h) ∙ ap (newest_first spans) p) new;
      answer =
          w.answer ∙ ap (adding n len i) (drop_more spans i d h) ∙ adding_on n len i s later ok ∙ ap (λ x. adding n len x later) p;
      takes =
          w.takes
          ∙ ap (λ x. take i spans ++ taken n len i x) (drop_more spans i d h)
          ∙ ap (λ x. take i spans ++ x) (taken_on n len i s later ok)
          ∙ sym (append_assoc (take i spans) (s ∷ []) (taken n len (suc i) later))
          ∙ ap (λ x. x ++ taken n len (suc i) later) (sym (take_more spans i d h))
          ∙ ap (λ x. take (i + 1) spans ++ taken n len x later) p;
    }

-- ---- the end

pub fitting_answer : (n len : ℕ) (spans : List Span) → fitting n len ≡ None → writing n len spans ≡ adding n len 0 spans
unfolding writing
fitting_answer n len spans e = rw (e, writing)

fitting_left : (n : ℕ) (spans : List Span) (before : List ℕ) → fitting n (length before) ≡ None → left_off n spans before ≡ unsealed n (reverse (taken n (length before) 0 spans)) before
unfolding left_off
fitting_left n spans before e = rw (e, left_off)

pub unfit_answer : (n len : ℕ) (spans : List Span) (x : Fault) → Some x ≡ fitting n len → Some x ≡ writing n len spans
unfolding writing
unfit_answer n len spans x e = rw (← e, writing)

pub unfit_left : (n : ℕ) (spans : List Span) (before : List ℕ) (x : Fault) → Some x ≡ fitting n (length before) → before ≡ left_off n spans before
unfolding left_off
unfit_left n spans before x e = rw (← e, left_off)

pub refused_answer : (before : List ℕ) (n k : ℕ) (spans : List Span) (i m : ℕ) (buffer : List ℕ) (d : Span) (x : Fault) → k ≡ n → None ≡ fitting n (length before) → Onward before n spans i m buffer → i < length spans → Some x ≡ refuses k m (length buffer) (get_or spans i d) → Some x ≡ writing n (length before) spans
refused_answer before n k spans i m buffer d x q f w h e =
    let s = get_or spans i d in
    let len = length before in
    sym
    (fitting_answer n len spans (sym f)
    ∙ w.answer
    ∙ ap (adding n len i) (drop_more spans i d h)
    ∙ adding_refused n len i s (drop (i + 1) spans) x (asked before n k spans i m buffer s (Some x) q w h e))

pub refused_left : (before : List ℕ) (n k : ℕ) (spans : List Span) (i m : ℕ) (buffer : List ℕ) (d : Span) (x : Fault) → k ≡ n → None ≡ fitting n (length before) → Onward before n spans i m buffer → i < length spans → Some x ≡ refuses k m (length buffer) (get_or spans i d) → buffer ≡ left_off n spans before
refused_left before n k spans i m buffer d x q f w h e =
    let s = get_or spans i d in
    let len = length before in
    let t : taken n (length before) 0 spans ≡ take i spans =
    w.takes
    ∙ ap (λ y. take i spans ++ taken n len i y) (drop_more spans i d h)
    ∙ ap (λ y. take i spans ++ y) (taken_refused n len i s (drop (i + 1) spans) x (asked before n k spans i m buffer s (Some x) q w h e))
    ∙ append-nil (take i spans) in
    w.drafted.bytes ∙ ap (λ y. unsealed n (reverse y) before) (sym t) ∙ sym (fitting_left n spans before (sym f))

pub written_answer : (before : List ℕ) (n : ℕ) (spans : List Span) (i m : ℕ) (buffer : List ℕ) → None ≡ fitting n (length before) → Onward before n spans i m buffer → length spans ≤ i → None ≡ writing n (length before) spans
unfolding adding
written_answer before n spans i m buffer f w h =
    sym (fitting_answer n (length before) spans (sym f) ∙ w.answer ∙ ap (adding n (length before) i) (drop_all i spans h))

pub written_log : (before : List ℕ) (n k : ℕ) (spans : List Span) (i m len : ℕ) (buffer after : List ℕ) → k ≡ n → Onward before n spans i m buffer → length spans ≤ i → ((h : List Span) → Drafted before k m h buffer → Wrote k h before len after) → Wrote n (reverse spans) before len after
written_log before n k spans i m len buffer after q w h seals =
    let g = newest_first spans i in
    let e : newest_first spans i ≡ reverse spans = ap reverse (take_all i spans h) in
    let s = seals g (subst (λ x. Drafted before x m g buffer) (sym q) w.drafted) in
    subst (λ x. Wrote n x before len after) e (subst (λ x. Wrote x g before len after) q s)
