-- The slots of a history, and the lists that hold them.
use Rattle.std.specs.Prelude.{◌≡◌, ℕ, zero, suc, ◌<◌, ◌≤◌, Bool, true, false, cond, ◌||◌, T, ◌⊎◌, List, [], ◌∷◌, map, reverse, length, Some, None, ◌==◌, nat_eq, slice_get, ◌++◌, refl}
use Rattle.std.proofs.Common.{sym, ap, subst, ◌∙◌, inl, inr, ⊎_elim, arith}
use Rattle.std.proofs.lemmas.List.{length-map, length-reverse, reverse-append}
use Rattle.std.proofs.lemmas.Bool.{cases_eq, cases_lt, cond_both, cond-false, cond-true, eq-eqb, eqb-true, ne_eqb}
use Rattle.books.specs.declared.stored.Adjacency.{Adjacency}
use Rattle.books.proofs.Laying.{laid_past}
use Rattle.books.specs.Adjacent.{Laid, listing}
use Rattle.books.specs.Listing.{Sound, holds}
use Rattle.logs.specs.declared.side.Side.{Side}
use Rattle.logs.specs.declared.side.Side.TheVariants.{Leaving, Arriving}
use Rattle.logs.specs.declared.span.Span.{Span}
use Rattle.logs.specs.Sides.{far, near, other}
use Rattle.logs.specs.History.{arriving, chosen, inside, leaving, recorded, slots_on}
use Rattle.logs.specs.Drafting.{inside_parts, near_inside}

-- ---- what every history keeps

-- a closure that is not below n has no slots
chosen_outside : (n : ℕ) (s : Side) (u : ℕ) (h : List Span) → inside n h ≡ true → n ≤ u → chosen s u h ≡ []
chosen_outside n s u [] t l = refl
chosen_outside n s u (x ∷ h) t l =
    let b = near_inside n s x h t in
    cond-false _ _ _ (ne_eqb (near s x) u (λ e. omega arith)) ∙ chosen_outside n s u h (inside_parts n x h t).2 l

either : (a b : Bool) → T (a || b) → (a ≡ true) ⊎ T b
either true b t = inl refl
either false b t = inr t

chosen_below : (n : ℕ) (s : Side) (u v : ℕ) (h : List Span) → inside n h ≡ true → T (holds (map Some (chosen s u h)) v) → v < n
chosen_below n s u v [] t i = absurd i
chosen_below n s u v (x ∷ h) t i =
    let rest = map Some (chosen s u h) in
    let b = near_inside n (other s) x h t in
    let older : T (holds (map Some (chosen s u h)) v) → v < n = chosen_below n s u v h (inside_parts n x h t).2 in
    ⊎_elim
    (λ (o : near s x ≡ u).
    let i' : T (far s x == v || holds (map Some (chosen s u h)) v) = subst (λ l. T (holds (map Some l) v)) (cond-true _ _ _ (eq-eqb (near s x) u o)) i in
    ⊎_elim
    (λ (e : nat_eq (far s x) v ≡ true). let q = eqb-true (far s x) v e in omega arith)
    older
    (either (far s x == v) (holds rest v) i'))
    (λ (o : near s x ≡ u → ⊥). older (subst (λ l. T (holds (map Some l) v)) (cond-false _ _ _ (ne_eqb (near s x) u o)) i))
    (cases_eq (near s x) u)

chosen_few : (s : Side) (u : ℕ) (h : List Span) → length (chosen s u h) ≤ length h
chosen_few s u [] = omega arith
chosen_few s u (x ∷ h) =
    let e = chosen_few s u h in
    cond_both (near s x == u) (far s x ∷ chosen s u h) (chosen s u h) (λ l. length l ≤ suc (length h)) (λ _. omega arith) (λ _. omega arith)

pub sound : (s : Side) (n : ℕ) (h : List Span) → 1 ≤ n → n ≤ 1024 → length h ≤ 4096 → inside n h ≡ true → Sound 1024 (record { size = n; slots = λ u. map Some (chosen s u h) })
sound s n h some few short t =
    record {
      some = some;
      few = few;
      outside = λ u l. ap (map Some) (chosen_outside n s u h t l);
      below = λ u v i. chosen_below n s u v h t i;
      short = λ u. let a = chosen_few s u h in let b = length-map (chosen s u h) Some in omega arith;
    }

both : (a b : Bool) (f t u v : ℕ) (xs ys : List ℕ) → (t == v) ≡ a → (f == u) ≡ b → holds (map Some xs) u ≡ holds (map Some ys) v → holds (map Some (cond a (f ∷ xs) xs)) u ≡ holds (map Some (cond b (t ∷ ys) ys)) v
both true true f t u v xs ys p q e = rw (p, q)
both true false f t u v xs ys p q e = rw q e
both false true f t u v xs ys p q e = rw p e
both false false f t u v xs ys p q e = e

-- a span shows at both its ends
pub agree : (h : List Span) (u v : ℕ) → holds (arriving h v) u ≡ holds (leaving h u) v
agree [] u v = refl
agree (x ∷ h) u v =
    both (x.to == v) (x.from == u) x.from x.to u v (chosen Arriving v h) (chosen Leaving u h) refl refl (agree h u v)

-- lists that are laid out have the slots of the history
pub laid_slots : (s : Side) (h : List Span) (n : ℕ) (a : Adjacency) → Laid (slots_on s h) n a → inside n h ≡ true → (u : ℕ) → (listing a).slots u ≡ slots_on s h u
laid_slots s h n a d t u =
    ⊎_elim
    (λ (i : u < n). d.slots u i)
    (λ (i : n ≤ u). laid_past (slots_on s h) n u a d i ∙ ap (map Some) (sym (chosen_outside n s u h t i)))
    (cases_lt u n)

-- ---- the records

-- no record has the number 0, or one past the last
pub recorded_none : (h : List Span) (k : ℕ) → (k ≡ 0) ⊎ (length h < k) → recorded h k ≡ None
recorded_none [] k o = refl
recorded_none (x ∷ h) k o =
    let no : k ≡ suc (length h) → ⊥ = λ e. ⊎_elim (λ (z : k ≡ 0). omega arith) (λ (m : suc (length h) < k). omega arith) o in
    let less : (k ≡ 0) ⊎ (length h < k) = ⊎_elim (λ (z : k ≡ 0). inl z) (λ (m : suc (length h) < k). inr (omega arith)) o in
    cond-false _ _ _ (ne_eqb k (suc (length h)) no) ∙ recorded_none h k less

get_last : (xs : List Span) (x : Span) → slice_get (xs ++ x ∷ []) (length xs) ≡ Some x
get_last [] x = refl
get_last (y ∷ xs) x = get_last xs x

get_before : (xs : List Span) (x : Span) (j : ℕ) → (j ≡ length xs → ⊥) → slice_get (xs ++ x ∷ []) j ≡ slice_get xs j
get_before [] x zero e = absurd (e refl)
get_before [] x (suc j) e = refl
get_before (y ∷ xs) x zero e = refl
get_before (y ∷ xs) x (suc j) e = get_before xs x j (λ i. e (ap suc i))

-- the record of a number is the element that stands there in the history from its oldest span
pub recorded_some : (h : List Span) (j : ℕ) → recorded h (suc j) ≡ slice_get (reverse h) j
recorded_some [] j = refl
recorded_some (x ∷ h) j =
    let l = length-reverse h in
    rw (reverse-append (x ∷ []) h)
    (⊎_elim
    (λ (e : j ≡ length h).
    cond-true _ _ _ (eq-eqb (suc j) (suc (length h)) (ap suc e))
    ∙ sym (get_last (reverse h) x)
    ∙ ap (slice_get (reverse h ++ x ∷ [])) (l ∙ sym e))
    (λ (e : j ≡ length h → ⊥).
    cond-false _ _ _ (ne_eqb (suc j) (suc (length h)) (λ i. omega arith))
    ∙ recorded_some h j
    ∙ sym (get_before (reverse h) x j (λ i. omega arith)))
    (cases_eq j (length h)))
