-- Marks in an array, and what they say of closures.
use Rattle.std.proofs.lemmas.Grind.{common_steps}
use Rattle.std.proofs.Common.{tests, ◌≡◌, ℕ, zero, suc, ◌<◌, ◌≤◌, Bool, false, cond, ◌&&◌, eqb, ltb, List, length, get_or, set, replicate, Ok, Err, Option, sym, refl, ap, ◌∙◌, arith, get_or-set_other, get_or-set_same}
use Rattle.std.proofs.lemmas.List.{set-get_or}
use Rattle.std.proofs.lemmas.Bool.{cases_eq, cond-false, cond-true, le-ltb, lt-ltb}
use Rattle.books.specs.Listing.{Listing}
use Rattle.books.specs.declared.fault.Fault.TheVariants.{NoClosure}
use Rattle.layers.specs.Layers.{Marking, marked_at, shuts}
use Rattle.layers.specs.Thinned.{leaves_both}
use Rattle.layers.specs.declared.marks.Marks.{Marks}
use Rattle.layers.specs.declared.shut.Shut.{Shut}

pub none_marked : (k u : ℕ) → get_or (replicate k false) u false ≡ false
none_marked zero u = refl
none_marked (suc k) zero = refl
none_marked (suc k) (suc u) = none_marked k u

-- a mark that was set or cleared
marked_once : (xs : List Bool) (n c : ℕ) (mark : Bool) → c < n → n ≤ length xs → (u : ℕ) → get_or (set xs c mark) u false ≡ cond (eqb u c && ltb u n) mark (get_or xs u false)
marked_once xs n c mark h l u = grind (arith, tests, common_steps, get_or-set_same, get_or-set_other, cases_eq u c)

-- a number that is no closure has no mark to change
unmarked : (n c : ℕ) (mark : Bool) (shut : ℕ → Bool) → n ≤ c → (u : ℕ) → shut u ≡ marked_at n c mark shut u
unmarked n c mark shut h u = grind (arith, tests)

module _ {B : Type 0} (outgoing : B → Listing) (incoming : B → ℕ → List (Option ℕ)) (c : ℕ) (mark : Bool) (s : Shut B) where
  pub refuses : (outgoing s.below).size ≤ c → Marking outgoing incoming c mark (Err NoClosure) s s
  refuses h = record {
    answer = sym (cond-false _ _ _ (le-ltb c (outgoing s.below).size h));
    refused = λ _. refl;
    again = λ _. refl;
    below = refl;
    marks = unmarked (outgoing s.below).size c mark (shuts s) h;
    leaves = leaves_both (shuts s) (outgoing s.below) (incoming s.below);
  }

  pub accepts : (marks : Marks) → c < (outgoing s.below).size → (outgoing s.below).size ≤ length s.marks.set → marks.set ≡ set s.marks.set c mark → Marking outgoing incoming c mark (Ok tt) s (record { below = s.below; marks = marks })
  accepts marks h few puts = record {
    answer = sym (cond-true _ _ _ (lt-ltb c (outgoing s.below).size h));
    refused = λ l. absurd (omega arith);
    again = λ e i. record { below = s.below; marks = record { set = (puts ∙ ap (set s.marks.set c) (sym e) ∙ set-get_or s.marks.set c false) i } };
    below = refl;
    marks = λ u. ap (λ xs. get_or xs u false) puts ∙ marked_once s.marks.set (outgoing s.below).size c mark h few u;
    leaves = leaves_both (λ u. get_or marks.set u false) (outgoing s.below) (incoming s.below);
  }
