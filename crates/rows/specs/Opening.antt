-- What opening answers, and what rows then mean.
use Rattle.std.specs.Prelude.{◌≡◌, ℕ, IsTrue, ◌↔◌, List, None, Result, MatchResult}
use Rattle.books.specs.declared.fault.Fault.{Fault}
use Rattle.books.specs.declared.fault.Fault.TheVariants.{BrokenRows}
use Rattle.books.specs.Adjacent.{Laid, listing}
use Rattle.books.specs.Faults.{told}
use Rattle.books.specs.Listing.{plan}
use Rattle.books.specs.Tables.{slots_at}
use Rattle.rows.specs.declared.stored.Rows.{Rows}
use Rattle.rows.specs.Rules.{Broken, Kept, Lists}

module _ {X : Type 0} (out_starts out_ends in_starts in_ends : List ℕ) (r : Result X Fault) where
  -- rows that keep the rules are opened
  abbrev pub Opens : Type 0
  Opens = (n : ℕ) → Kept n out_starts out_ends in_starts in_ends → told r ≡ None

  -- the answer is right: the rules are kept and the rows have the slots of both listings, or they are broken and the rows
  -- are as before
  abbrev pub Verdict : Rows → Rows → Type 0
  Verdict before after =
      MatchResult r
      (λ _. (n : ℕ) × Kept n out_starts out_ends in_starts in_ends × Laid (slots_at out_starts out_ends) n after.out × Laid (slots_at in_starts in_ends) n after.into)
      (λ e. (e ≡ BrokenRows) × Broken out_starts out_ends in_starts in_ends × (after ≡ before))

-- where rows were opened, a span leads from u to v exactly if a slot of u holds v in the outgoing listing
abbrev pub Spans : {X : Type 0} → List ℕ → List ℕ → Result X Fault → Rows → Type 0
Spans starts ends r rows =
    told r ≡ None → (u v : ℕ) → IsTrue ((plan (listing rows.out)).leads u v) ↔ Lists starts ends u v
