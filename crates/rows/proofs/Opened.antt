-- Listings that keep the rules, laid out.
use Rattle.std.proofs.Common.{◌≡◌, ℕ, suc, ◌-◌, ◌<◌, ◌≤◌, IsTrue, ◌↔◌, [], map, get_or, take, drop, Some, sym, ap, ◌∙◌, subst, ⊎_elim, arith}
use Rattle.std.specs.Cmp.{both_ways}
use Rattle.std.proofs.lemmas.Bool.{cases_lt}
use Rattle.books.proofs.Laying.{laid_past}
use Rattle.books.specs.declared.stored.Adjacency.{Adjacency}
use Rattle.books.specs.Adjacent.{Laid, listing}
use Rattle.books.specs.Listing.{holds}
use Rattle.rows.specs.declared.listed.Listed.{Listed}
use Rattle.rows.specs.declared.orderly.Matched.{Matched}
use Rattle.rows.specs.Rules.{Kept, Lists, Ordered}
use Rattle.rows.specs.Slots.{row_of}
use Rattle.rows.specs.Starts.{none_past}
use Rattle.rows.proofs.Holding.{held_lists, lists_held, shown_mirrors}

-- lists that were laid out have the slots that the starts and ends list
module _ (n : ℕ) (l : Listed) (o : Ordered n l.starts.now l.ends.now) (a : Adjacency) (d : Laid (row_of l) n a) where
  row_past : (u : ℕ) → n ≤ u → row_of l u ≡ []
  row_past u h =
      let from = get_or l.starts.now u 0 in
      let none : get_or l.starts.now (suc u) 0 - from ≡ 0 = omega (arith, none_past n l o u h) in
      ap (λ k. map Some (take k (drop from l.ends.now))) none

  laid_slots : (u : ℕ) → (listing a).slots u ≡ row_of l u
  laid_slots u =
      ⊎_elim
      (λ (h : u < n). d.slots u h)
      (λ (h : n ≤ u). laid_past (row_of l) n u a d h ∙ sym (row_past u h))
      (cases_lt u n)

  pub laid_lists : (u v : ℕ) → IsTrue (holds ((listing a).slots u) v) ↔ Lists l.starts.now l.ends.now u v
  laid_lists u v = (
    λ t. held_lists l u v (subst (λ xs. IsTrue (holds xs v)) (laid_slots u) t),
    λ x. subst (λ xs. IsTrue (holds xs v)) (sym (laid_slots u)) (lists_held n l o u v x),
  )

module _ (m : Matched) where
  pub kept : Kept m.out.n m.out.listed.starts.now m.out.listed.ends.now m.into.listed.starts.now m.into.listed.ends.now
  kept = record {
    some = m.out.some;
    most = m.out.most;
    out = m.out.ordered;
    into = subst (λ n. Ordered n m.into.listed.starts.now m.into.listed.ends.now) m.level m.into.ordered;
    shown = shown_mirrors m.out.n m.out.listed m.into.listed m.out.ordered m.shown;
    shown_back = shown_mirrors m.into.n m.into.listed m.out.listed m.into.ordered m.shown_back;
  }

  module _ (a b : Adjacency) (leaving : Laid (row_of m.out.listed) m.out.n a) (arriving : Laid (row_of m.into.listed) m.into.n b) where
    pub laid_level : (listing b).size ≡ (listing a).size
    laid_level = arriving.size ∙ m.level ∙ sym leaving.size

    pub laid_agrees : (u v : ℕ) → holds ((listing b).slots v) u ≡ holds ((listing a).slots u) v
    laid_agrees u v =
        ap (λ xs. holds xs u) (laid_slots m.into.n m.into.listed m.into.ordered b arriving v)
        ∙ both_ways _ _ (m.shown_back v u) (m.shown u v)
        ∙ sym (ap (λ xs. holds xs v) (laid_slots m.out.n m.out.listed m.out.ordered a leaving u))
