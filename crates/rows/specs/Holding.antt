-- Listings that show the same spans from either end.
use Rattle.std.specs.Prelude.{◌≡◌, ℕ, ◌<◌, ◌≤◌, T}
use Rattle.std.proofs.Common.{subst, ⊎_elim, arith}
use Rattle.std.proofs.lemmas.Bool.{cases_lt}
use Rattle.books.proofs.Laid.{listed_past, lists_sound}
use Rattle.books.specs.declared.stored.Adjacency.{Adjacency}
use Rattle.books.specs.Adjacent.{listing}
use Rattle.books.specs.Listing.{Sound, holds}

-- a span leads to a closure of the lists that show it from its other end
leads_below : (a b : Adjacency) → ((u v : ℕ) → T (holds ((listing a).slots u) v) → T (holds ((listing b).slots v) u)) → (u v : ℕ) → T (holds ((listing a).slots u) v) → v < (listing b).size
leads_below a b turn u v t =
    ⊎_elim
    (λ (h : v < (listing b).size). h)
    (λ (h : (listing b).size ≤ v). absurd (subst (λ xs. T (holds xs u)) (listed_past b v h) (turn u v t)))
    (cases_lt v (listing b).size)

-- lists that others of as many closures show from the other ends are those of a book
pub turned_sound : (a b : Adjacency) → (listing a).size ≡ (listing b).size → ((u v : ℕ) → T (holds ((listing a).slots u) v) → T (holds ((listing b).slots v) u)) → Sound 1024 (listing a)
turned_sound a b e turn = lists_sound a (λ u v t. let h = leads_below a b turn u v t in omega arith)
