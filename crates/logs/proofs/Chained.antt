-- The slots of a closure follow its chain.
use Rattle.std.proofs.Common.{◌≡◌, ℕ, suc, ◌<◌, ◌≤◌, List, [], ◌∷◌, map, Some, sym, ap, ◌∙◌, arith}
use Rattle.logs.specs.declared.side.Side.{Side}
use Rattle.logs.specs.Sides.{other}
use Rattle.logs.specs.Words.{word}
use Rattle.logs.specs.Opening.{Chain, Chained, Whole, end, end_at, head_at, link, next_at, spans_at}
use Rattle.logs.proofs.Canon.{Linked, exact_at, linked, newest, newest_few, reach, reach_own}
use Rattle.logs.proofs.Decided.{chain_of}
use Rattle.logs.proofs.Following.{reach_newest}

module _ (bytes : List ℕ) (n : ℕ) (s : Side) where
  -- the records of a chain that begins at the newest of the first records have the slots of their closure as other ends
  along_chain : (m u k p : ℕ) (js : List ℕ) → Linked bytes n s m → k ≤ m → word bytes p ≡ newest bytes n s u k → Chain bytes n s u p js → map Some (reach bytes n s u k) ≡ map (λ j. Some (word bytes (end_at n (other s) j))) js
  along_chain m u k p [] x l e (end w) = ap (map Some) (sym (reach_newest bytes n s u k) ∙ ap (reach bytes n s u) (sym e ∙ w))
  along_chain m u k p (j ∷ js) x l e (link w o c) =
      let q : newest bytes n s u k ≡ suc j = sym e ∙ w in
      let f = newest_few bytes n s u k in
      let h : j < m = omega arith in
      ap (map Some) (sym (reach_newest bytes n s u k) ∙ ap (reach bytes n s u) q ∙ reach_own bytes n s u j o)
      ∙ ap (λ y. Some (word bytes (end_at n (other s) j)) ∷ y)
      (along_chain m u j (next_at n s j) js x (omega arith) (x j h ∙ ap (λ y. newest bytes n s y j) o) c)

pub chained : (bytes : List ℕ) (n m : ℕ) → Whole bytes n m → Chained bytes n (spans_at bytes n m)
chained bytes n m w =
    record {
      chain = λ s u h. chain_of bytes n s n m u (w.chains s) h;
      slots = λ s u js h c.
          along_chain bytes n s m u m (head_at s u) js (linked bytes n s m w.ranged (w.chains s)) (omega arith)
          (exact_at bytes n s m w.ranged (w.chains s) u h).head c;
    }
