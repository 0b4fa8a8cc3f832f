-- A walk along a chain, record by record.
use Rattle.std.proofs.Common.{◌≡◌, ℕ, suc, ◌+◌, ◌<◌, ◌≤◌, List, [], ◌∷◌, length, sym, ap, ◌∙◌, subst, arith}
use Rattle.logs.specs.declared.side.Side.{Side}
use Rattle.logs.specs.Words.{word}
use Rattle.logs.specs.History.{size}
use Rattle.logs.specs.Opening.{Chain, Ranged, Strays, end, end_at, head_at, here, link, next_at, there}
use Rattle.logs.specs.Placing.{column_few}
use Rattle.logs.proofs.Ranges.{head_below, next_below}

module _ (bytes : List ℕ) (n m : ℕ) (s : Side) (u : ℕ) where
  -- the link at the place is in the bytes and falls with each record, and what it begins goes on from the head
  pub record Walking (place count : ℕ) : Type 0 where
    pub within : place + 1 < size n m
    pub falls : word bytes place + count ≤ m
    pub chain : (js : List ℕ) → Chain bytes n s u place js → (ks : List ℕ) × (Chain bytes n s u (head_at s u) ks × (length ks ≡ count + length js))
    pub strays : (q : ℕ) → Strays bytes n s u place q → Strays bytes n s u (head_at s u) q

  pub walk_start : (place : ℕ) → Ranged bytes n m → u < n → place ≡ head_at s u → Walking place 0
  walk_start place r i e =
      let h = head_below bytes n m s u r i in
      let f = column_few s in
      let w = ap (word bytes) e in
      record {
        within = omega arith;
        falls = omega arith;
        chain = λ js c. (js, (subst (λ p. Chain bytes n s u p js) e c, omega arith));
        strays = λ q t. subst (λ p. Strays bytes n s u p q) e t;
      }

  pub walk_end : (place count : ℕ) → Walking place count → word bytes place ≡ 0 → (js : List ℕ) × (Chain bytes n s u (head_at s u) js × (length js ≡ count))
  walk_end place count w e =
      let k = w.chain [] (end e) in
      (k.0, (k.1.0, omega (arith, k.1.1)))

  pub walk_strays : (place count j at near : ℕ) → Walking place count → word bytes place ≡ suc j → at ≡ end_at n s j → near ≡ word bytes at → (near ≡ u → ⊥) → Strays bytes n s u (head_at s u) place
  walk_strays place count j at near w e f g foreign =
      w.strays place (here e (λ same. foreign (g ∙ ap (word bytes) f ∙ same)))

  pub walk_falls : (place count j next : ℕ) → Ranged bytes n m → Walking place count → word bytes place ≡ suc j → next ≡ next_at n s j → word bytes next < word bytes place
  walk_falls place count j next r w e f =
      let h = w.falls in
      let b = next_below bytes n m s j r (omega arith) in
      let p = ap (word bytes) f in
      omega arith

  pub walk_on : (place count j at near next : ℕ) → Ranged bytes n m → Walking place count → word bytes place ≡ suc j → at ≡ end_at n s j → near ≡ word bytes at → near ≡ u → next ≡ next_at n s j → Walking next (count + 1)
  walk_on place count j at near next r w e f g own p =
      let h = w.falls in
      let l = column_few s in
      let t = walk_falls place count j next r w e p in
      let o : word bytes (end_at n s j) ≡ u = ap (word bytes) (sym f) ∙ sym g ∙ own in
      record {
        within = omega arith;
        falls = omega arith;
        chain = λ js c.
            let k = w.chain (j ∷ js) (link e o (subst (λ x. Chain bytes n s u x js) p c)) in
            (k.0, (k.1.0, omega (arith, k.1.1)));
        strays = λ q c. w.strays q (there e o (subst (λ x. Strays bytes n s u x q) p c));
      }
