-- Adjacency lists that are laid out closure by closure and slot by slot.
use Rattle.std.proofs.Common.{◌≡◌, ℕ, zero, suc, ◌+◌, ◌<◌, ◌≤◌, List, [], ◌∷◌, ◌++◌, length, Some, Option, Ok, Err, Result, IsOk, OnErr, OnOk, ◌↔◌, sym, refl, ap, ◌∙◌, subst, ⊎_elim, arith}
use Rattle.std.proofs.lemmas.List.{append_assoc, append-nil, length-append}
use Rattle.std.proofs.lemmas.Bool.{cases_eq}
use Rattle.books.specs.declared.stored.Adjacency.{Adjacency}
use Rattle.books.specs.Adjacent.{Bare, Beside, Grown, Lacking, Laid, Pushed, filled, listing, slots_below}
use Rattle.books.proofs.Laid.{listed_past, rows_below}

-- what an answer brings that is no refusal
brought : {X E : Type 0} (r : Result X E) (P : Type 0) → IsOk r → OnOk r P → P
brought (Ok x) P o p = p
brought (Err e) P o p = cc

-- a push changes the slots of the last closure alone
pub beside_self : (a : Adjacency) → Beside a a
beside_self a = record { size = refl; others = λ u n. refl }

pub beside_pushed : {X E : Type 0} (v : ℕ) (a b c : Adjacency) (r : Result X E) → Beside a b → OnOk r (Pushed v b c) → OnErr r (c ≡ b) → Beside a c
beside_pushed v a b c (Ok x) d o e =
    record { size = o.size ∙ d.size; others = λ u n. o.others u (λ q. n (sym d.size ∙ q)) ∙ d.others u n }
beside_pushed v a b c (Err f) d o e = subst (Beside a) (sym e) d

module _ (row : ℕ → List (Option ℕ)) where
  -- fewer closures have at most as many slots
  pub slots_up : (u n : ℕ) → u ≤ n → slots_below row u ≤ slots_below row n
  slots_up u zero h = let z : u ≡ 0 = omega arith in rw z (omega arith)
  slots_up u (suc n) h =
      ⊎_elim
      (λ (e : u ≡ suc n). rw e (omega arith))
      (λ (e : u ≡ suc n → ⊥). let l = slots_up u n (omega arith) in omega arith)
      (cases_eq u (suc n))

  pub laid_past : (n u : ℕ) (a : Adjacency) → Laid row n a → n ≤ u → (listing a).slots u ≡ []
  laid_past n u a d h =
      let z = d.size in
      listed_past a u (omega arith)

  -- one closure, whose slots are still to come
  pub begun : (a : Adjacency) → Bare a → Lacking row 0 (row 0) a
  begun a x = record { size = x.size; slots = λ v i. absurd (omega arith); last = ap (λ l. l ++ row 0) (x.slots 0) }

  -- one closure more
  pub grown : {X E : Type 0} (u : ℕ) (a b : Adjacency) (r : Result X E) → Laid row u a → u < 1024 → IsOk r ↔ ((listing a).size < 1024) → OnOk r (Grown a b) → Lacking row u (row u) b
  grown u a b r d h e g =
      let z = d.size in
      let x = brought r (Grown a b) (e.1 (omega arith)) g in
      let y = x.size in
      record {
        size = omega arith;
        slots = λ v i. x.slots v ∙ d.slots v i;
        last = ap (λ l. l ++ row u) (x.slots u ∙ laid_past u u a d (omega arith));
      }

  -- how many slots there are, and how many are still to come
  lacking_count : (u : ℕ) (rest : List (Option ℕ)) (a : Adjacency) → Lacking row u rest a → filled a + length rest ≡ slots_below row (suc u)
  unfolding filled
  lacking_count u rest a d =
      let z = ap (slots_below (listing a).slots) d.size in
      let b = rows_below (listing a).slots row u d.slots in
      let l = sym (length-append ((listing a).slots u) rest) ∙ ap length d.last in
      omega arith

  -- one slot more, for which there is room
  pub pushed : {X E : Type 0} (u v : ℕ) (rest more : List (Option ℕ)) (a b : Adjacency) (r : Result X E) → Lacking row u rest a → rest ≡ Some v ∷ more → slots_below row (suc u) ≤ 4096 → IsOk r ↔ (filled a < 4096) → OnOk r (Pushed v a b) → Lacking row u more b
  pushed u v rest more a b r d q f e g =
      let z = d.size in
      let c = lacking_count u rest a d in
      let l = ap length q in
      let x = brought r (Pushed v a b) (e.1 (omega arith)) g in
      record {
        size = x.size ∙ z;
        slots = λ w i. x.others w (λ o. omega arith) ∙ d.slots w i;
        last =
            ap (λ l. l ++ more) (x.last u z)
            ∙ append_assoc ((listing a).slots u) (Some v ∷ []) more
            ∙ ap (λ l. (listing a).slots u ++ l) (sym q)
            ∙ d.last;
      }

  -- the last closure has all its slots
  pub ended : (u : ℕ) (rest : List (Option ℕ)) (a : Adjacency) → Lacking row u rest a → rest ≡ [] → Laid row (suc u) a
  ended u rest a d q =
      let own : (listing a).slots u ≡ row u = sym (append-nil ((listing a).slots u)) ∙ ap (λ l. (listing a).slots u ++ l) (sym q) ∙ d.last in
      record {
        size = d.size;
        slots = λ v i.
            ⊎_elim
            (λ (e : v ≡ u). subst (λ w. (listing a).slots w ≡ row w) (sym e) own)
            (λ (e : v ≡ u → ⊥). d.slots v (omega arith))
            (cases_eq v u);
      }
