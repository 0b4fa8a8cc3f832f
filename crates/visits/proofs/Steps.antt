-- How a visit goes on.
use Rattle.std.proofs.Common.{◌≡◌, ℕ, suc, ◌+◌, ◌<◌, ◌≤◌, T, eqb, List, [], ◌∷◌, ◌++◌, length, set, Some, None, Option, sym, ap, ◌∙◌, subst, ⊎_elim, add-one, arith, length-append, length-set, get_or-set_other, get_or-set_same, below_more}
use Rattle.std.proofs.Math.ListN.{get_or-append}
use Rattle.std.proofs.Math.Seq.{get_or-append_seam}
use Rattle.std.proofs.lemmas.Bool.{cond_both, cases_eq, eqb-true, eqb-false}
use Rattle.books.specs.Plan.{Plan, Chain}
use Rattle.books.specs.Listing.{slot}
use Rattle.books.proofs.Distances.{further}
use Rattle.visits.specs.declared.search.Search.{Search}
use Rattle.visits.specs.Going.{Going, far, found, place, noted}
use Rattle.books.proofs.Counts.{others_set, others_bound, others_room}
use Rattle.visits.proofs.Looking.{Looking}

-- no more are found than there are closures, and fewer while one is not
pub all_found : {p : Plan} {head : ℕ} {s : Search} → Going p head s → found s ≤ p.size
all_found {p} {s = s} g =
    omega (arith, g.tally, others_bound 65535 p.size s.distances (λ v m l. g.outside v m (omega (arith, g.long))))

pub room_left : {p : Plan} {head : ℕ} {s : Search} → Going p head s → (v : ℕ) → v < p.size → far s v ≡ 65535 → found s < p.size
room_left {p} {s = s} g v h e =
    omega (arith, g.tally, others_room 65535 p.size s.distances v (λ w m l. g.outside w m (omega (arith, g.long))) h (omega (arith, g.long, g.few)) e)

-- v is not known, and is found through u, at place `head`
module _ (p : Plan) (ss : List (Option ℕ)) (k head u d z : ℕ) (s : Search) (o : Looking p ss k head u d z s) (v : ℕ) (fresh : far s v ≡ 65535) (in' : v < p.size) (leads : T (p.leads u v)) where
  wide : v < length s.distances
  wide = omega (arith, o.going.long, o.going.few)

  free : found s < p.size
  free = room_left o.going v in' fresh

  after : Search
  after = record { distances = set s.distances v d; queue = record { items = s.queue.items ++ v ∷ [] } }

  count : found after ≡ found s + 1
  unfolding after
  count = length-append s.queue.items (v ∷ [])

  here_far : far s (place s head) ≤ head
  here_far = o.going.soon head o.early

  d_is : d ≡ far s (place s head) + 1
  d_is = o.next ∙ ap (λ w. far s w + 1) (sym o.here)

  other : (w : ℕ) → (w ≡ v → ⊥) → far after w ≡ far s w
  unfolding after
  other w ne = get_or-set_other s.distances v w d 0 ne

  this : far after v ≡ d
  unfolding after
  this = get_or-set_same s.distances v d 0 wide

  spot : (i : ℕ) → i < found s → place after i ≡ place s i
  unfolding after
  spot i h = get_or-append s.queue.items (v ∷ []) 0 i h

  last : place after (found s) ≡ v
  unfolding after
  last = get_or-append_seam s.queue.items v [] 0

  apart : (i : ℕ) → i < found s → place s i ≡ v → ⊥
  apart i h e =
      let a : far s v ≤ i = subst (λ w. far s w ≤ i) e (o.going.soon i h) in
      omega (arith, free, o.going.few, fresh)

  kept : (i : ℕ) → i < found s → far after (place after i) ≡ far s (place s i)
  kept i h = ap (far after) (spot i h) ∙ other (place s i) (apart i h)

  end : far after (place after (found s)) ≡ d
  end = ap (far after) last ∙ this

  -- what holds of each place so far, and of the last, holds of each place
  each : (P : ℕ → Type 0) → ((i : ℕ) → i < found s → P i) → P (found s) → (i : ℕ) → i < found after → P i
  unfolding after
  each P below here i h = below_more P (found s) below here i (omega (arith, count))

  fewer : {i : ℕ} → i ≤ found s → i < found after
  fewer m = omega (arith, count)

  found_order : (i j : ℕ) → i ≤ j → j < found after → far after (place after i) ≤ far after (place after j)
  found_order i j m h =
      each (λ j. i ≤ j → far after (place after i) ≤ far after (place after j))
      (λ j h m. omega (arith, kept i (omega arith), kept j h, o.going.order i j m h))
      (λ m. each (λ i. far after (place after i) ≤ far after (place after (found s))) (λ i h. omega (arith, kept i h, end, d_is, o.going.near i o.early h)) (omega arith) i (fewer m)) j h m

  found_near : (i : ℕ) → i < found after → far after (place after i) ≤ suc (far after (place after head))
  found_near i h =
      each (λ i. far after (place after i) ≤ suc (far after (place after head)))
      (λ i h. omega (arith, kept i h, kept head o.early, o.going.near i o.early h))
      (omega (arith, end, d_is, kept head o.early)) i h

  found_listed : (w : ℕ) → w < 1024 → (far after w ≡ 65535 → ⊥) → (i : ℕ) × (i < found after) × (place after i ≡ w)
  found_listed w l n =
      ⊎_elim (λ e. (found s, omega (arith, count), last ∙ sym e))
      (λ ne. let r = o.going.listed w l (λ q. n (other w ne ∙ q)) in (r.0, omega (arith, r.1, count), spot r.0 r.1 ∙ r.2))
      (cases_eq w v)

  chain_here : Chain p (place s 0) (place s head) (far s (place s head))
  chain_here =
      o.going.chains (place s head) (omega (arith, o.going.queued head o.early, o.going.few)) (λ q. omega (arith, here_far, free, o.early, o.going.few))

  chain_new : Chain p (place after 0) v (far after v)
  chain_new =
      let c = further chain_here (subst (λ w. T (p.leads w v)) (sym o.here) leads) in
      rw (spot 0 o.going.begun, this, d_is, add-one) c

  found_chains : (w : ℕ) → w < 1024 → (far after w ≡ 65535 → ⊥) → Chain p (place after 0) w (far after w)
  found_chains w l n =
      ⊎_elim (λ e. subst (λ w. Chain p (place after 0) w (far after w)) (sym e) chain_new)
      (λ ne. rw (spot 0 o.going.begun, other w ne) (o.going.chains w l (λ q. n (other w ne ∙ q))))
      (cases_eq w v)

  found_looked : (i w : ℕ) → i < head → T (p.leads (place after i) w) → far after w ≤ suc (far after (place after i))
  found_looked i w h t =
      let b : i < found s = omega (arith, o.early) in
      let r = o.going.looked i w h (subst (λ x. T (p.leads x w)) (spot i b) t) in
      ⊎_elim (λ e. omega (arith, ap (far s) e, fresh, o.going.soon i b, free, o.going.few))
      (λ ne. omega (arith, other w ne, kept i b))
      (cases_eq w v)

  found_going : Going p head after
  unfolding after
  found_going =
      record {
        long = length-set s.distances v d ∙ o.going.long;
        few = o.going.few;
        begun = omega (arith, count);
        behind = omega (arith, o.early, count);
        tally = others_set 65535 s.distances v d wide fresh (λ q. omega (arith, d_is, here_far, o.early, free, o.going.few)) ∙ ap (λ n. n + 1) o.going.tally ∙ sym count;
        outside = λ w m l. other w (λ q. omega arith) ∙ o.going.outside w m l;
        queued = each (λ i. place after i < p.size) (λ i h. rw (spot i h) (o.going.queued i h)) (rw last in');
        soon = each (λ i. far after (place after i) ≤ i) (λ i h. rw (kept i h) (o.going.soon i h)) (rw end (omega (arith, d_is, here_far, o.early)));
        order = found_order;
        near = λ i _ h. found_near i h;
        listed = found_listed;
        chains = found_chains;
        looked = found_looked;
      }

  found_seen : (i w : ℕ) → i < k → slot ss i ≡ Some w → far after w ≤ d
  found_seen i w h e =
      ⊎_elim (λ q. omega (arith, ap (far after) q, this)) (λ ne. omega (arith, other w ne, o.seen i w h e)) (cases_eq w v)

  found_looking : Looking p ss k head u d z after
  unfolding after
  found_looking =
      record {
        going = found_going;
        early = fewer (omega (arith, o.early));
        here = spot head o.early ∙ o.here;
        next = d_is ∙ ap (λ n. n + 1) (sym (kept head o.early) ∙ ap (far after) (spot head o.early ∙ o.here));
        zero = spot 0 o.going.begun ∙ o.zero;
        seen = found_seen;
      }

  -- it is then noted at the distance that u has and one more
  found_this : far after v ≤ d
  found_this = omega (arith, this)

-- one more slot is read, of which all that is new is this
read_more : {p : Plan} {ss : List (Option ℕ)} {k head u d z : ℕ} {s : Search} → Looking p ss k head u d z s → ((v : ℕ) → slot ss k ≡ Some v → far s v ≤ d) → Looking p ss (k + 1) head u d z s
read_more {ss = ss} {k = k} {d = d} {s = s} o new =
    record {
      going = o.going;
      early = o.early;
      here = o.here;
      next = o.next;
      zero = o.zero;
      seen = λ i v h e. below_more (λ i. (v : ℕ) → slot ss i ≡ Some v → far s v ≤ d) k (λ i h v. o.seen i v h) new i h v e;
    }

some_inj : {v w : ℕ} → Some v ≡ Some w → v ≡ w
some_inj e = cc

-- a slot that holds nothing
pub none_more : {p : Plan} {ss : List (Option ℕ)} {k head u d z : ℕ} {s r : Search} → Looking p ss k head u d z s → None ≡ slot ss k → r ≡ s → Looking p ss (k + 1) head u d z r
none_more {p} {ss} {k} {head} {u} {d} {z} o e is =
    subst (λ r. Looking p ss (k + 1) head u d z r) (sym is) (read_more o (λ v q. let x : ◌≡◌ {A = ℕ} 0 1 = cc in omega arith))

-- a closure that is known is no farther than one span past u
not_new : {p : Plan} {ss : List (Option ℕ)} {k head u d z : ℕ} {s : Search} {v : ℕ} → Looking p ss k head u d z s → v < p.size → (far s v ≡ 65535 → ⊥) → far s v ≤ d
not_new {s = s} {v = v} o in' n =
    let r = o.going.listed v (omega (arith, o.going.few)) n in
    let m = o.going.near r.0 o.early r.1 in
    omega (arith, ap (far s) r.2, o.next, ap (far s) o.here)

-- a slot that holds v, to which a span leads from u
pub noted_more : {p : Plan} {ss : List (Option ℕ)} {k head u d z : ℕ} {s m r : Search} (v : ℕ) → Looking p ss k head u d z s → slot ss k ≡ Some v → v < p.size → T (p.leads u v) → r ≡ m → m ≡ noted s v d → Looking p ss (k + 1) head u d z r
unfolding after
noted_more {p} {ss} {k} {head} {u} {d} {z} {s} v o e in' t at is =
    subst (λ r. Looking p ss (k + 1) head u d z r) (sym (at ∙ is))
    (cond_both (eqb (far s v) 65535) (record { distances = set s.distances v d; queue = record { items = s.queue.items ++ v ∷ [] } }) s (λ r. Looking p ss (k + 1) head u d z r)
    (λ q. let fresh = eqb-true (far s v) 65535 q in read_more (found_looking p ss k head u d z s o v fresh in' t) (λ w f. let x : w ≡ v = some_inj (sym f ∙ e) in subst (λ y. far (after p ss k head u d z s o v fresh in' t) y ≤ d) (sym x) (found_this p ss k head u d z s o v fresh in' t)))
    (λ q. read_more o (λ w f. let x : w ≡ v = some_inj (sym f ∙ e) in subst (λ y. far s y ≤ d) (sym x) (not_new o in' (eqb-false (far s v) 65535 q)))))
