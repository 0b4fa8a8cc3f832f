use Rattle.std.proofs.Common.{get_or, arith}
use Rattle.visits.proofs.Slots.{given_slot}
use Rattle.visits.proofs.Steps.{noted_more, none_more, all_found, room_left}
use Rattle.visits.proofs.Ends.{looked_all}
use Rattle.visits.proofs.search.Search.look.Goals as goal
use Rattle.visits.proofs.search.Search.look.Goals.{in-Some, in_default}

pub overflow_add-d : goal.overflow_add-d
overflow_add-d g c =
    let s = c.args.self.now in
    let o = c.requires.going in
    rw (c.from.ensures, c.deref.ensures.0) (omega (arith, o.soon c.args.head c.requires.early, c.requires.early, all_found o, o.few))

-- the closure in a slot is one of the plan
pub note-requires : goal.note-requires
note-requires g c =
    let b = c.args.spans.now in
    let o = c.loop-k.invariant.going in
    let f = given_slot (g.S.Spans.listing b) (get_or c.deref.result.now c.args.head 0) c.loop-k.k c.in-Some.v (g.met.S.Spans.sound b) c.in-Some.ensures in
    record { closure = omega (arith, f.2, o.few); room = λ q. omega (arith, room_left o c.in-Some.v f.2 q, o.few) }

pub loop-k-preserved : goal.loop-k-preserved
loop-k-preserved g c =
    let b = c.args.spans.now in
    elim c.match-slot_at.branch [
      | in-Some w ↦
          let f = given_slot (g.S.Spans.listing b) (get_or c.deref.result.now c.args.head 0) c.loop-k.k w.in-Some.v (g.met.S.Spans.sound b) w.in-Some.ensures in
          noted_more w.in-Some.v c.loop-k.invariant f.0 f.2 f.1 w.self-is w.note.ensures
      | in_default w ↦ none_more c.loop-k.invariant w.in_default.ensures w.self-is
    ]

pub returns : goal.returns
returns g c =
    let o = c.loop-k.invariant in
    record { going = looked_all (g.S.Spans.listing c.args.spans.now) (omega (arith, c.slots-k-end.ensures)) o; start = o.zero }
