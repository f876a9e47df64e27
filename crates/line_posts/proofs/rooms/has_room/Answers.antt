use Rattle.std.proofs.Common.{◌∙◌, List, subst, arith}
use Rattle.std.proofs.lemmas.List.{length-map}
use Rattle.line_posts.specs.Ends.{producer_end, End, IsFilled}
use Rattle.line_posts.proofs.EndLemmas.{room_more}
use Rattle.line_posts.proofs.rooms.has_room.Goals as goal

pub loop-q-preserved : goal.loop-q-preserved
loop-q-preserved g c = record {
  ends = c.has_slot.ensures.ends ∙ c.loop-q.invariant.ends;
  long = c.has_slot.ensures.long ∙ c.loop-q.invariant.long;
  room = room_more c.loop-q.outs.items c.has_slot.new.outs.items c.loop-q.q
      c.has_slot.ensures.others
      (c.has_slot.ensures.room c.if-not-has_slot.false) c.loop-q.invariant.room;
}

pub returns-clause-room : goal.returns-clause-room
returns-clause-room g c = λ t k lt. (let i = c.loop-q.invariant.long in let f = c.loop-q-test.false
    in let l = c.len-q-end.ensures in c.loop-q.invariant.room k (omega (arith, lt, i, f, l)))

pub returns-then-not-has_slot-clause-full : goal.returns-then-not-has_slot-clause-full
returns-then-not-has_slot-clause-full g c = λ f.
    (let within = c.loop-q-test.true in
    let long = c.has_slot.ensures.long in
    (c.loop-q.q, omega (arith, within, long), c.has_slot.ensures.full c.if-not-has_slot.true))

pub returns-then-not-has_slot-clause-filled : goal.returns-then-not-has_slot-clause-filled
returns-then-not-has_slot-clause-filled g c = λ f.
    (let within = c.loop-q-test.true in
    let end = c.len-q-end.ensures in
    let l = length-map c.args.outs.now.items producer_end in (
      c.loop-q.q,
      omega (arith, within, end, l),
      subst (λ (t : List (End _)). IsFilled t c.loop-q.q) c.loop-q.invariant.ends
          (c.has_slot.ensures.filled c.if-not-has_slot.true),
    ))
