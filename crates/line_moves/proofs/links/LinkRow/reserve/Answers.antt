-- One queue more has room.
use Rattle.std.proofs.Common.{◌<◌, List, ℕ, length, ap, ◌∙◌, arith}
use Rattle.std.proofs.lemmas.List.{length-set}
use Rattle.std.proofs.Math.Seq.{map-set_same}
use Rattle.line_tape.specs.declared.items.Item.{Item}
use Rattle.line_moves.specs.Rooms.{QueueView, items_held}
use Rattle.line_moves.proofs.RoomLemmas.{rooms-more}
use Rattle.line_moves.proofs.links.LinkRow.reserve.Goals as goal

pub loop-q-preserved : goal.loop-q-preserved
loop-q-preserved c =
    let row : List QueueView = c.loop-q.self-inside.queues.items in
    let q : ℕ = c.loop-q.q in
    let held : QueueView → List Item = λ queue. queue.held in
    let new : QueueView = c.reserve.new.self in
    let within : q < length row = omega (arith, c.loop-q-test.true, c.loop-q.invariant.2) in
    let room : 0 < new.room = omega (arith, c.in_ok-reserve.ensures.ok) in (
      map-set_same held row q new c.index_mut-queue.result.now (c.in_ok-reserve.ensures.held ∙ ap
          held c.index_mut-queue.ensures.value) ∙ c.loop-q.invariant.0,
      rooms-more row q new within room c.loop-q.invariant.1,
      length-set row q new ∙ c.loop-q.invariant.2,
      c.loop-q.invariant.3,
    )

pub returns-in_err-reserve-clause-same : goal.returns-in_err-reserve-clause-same
returns-in_err-reserve-clause-same c =
    let row : List QueueView = c.loop-q.self-inside.queues.items in
    let held : QueueView → List Item = λ queue. queue.held in
    map-set_same held row c.loop-q.q c.reserve.new.self c.index_mut-queue.result.now
    (c.in_err-reserve.ensures.held ∙ ap held c.index_mut-queue.ensures.value)
    ∙ c.loop-q.invariant.0
    ∙ ap (λ (xs : List QueueView). items_held xs) c.self.view_is

pub invariant_of-self : goal.invariant_of-self
invariant_of-self c = λ unused. let used = c.loop-q.invariant.3 in absurd (cc)

pub invariant_of-self-in_err-reserve : goal.invariant_of-self-in_err-reserve
invariant_of-self-in_err-reserve c = λ unused. let used = c.loop-q.invariant.3 in absurd (cc)
