-- One queue more has the item, or is its own.
use Rattle.std.proofs.Common.{◌<◌, List, ℕ, length, sym, ap, ◌∙◌, arith}
use Rattle.line_tape.specs.declared.items.Item.{Item}
use Rattle.line_moves.specs.Queues.{with_on_others}
use Rattle.line_moves.specs.Rooms.{QueueView, items_held}
use Rattle.line_moves.proofs.RoomLemmas.{AreSent, AreSent-end, AreSent-own, AreSent-put}
use Rattle.line_moves.proofs.links.LinkRow.push_to_others.Goals.{then-q-get, else-q-get}
use Rattle.line_moves.proofs.links.LinkRow.push_to_others.Goals as goal

pub loop-q-preserved : goal.loop-q-preserved
loop-q-preserved c =
    let own : ℕ = c.args.own in
    let item : Item = c.args.item in
    let q : ℕ = c.loop-q.q in
    let before : List QueueView = c.self.inside.queues.items in
    let row : List QueueView = c.loop-q.self-inside.queues.items in
    let is : AreSent own item q before row = c.loop-q.invariant in
    let within : q < length row = omega (arith, c.loop-q-test.true, is.count) in
    elim c.if-q-get.branch [
      | then-q-get w ↦
          rw w.self-inside-is
          (AreSent-put own item q before row is within w.index_mut-queue.result.now
          w.push_reserved.new.self (λ e. w.if-q-get.true (e ∙ sym c.get.ensures.value))
          w.index_mut-queue.ensures.value w.push_reserved.ensures.held)
      | else-q-get w ↦
          rw w.self-inside-is
          (AreSent-own own item q before row is within (w.if-q-get.false ∙ c.get.ensures.value))
    ]

pub returns : goal.returns
returns c =
    AreSent-end c.args.own c.args.item c.loop-q.q c.self.inside.queues.items
    c.loop-q.self-inside.queues.items c.loop-q.invariant
    (omega (arith, c.loop-q-test.false, c.loop-q.invariant.count))
    ∙ ap (λ (xs : List QueueView). with_on_others (items_held xs) c.args.own c.args.item)
    c.self.view_is
