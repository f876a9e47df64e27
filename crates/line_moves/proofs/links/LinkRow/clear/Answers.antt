-- One queue more is emptied.
use Rattle.std.proofs.Common.{◌<◌, List, ℕ, length, arith}
use Rattle.line_moves.specs.Rooms.{QueueView}
use Rattle.line_moves.proofs.CountLemmas.{AreCleared-end, AreCleared-more}
use Rattle.line_moves.proofs.links.LinkRow.clear.Goals as goal

pub loop-q-preserved : goal.loop-q-preserved
loop-q-preserved c =
    let before : List QueueView = c.self.inside.queues.items in
    let row : List QueueView = c.loop-q.self-inside.queues.items in
    let q : ℕ = c.loop-q.q in
    let within : q < length row = omega (arith, c.loop-q-test.true, c.loop-q.invariant.count) in
    AreCleared-more q before row c.loop-q.invariant within c.index_mut-queue.result.now
    c.clear.new.self c.index_mut-queue.ensures.value c.clear.ensures.held c.clear.ensures.room

pub invariant_of-self : goal.invariant_of-self
invariant_of-self c = λ unused. AreCleared-end c.loop-q.q c.self.inside.queues.items
    c.loop-q.self-inside.queues.items c.loop-q.invariant
    (omega (arith, c.loop-q-test.false, c.loop-q.invariant.count))

pub returns-after-loop-q-clause-empty : goal.returns-after-loop-q-clause-empty
returns-after-loop-q-clause-empty c = AreCleared-end c.loop-q.q c.self.inside.queues.items
    c.loop-q.self-inside.queues.items c.loop-q.invariant
    (omega (arith, c.loop-q-test.false, c.loop-q.invariant.count))
