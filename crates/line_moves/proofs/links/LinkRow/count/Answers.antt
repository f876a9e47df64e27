-- One message more is counted, and has room.
use Rattle.std.proofs.Common.{◌≡◌, ◌+◌, ◌<◌, List, ℕ, length, ap, ◌∙◌, arith}
use Rattle.std.proofs.lemmas.Result.{on_ok_weaker}
use Rattle.std.proofs.Math.Seq.{map-set_same}
use Rattle.line_tape.specs.declared.items.Item.{Item}
use Rattle.line_moves.specs.Rooms.{items_held, QueueView}
use Rattle.line_moves.proofs.CountLemmas.{queue-read, queue-written, queue-other}
use Rattle.line_moves.proofs.links.LinkRow.count.Goals as goal

pub count-requires : goal.count-requires
count-requires c =
    let row : List QueueView = c.self.inside.queues.items in
    let at : c.get.result ≡ c.args.to = c.get.ensures.value in
    let within : c.get.result < length row = omega
    (arith, at, c.requires.to, ap (λ (xs : List QueueView). length xs) c.self.view_is) in
    let old = queue-read row c.args.self.now c.get.result c.args.to c.self.view_is at
    c.index_mut-queue.result.now within c.index_mut-queue.ensures.value in
    omega (arith, c.requires.fewer, ap (λ (v : QueueView). v.counted) old)

pub returns-clause-same : goal.returns-clause-same
returns-clause-same c =
    let row : List QueueView = c.self.inside.queues.items in
    let held : QueueView → List Item = λ queue. queue.held in
    map-set_same held row c.get.result c.count.new.self c.index_mut-queue.result.now
    (c.count.ensures.held ∙ ap held c.index_mut-queue.ensures.value)
    ∙ ap (λ (xs : List QueueView). items_held xs) c.self.view_is

pub returns-clause-ok : goal.returns-clause-ok
returns-clause-ok c =
    let row : List QueueView = c.self.inside.queues.items in
    let at : c.get.result ≡ c.args.to = c.get.ensures.value in
    let within : c.get.result < length row = omega
    (arith, at, c.requires.to, ap (λ (xs : List QueueView). length xs) c.self.view_is) in
    let new : QueueView = c.count.new.self in
    let old = queue-read row c.args.self.now c.get.result c.args.to c.self.view_is at
    c.index_mut-queue.result.now within c.index_mut-queue.ensures.value in
    let written = queue-written row c.args.self.now c.get.result c.args.to c.self.view_is at new
    within in
    let before = ap (λ (v : QueueView). v.counted) old in
    on_ok_weaker c.count.result (λ counted. record {
      others = queue-other row c.args.self.now c.get.result c.args.to c.self.view_is at new;
      more = ap (λ (v : QueueView). v.counted) written ∙ counted.0 ∙ ap (λ (k : ℕ). k + 1) before;
      room = omega (arith, before, ap (λ (v : QueueView). v.room) written, counted.1);
    }) c.count.ensures.ok
