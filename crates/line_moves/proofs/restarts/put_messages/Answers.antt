-- One message more is put behind its link.
use Rattle.std.proofs.Common.{◌≡◌, ◌+◌, ◌<◌, ◌++◌, ◌∷◌, ℕ, List, [], length, get_or, set, map}
use Rattle.std.proofs.Common.{filter, refl, sym, ap, ◌∙◌, subst, arith}
use Rattle.std.proofs.lemmas.List.{length-map, take_all}
use Rattle.line_names.specs.declared.messages.MsgName.{MsgName}
use Rattle.line_tape.specs.declared.items.Item.{Item}
use Rattle.line_tape.specs.declared.items.Item.TheVariants.{Message}
use Rattle.line_tape.specs.History.{Process}
use Rattle.line_tape.specs.Transit.{goes_between}
use Rattle.line_rounds.specs.Tables.{between, with_list}
use Rattle.line_rounds.proofs.ChannelLemmas.{addressee_within, sender_within, ArePut-more}
use Rattle.line_rounds.proofs.ChannelLemmas.{ArePut-none, ArePut-start}
use Rattle.line_moves.specs.Rooms.{items_held, HaveRoom, QueueView}
use Rattle.line_moves.specs.Worlds.{AreQueues}
use Rattle.line_moves.proofs.RoomLemmas.{map-changed}
use Rattle.line_moves.proofs.WorldLemmas.{AreQueues-put}
use Rattle.line_moves.proofs.CountLemmas.{room-there, row-length, HaveRoom-more, HaveRoom-none}
use Rattle.line_moves.proofs.restarts.put_messages.Goals.{in-Some, in_default}
use Rattle.line_moves.proofs.restarts.put_messages.Goals as goal

pub loop-message-init : goal.loop-message-init
loop-message-init c = record {
  queued = c.requires.queued;
  put = ArePut-start (λ m. Message m) c.args.history.now.processes
      (map items_held c.args.rows.now.items) c.args.messages.now c.requires.queued.shape;
  room = c.requires.room;
}

pub index_mut-row-requires : goal.index_mut-row-requires
index_mut-row-requires c =
    let history : List Process = c.args.history.now.processes in
    let queued : AreQueues history
    (map items_held c.loop-message.rows.items) = c.loop-message.invariant.queued in
    let within = sender_within history c.message-item.result c.in-Some.to
    (sym c.addressee.ensures ∙ c.in-Some.is) in
    omega (
      arith,
      within,
      c.get.ensures.value,
      queued.shape.rows,
      length-map
          c.loop-message.rows.items items_held,
    )

pub push_reserved-requires-clause-to : goal.push_reserved-requires-clause-to
push_reserved-requires-clause-to c =
    let history : List Process = c.args.history.now.processes in
    let message : MsgName = c.message-item.result in
    let rows : List (List QueueView) = c.loop-message.rows.items in
    let named = sym c.addressee.ensures ∙ c.in-Some.is in
    let queued : AreQueues history (map items_held rows) = c.loop-message.invariant.queued in
    let from_within = sender_within history message c.in-Some.to named in
    let to_within = addressee_within history message c.in-Some.to named c.n-n.ensures.limits in
    let at : c.index_mut-row.result.now
    ≡ get_or rows message.from c.index_mut-row.result.now = c.index_mut-row.ensures.value ∙ ap
    (λ (k : ℕ). get_or rows k c.index_mut-row.result.now) c.get.ensures.value in
    omega (
      arith,
      to_within,
      row-length history rows queued message.from from_within
          c.index_mut-row.result.now at,
    )

pub push_reserved-requires-clause-room : goal.push_reserved-requires-clause-room
push_reserved-requires-clause-room c =
    let history : List Process = c.args.history.now.processes in
    let names : List MsgName = c.args.messages.now in
    let i : ℕ = c.loop-message.message-index in
    let message : MsgName = c.message-item.result in
    let rows : List (List QueueView) = c.loop-message.rows.items in
    let old : List QueueView = c.index_mut-row.result.now in
    let queued : AreQueues history (map items_held rows) = c.loop-message.invariant.queued in
    let named = sym c.addressee.ensures ∙ c.in-Some.is in
    let from_within = sender_within history message c.in-Some.to named in
    let row_within : message.from < length rows = omega
    (arith, from_within, queued.shape.rows, length-map rows items_held) in
    let read : old ≡ get_or rows message.from old = c.index_mut-row.ensures.value ∙ ap
    (λ (k : ℕ). get_or rows k old) c.get.ensures.value in
    room-there history names i message c.loop-message-test.true c.message-item.is c.in-Some.to named
    rows old old row_within read c.loop-message.invariant.room

pub loop-message-preserved : goal.loop-message-preserved
loop-message-preserved c =
    let history : List Process = c.args.history.now.processes in
    let before : List (List (List Item)) = map items_held c.args.rows.now.items in
    let names : List MsgName = c.args.messages.now in
    let i : ℕ = c.loop-message.message-index in
    let message : MsgName = c.message-item.result in
    let rows : List (List QueueView) = c.loop-message.rows.items in
    let links : List (List (List Item)) = map items_held rows in
    let queued : AreQueues history links = c.loop-message.invariant.queued in
    elim c.match-addressee.branch [
      | in-Some w ↦
          let to : ℕ = w.in-Some.to in
          let old : List QueueView = w.index_mut-row.result.now in
          let new : List QueueView = w.push_reserved.new.self in
          let named = sym c.addressee.ensures ∙ w.in-Some.is in
          let from_within = sender_within history message to named in
          let to_within = addressee_within history message to named c.n-n.ensures.limits in
          let at : w.get.result ≡ message.from = w.get.ensures.value in
          let row_within : message.from < length rows = omega
          (arith, from_within, queued.shape.rows, length-map rows items_held) in
          let read : old ≡ get_or rows message.from old = w.index_mut-row.ensures.value ∙ ap
          (λ (k : ℕ). get_or rows k old) at in
          let written : c.match-addressee.rows.items ≡ set rows message.from new = ap
          (λ v. v.items) w.rows-is ∙ ap (λ (k : ℕ). set rows k new) at in
          let with_item : List (List Item)
          → List (List Item) = λ row. set row to (get_or row to [] ++ Message message ∷ []) in
          let put : map items_held c.match-addressee.rows.items ≡ with_list links message.from to
          (between links message.from to ++ Message message ∷ []) =
          ap (λ (xs : List (List QueueView)). map items_held xs) written ∙ map-changed items_held
          rows message.from [] old new with_item row_within read w.push_reserved.ensures.items
          in
          record {
            queued = subst (AreQueues history) (sym put) (AreQueues-put history links queued
                message.from to from_within to_within message refl);
            put = ArePut-more
                (λ m. Message m) history before names i links message c.loop-message-test.true
                c.message-item.is c.loop-message.invariant.put to
                (map items_held c.match-addressee.rows.items) named to_within put;
            room = subst (HaveRoom history names (i + 1)) (sym written)
                (HaveRoom-more history names i message c.loop-message-test.true c.message-item.is to
                named rows old new row_within read w.push_reserved.ensures.others
                w.push_reserved.ensures.room c.loop-message.invariant.room);
          }
      | in_default w ↦
          let none = sym c.addressee.ensures ∙ w.in_default.is in
          rw w.rows-is (record {
            queued = queued;
            put = ArePut-none (λ m. Message m) history before names i links message
                c.loop-message-test.true c.message-item.is c.loop-message.invariant.put none;
            room = HaveRoom-none history names i message c.loop-message-test.true c.message-item.is
                none rows c.loop-message.invariant.room;
          })
    ]

pub returns-clause-put : goal.returns-clause-put
returns-clause-put c = λ p q p_within q_within.
    let history : List Process = c.args.history.now.processes in
    c.loop-message.invariant.put.put p q p_within q_within
    ∙ ap (λ (names : List MsgName). between (map items_held c.args.rows.now.items) p q
    ++ map (λ m. Message m) (filter (goes_between history p q) names)) (take_all
    c.loop-message.message-index c.args.messages.now (omega (arith, c.loop-message-test.false)))
