-- One message more is counted.
use Rattle.std.proofs.Common.{◌≡◌, ◌+◌, ◌<◌, ℕ, List, length, get_or, set, map, refl, sym, ap, ◌∙◌}
use Rattle.std.proofs.Common.{subst, arith}
use Rattle.std.proofs.lemmas.List.{length-map}
use Rattle.std.proofs.Math.Seq.{map-set_same}
use Rattle.line_names.specs.declared.messages.MsgName.{MsgName}
use Rattle.line_tape.specs.History.{Process}
use Rattle.line_rounds.proofs.ChannelLemmas.{addressee_within, sender_within}
use Rattle.line_moves.specs.Rooms.{items_held, AreCountedOnQueues, QueueView}
use Rattle.line_moves.specs.Worlds.{AreQueues}
use Rattle.line_moves.proofs.CountLemmas.{row-length, counted-before, count-first, AreCounted-more}
use Rattle.line_moves.proofs.CountLemmas.{AreCounted-none, AreCounted-start}
use Rattle.line_moves.proofs.restarts.count_messages.Goals.{in-Some+in_ok-count, in_default}
use Rattle.line_moves.proofs.restarts.count_messages.Goals as goal

pub loop-message-init : goal.loop-message-init
loop-message-init c = record {
  same = refl;
  counted = AreCounted-start c.args.history.now.processes
      c.args.messages.now c.args.rows.now.items c.requires.none;
}

pub index_mut-row-requires : goal.index_mut-row-requires
index_mut-row-requires c =
    let history : List Process = c.args.history.now.processes in
    let queued : AreQueues history (map items_held c.loop-message.rows.items) = subst
    (AreQueues history) (sym c.loop-message.invariant.same) c.requires.queued in
    let within = sender_within history c.message-item.result c.in-Some.to
    (sym c.addressee.ensures ∙ c.in-Some.is) in
    omega (
      arith,
      within,
      c.get.ensures.value,
      queued.shape.rows,
      length-map
          c.loop-message.rows.items items_held,
    )

pub count-requires-clause-to : goal.count-requires-clause-to
count-requires-clause-to c =
    let history : List Process = c.args.history.now.processes in
    let message : MsgName = c.message-item.result in
    let rows : List (List QueueView) = c.loop-message.rows.items in
    let named = sym c.addressee.ensures ∙ c.in-Some.is in
    let queued : AreQueues history (map items_held rows) = subst (AreQueues history)
    (sym c.loop-message.invariant.same) c.requires.queued in
    let from_within = sender_within history message c.in-Some.to named in
    let to_within = addressee_within history message c.in-Some.to named c.n-n.ensures.limits in
    let at : c.index_mut-row.result.now
    ≡ get_or rows message.from c.index_mut-row.result.now = c.index_mut-row.ensures.value ∙ ap
    (λ (k : ℕ). get_or rows k c.index_mut-row.result.now) c.get.ensures.value in
    omega (
      arith,
      to_within,
      row-length history rows queued message.from from_within
          c.index_mut-row.result.now at,
    )

pub loop-message-preserved : goal.loop-message-preserved
loop-message-preserved c =
    let history : List Process = c.args.history.now.processes in
    let names : List MsgName = c.args.messages.now in
    let i : ℕ = c.loop-message.message-index in
    let message : MsgName = c.message-item.result in
    let rows : List (List QueueView) = c.loop-message.rows.items in
    let queued : AreQueues history (map items_held rows) = subst (AreQueues history)
    (sym c.loop-message.invariant.same) c.requires.queued in
    elim c.match-addressee.branch [
      | in-Some+in_ok-count w ↦
          let old : List QueueView = w.index_mut-row.result.now in
          let new : List QueueView = w.count.new.self in
          let named = sym c.addressee.ensures ∙ w.in-Some.is in
          let from_within = sender_within history message w.in-Some.to named in
          let at : w.get.result ≡ message.from = w.get.ensures.value in
          let row_within : message.from < length rows = omega
          (arith, from_within, queued.shape.rows, length-map rows items_held) in
          let read : old ≡ get_or rows message.from old = w.index_mut-row.ensures.value ∙ ap
          (λ (k : ℕ). get_or rows k old) at in
          let written : c.match-addressee.rows.items ≡ set rows message.from new = ap
          (λ v. v.items) w.rows-is ∙ ap (λ (k : ℕ). set rows k new) at in
          record {
            same = ap (λ (xs : List (List QueueView)). map items_held xs) written ∙ map-set_same
                items_held rows message.from new old
                (w.in_ok-count.ensures.same ∙ ap items_held read) ∙ c.loop-message.invariant.same;
            counted = subst (AreCountedOnQueues history names (i + 1)) (sym written)
                (AreCounted-more history names i message c.loop-message-test.true c.message-item.is
                w.in-Some.to named rows old new row_within read w.in_ok-count.ensures.ok
                c.loop-message.invariant.counted);
          }
      | in_default w ↦ rw w.rows-is (record {
        same = c.loop-message.invariant.same;
        counted = AreCounted-none history names i message c.loop-message-test.true c.message-item.is
            (sym c.addressee.ensures ∙ w.in_default.is) rows c.loop-message.invariant.counted;
      })
    ]

pub count-requires-clause-fewer : goal.count-requires-clause-fewer
count-requires-clause-fewer c =
    let history : List Process = c.args.history.now.processes in
    let names : List MsgName = c.args.messages.now in
    let i : ℕ = c.loop-message.message-index in
    let message : MsgName = c.message-item.result in
    let rows : List (List QueueView) = c.loop-message.rows.items in
    let old : List QueueView = c.index_mut-row.result.now in
    let named = sym c.addressee.ensures ∙ c.in-Some.is in
    let queued : AreQueues history (map items_held rows) = subst (AreQueues history)
    (sym c.loop-message.invariant.same) c.requires.queued in
    let from_within = sender_within history message c.in-Some.to named in
    let row_within : message.from < length rows = omega
    (arith, from_within, queued.shape.rows, length-map rows items_held) in
    let read : old ≡ get_or rows message.from old = c.index_mut-row.ensures.value ∙ ap
    (λ (k : ℕ). get_or rows k old) c.get.ensures.value in
    let before = counted-before history names i message c.loop-message-test.true c.message-item.is
    c.in-Some.to named rows old old row_within read c.loop-message.invariant.counted in
    omega (
      arith,
      before,
      c.loop-message-test.true,
      count-first history names i message.from
          c.in-Some.to,
    )

pub returns-in_err-count-clause-same : goal.returns-in_err-count-clause-same
returns-in_err-count-clause-same c =
    let rows : List (List QueueView) = c.loop-message.rows.items in
    let old : List QueueView = c.index_mut-row.result.now in
    map-set_same items_held rows c.get.result c.count.new.self old (c.in_err-count.ensures.same ∙ ap
    items_held c.index_mut-row.ensures.value) ∙ c.loop-message.invariant.same

pub returns-clause-counted : goal.returns-clause-counted
returns-clause-counted c =
    let past : c.loop-message.message-index ≡ length c.args.messages.now = omega
    (arith, c.loop-message-test.false, c.loop-message.auto.message-index-end) in
    subst (λ (i : ℕ). AreCountedOnQueues c.args.history.now.processes c.args.messages.now i
    c.loop-message.rows.items) past c.loop-message.invariant.counted
