-- All queues are emptied, and what goes between two processes, of all that is in transit, is in
-- transit between them.
use Rattle.std.proofs.Common.{◌<◌, ◌++◌, ℕ, Bool, List, filter, map, length, sym, ap, ◌∙◌, subst}
use Rattle.std.proofs.Common.{arith}
use Rattle.line_names.specs.declared.choices.Choice.{Choice}
use Rattle.line_names.specs.declared.messages.MsgName.{MsgName}
use Rattle.line_tape.specs.declared.items.Item.{Item}
use Rattle.line_tape.specs.declared.items.Item.TheVariants.{Message}
use Rattle.line_tape.specs.History.{Process}
use Rattle.line_tape.specs.Transit.{goes_between}
use Rattle.line_laws.proofs.LetterLemmas.{open_are, parts}
use Rattle.line_moves.specs.Rooms.{QueueView}
use Rattle.line_moves.specs.Worlds.{AreQueues}
use Rattle.line_moves.proofs.CountLemmas.{none-between, AreQueues-cleared, AreRowsCleared-more}
use Rattle.line_moves.proofs.CountLemmas.{AreRowsCleared-start, HaveRoom-start}
use Rattle.line_moves.proofs.restarts.restart_links.Goals as goal

pub loop-p-init : goal.loop-p-init
loop-p-init c = AreRowsCleared-start c.count_messages.new.rows.items

pub loop-p-preserved : goal.loop-p-preserved
loop-p-preserved c =
    let old : List (List QueueView) = c.count_messages.new.rows.items in
    let rows : List (List QueueView) = c.loop-p.links-inside.rows.items in
    let p : ℕ = c.loop-p.p in
    let within : p < length rows = omega (arith, c.loop-p-test.true, c.loop-p.invariant.count) in
    AreRowsCleared-more p old rows c.loop-p.invariant within c.index_mut-row.result.now
    c.clear.new.self c.index_mut-row.ensures.value c.clear.ensures.empty c.clear.ensures.count
    c.clear.ensures.room

pub put_messages-requires-clause-queued : goal.put_messages-requires-clause-queued
put_messages-requires-clause-queued c =
    AreQueues-cleared c.loop-p.p c.count_messages.new.rows.items c.loop-p.links-inside.rows.items
    c.loop-p.invariant
    (omega (arith, c.loop-p-test.false, c.loop-p.invariant.count)) c.args.history.now.processes
    (subst (AreQueues c.args.history.now.processes) (sym (c.in_ok-count_messages.ensures.same ∙
    c.count_none.ensures.same ∙ c.links.view_is)) c.requires.queued)

pub returns-clause-put : goal.returns-clause-put
returns-clause-put c = λ p q p_within q_within.
    let history : List Process = c.args.history.now.processes in
    let line : List Choice = c.args._line.now in
    let goes : MsgName → Bool = goes_between history p q in
    let shown : List MsgName → List Item = λ ms. map (λ m. Message m) (filter goes ms) in
    c.put_messages.ensures.put p q p_within q_within
    ∙ ap (λ (items : List Item). items ++ shown c.args.messages.now)
    (none-between c.loop-p.p c.count_messages.new.rows.items c.loop-p.links-inside.rows.items
    c.loop-p.invariant (omega (arith, c.loop-p-test.false, c.loop-p.invariant.count)) p q)
    ∙ ap shown c.requires.transit
    ∙ ap (λ (ms : List MsgName). map (λ m. Message m) ms)
    (parts history line history (open_are history line) p q)

pub put_messages-requires-clause-room : goal.put_messages-requires-clause-room
put_messages-requires-clause-room c =
    HaveRoom-start c.args.history.now.processes c.args.messages.now c.count_messages.new.rows.items
    c.loop-p.links-inside.rows.items c.in_ok-count_messages.ensures.counted
    c.loop-p.invariant.room
