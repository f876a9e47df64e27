-- One process more.
use Rattle.std.proofs.Common.{◌≡◌, ◌++◌, ℕ, List, arith, subst}
use Rattle.line_names.specs.declared.choices.Choice.{Choice}
use Rattle.line_tape.specs.declared.events.Event.{Event}
use Rattle.line_tape.specs.History.{Process}
use Rattle.line_tape.specs.Line.{events_before}
use Rattle.line_tape.specs.Received.{with_seen, seen_below, AreTold}
use Rattle.line_tape.proofs.ReceivedLemmas.{seen-all, seen-further, told-same}
use Rattle.line_tape.proofs.flags.ReceivedFlags.mark.Goals as goal

pub loop-receiver-preserved : goal.loop-receiver-preserved
loop-receiver-preserved c =
    let history : List Process = c.args.history.now.processes in
    let line : List Choice = c.args.line.now in
    let r : ℕ = c.loop-receiver.receiver in
    let at : c.unwrap-q.result ≡ r = (rw c.unwrap-q.ensures at c.try_new.ensures).1 in
    let told : AreTold history line
    (with_seen (seen_below history line r) r
    (seen_below history line r r ++ events_before history line r))
    c.add_receipts.new.received.items = subst
    (λ q. AreTold history line
    (with_seen (seen_below history line r) q
    (seen_below history line r q ++ events_before history line q))
    c.add_receipts.new.received.items) at
    (c.add_receipts.ensures.told (seen_below history line r) c.loop-receiver.invariant) in
    told-same history line _ _ c.add_receipts.new.received.items (seen-further history line r) told

pub returns : goal.returns
returns c =
    let history : List Process = c.args.history.now.processes in
    let line : List Choice = c.args.line.now in
    let r : ℕ = c.loop-receiver.receiver in
    let before : ℕ → List Event = λ q. events_before history line q in
    told-same history line
    (seen_below history line r) before c.loop-receiver.self-inside.senders.items (λ to. seen-all
    history line r to (omega (arith, c.n-n.ensures.value))) c.loop-receiver.invariant
