use Rattle.std.proofs.Common.{◌≡◌, ◌++◌, ℕ, List, length, take}
use Rattle.line_tape.specs.declared.events.Event.{Event}
use Rattle.line_tape.specs.Line.{events_before}
use Rattle.line_tape.specs.Received.{with_seen, AreTold}
use Rattle.line_tape.specs.Transit.{names_received}
use Rattle.line_tape.proofs.ReceivedLemmas.{receipts_of}
use Rattle.line_tape.proofs.flags.add_receipts.Given as goal

abbrev pub invariant-loop-i : goal.invariant-loop-i
invariant-loop-i l = record {
  count : length l.received.items ≡ length l.fn.received.items;
  told : (seen : ℕ → List Event) → AreTold l.history.processes l.line seen l.fn.received.items
      → AreTold l.history.processes l.line (with_seen seen l.q (seen l.q ++ take l.i (receipts_of
      (names_received (events_before l.history.processes l.line l.q))))) l.received.items;
}
