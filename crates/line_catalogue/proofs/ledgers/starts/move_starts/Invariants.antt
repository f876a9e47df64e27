use Rattle.std.proofs.Common.{◌≡◌, ◌<◌, ℕ, length}
use Rattle.line_tape.specs.Event.{sends}
use Rattle.line_tape.specs.Line.{events_before}
use Rattle.line_catalogue.specs.Left.{start_at}
use Rattle.line_catalogue.proofs.ledgers.starts.move_starts.Given as goal

abbrev pub invariant-loop-q : goal.invariant-loop-q
invariant-loop-q l = record {
  count : length l.starts.items ≡ length l.history.processes;
  moved : (p : ℕ) → p < l.q
      → start_at l.starts.items p ≡ sends (events_before l.history.processes l.line p);
}
