use Rattle.std.proofs.Common.{◌≡◌, ◌<◌, ℕ, length}
use Rattle.line_tape.specs.Transit.{names_received}
use Rattle.line_catalogue.specs.Left.{AreIn, events_between, place_at}
use Rattle.line_catalogue.proofs.candidates.candidates.Given as goal

abbrev pub invariant-loop-receiver : goal.invariant-loop-receiver
invariant-loop-receiver l = record {
  count : length l.rows.items ≡ length l.history.processes;
  behind : (q : ℕ) → q < l.receiver → AreIn (names_received
      (events_between l.history.processes l.line q (place_at l.places q))) l.ends l.rows.items;
}
