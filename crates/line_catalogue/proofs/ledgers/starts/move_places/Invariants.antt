use Rattle.std.proofs.Common.{◌≡◌, ◌<◌, ℕ, length}
use Rattle.line_names.specs.Lines.{choice_at}
use Rattle.line_tape.specs.Front.{place}
use Rattle.line_tape.specs.History.{tape_at}
use Rattle.line_catalogue.specs.Left.{place_at}
use Rattle.line_catalogue.proofs.ledgers.starts.move_places.Given as goal

abbrev pub invariant-loop-q : goal.invariant-loop-q
invariant-loop-q l = record {
  count : length l.places.items ≡ length l.history.processes;
  moved : (p : ℕ) → p < l.q
      → place_at l.places.items p ≡ place (tape_at l.history.processes p) (choice_at l.line p);
}
