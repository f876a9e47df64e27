use Rattle.std.proofs.Common.{◌≡◌, ◌<◌, ◌≤◌, ℕ, length}
use Rattle.std.specs.Prelude.{vec_len, vec_capacity}
use Rattle.line_tape.specs.Event.{sends}
use Rattle.line_tape.specs.Line.{events_before}
use Rattle.line_catalogue.specs.Left.{start_at}
use Rattle.line_catalogue.proofs.ends.ends_before.Given as goal

abbrev pub invariant-loop-q : goal.invariant-loop-q
invariant-loop-q l = record {
  count : length l.ends.items ≡ l.q;
  len : vec_len l.ends ≡ l.q;
  room : l.n ≤ vec_capacity l.ends;
  started : (p : ℕ) → start_at l.ends.items p ≤ start_at l.starts p;
  since : (p number : ℕ) → start_at l.ends.items p ≤ number → p < l.q
      → number < sends (events_before l.history.processes l.line p) → start_at l.starts p ≤ number;
  before : (p : ℕ) → start_at l.ends.items p ≤ sends (events_before l.history.processes l.line p);
}
