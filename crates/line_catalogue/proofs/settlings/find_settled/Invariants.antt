use Rattle.std.proofs.Common.{◌≡◌, ◌<◌, ◌≤◌, ℕ, length}
use Rattle.std.specs.Prelude.{vec_len, vec_capacity}
use Rattle.line_tape.specs.Event.{sends}
use Rattle.line_tape.specs.Line.{events_before}
use Rattle.line_catalogue.specs.Left.{start_at, HaveLeft}
use Rattle.line_catalogue.proofs.OrderLemmas.{AreOpenBelow}
use Rattle.line_catalogue.proofs.settlings.find_settled.Given as goal

abbrev pub invariant-loop-p : goal.invariant-loop-p
invariant-loop-p l = record {
  moved : length l.moved.items ≡ l.p;
  len : vec_len l.moved ≡ l.p;
  room : l.n ≤ vec_capacity l.moved;
  before : (p : ℕ) → start_at l.moved.items p ≤ sends (events_before l.history.processes l.line p);
  held : (p : ℕ) → p < l.p
      → HaveLeft l.history.processes l.line p (start_at l.moved.items p) l.messages.items;
  below : AreOpenBelow l.history.processes l.line l.messages.items l.p 0;
}
