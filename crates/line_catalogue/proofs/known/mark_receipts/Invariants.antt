use Rattle.std.proofs.Common.{◌≡◌, ◌<◌, ◌≤◌, ℕ, true, false, get_or, Some}
use Rattle.std.specs.List.{slice_get}
use Rattle.line_tape.specs.declared.events.Event.{Event}
use Rattle.line_catalogue.specs.Known.{AreKnown, IsReceiptMarked}
use Rattle.line_catalogue.proofs.known.mark_receipts.Given as goal

abbrev pub invariant-loop-i : goal.invariant-loop-i
invariant-loop-i l = record {
  known : AreKnown l.history.processes l.line l.bases l.starts l.fn.marks
      → AreKnown l.history.processes l.line l.bases l.starts l.marks;
  kept : (i : ℕ) → get_or l.fn.marks i false ≡ true → get_or l.marks i false ≡ true;
  noted : (j : ℕ) (event : Event) → l.fn.receiver.place ≤ j → j < l.i → slice_get l.events j ≡ Some
      event → IsReceiptMarked l.history.processes l.bases l.starts l.marks l.fn.receiver.p event;
}
