use Rattle.std.proofs.Common.{◌≡◌, ◌<◌, ◌≤◌, ℕ, true, Some}
use Rattle.std.specs.List.{slice_get}
use Rattle.line_names.specs.declared.messages.MsgName.{MsgName}
use Rattle.line_names.specs.Sets.{is_member}
use Rattle.line_tape.specs.declared.events.Event.TheVariants.{Recv}
use Rattle.line_catalogue.specs.Left.{start_at}
use Rattle.line_catalogue.proofs.olds.note_receipts.Given as goal

abbrev pub invariant-loop-i : goal.invariant-loop-i
invariant-loop-i l = record {
  kept : (p : ℕ) → is_member l.fn.senders p ≡ true → is_member l.senders p ≡ true;
  noted : (j : ℕ) (m : MsgName) → l.fn.receiver.place ≤ j → j < l.i
      → slice_get l.events j ≡ Some (Recv m) → m.number < start_at l.known.bases.items m.from
      → is_member l.senders m.from ≡ true;
}
