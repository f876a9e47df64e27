use Rattle.std.proofs.Common.{◌≡◌, ◌++◌, List, length, take}
use Rattle.line_names.specs.declared.messages.MsgName.{MsgName}
use Rattle.line_tape.specs.Transit.{names_received}
use Rattle.line_catalogue.specs.Left.{AreIn}
use Rattle.line_catalogue.proofs.numbers.add_receipts.Given as goal

abbrev pub invariant-loop-i : goal.invariant-loop-i
invariant-loop-i l = record {
  count : length l.rows.items ≡ length l.fn.rows.items;
  added : (names : List MsgName) → AreIn names l.ends l.fn.rows.items
      → AreIn (names ++ names_received (take l.i l.events)) l.ends l.rows.items;
}
