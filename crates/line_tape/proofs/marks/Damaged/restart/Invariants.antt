use Rattle.std.proofs.Common.{◌≡◌, filter, length}
use Rattle.line_names.specs.declared.choices.Choice.TheVariants.{Check as AtCheck}
use Rattle.line_tape.specs.Marked.{checks_marked, AreNumberedBelow}
use Rattle.line_tape.specs.Restart.{is_kept}
use Rattle.line_tape.proofs.marks.Damaged.restart.Given as goal

abbrev pub invariant-loop-check : goal.invariant-loop-check
invariant-loop-check l = record {
  kept : filter (is_kept (AtCheck l.last)) (checks_marked l.self-inside.numbers.entries)
      ≡ filter (is_kept (AtCheck l.last)) l.fn.self;
  numbered : AreNumberedBelow l.self-inside.next l.self-inside.numbers.entries;
}

abbrev pub decreases-loop-check : goal.decreases-loop-check
decreases-loop-check l = length l.self-inside.numbers.entries
