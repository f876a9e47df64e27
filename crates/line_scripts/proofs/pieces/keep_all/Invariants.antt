use Rattle.std.proofs.Common.{◌≡◌, ◌+◌, length}
use Rattle.line_scripts.specs.Pieces.{with_commands}
use Rattle.line_scripts.specs.Scripts.{commands_from}
use Rattle.line_scripts.proofs.pieces.keep_all.Given as goal

abbrev pub invariant-records : goal.invariant-records
invariant-records l =
    (with_commands l.fn.commands (commands_from l.n (length l.fn.commands + l.first) l.fn.records)
    ≡ with_commands l.commands (commands_from l.n (length l.commands + l.first) l.records))

abbrev pub decreases-records : goal.decreases-records
decreases-records l = length l.records
