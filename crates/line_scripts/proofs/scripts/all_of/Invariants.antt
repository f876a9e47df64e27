use Rattle.std.proofs.Common.{◌≡◌, ◌++◌, length}
use Rattle.line_scripts.proofs.scripts.all_of.Given as goal

abbrev pub invariant-commands : goal.invariant-commands
invariant-commands l = l.fn.commands ≡ l.all.items ++ l.commands

abbrev pub decreases-commands : goal.decreases-commands
decreases-commands l = length l.commands
