use Rattle.std.proofs.Common.{◌-◌, length}
use Rattle.line_rounds.proofs.RunLemmas.{IsCut}
use Rattle.line_rounds.proofs.runs.runs_by_sender.Given as goal

abbrev pub invariant-each : goal.invariant-each
invariant-each l = IsCut l.messages l.start l.runs.items

abbrev pub decreases-each : goal.decreases-each
decreases-each l = length l.messages - l.start
