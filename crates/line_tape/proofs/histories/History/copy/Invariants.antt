use Rattle.std.proofs.Common.{◌≡◌, map, take}
use Rattle.line_tape.specs.Plain.{process_kept}
use Rattle.line_tape.proofs.histories.History.copy.Given as goal

abbrev pub invariant-loop-process : goal.invariant-loop-process
invariant-loop-process l =
    map process_kept l.processes.items ≡ take l.process-index l.self.processes
