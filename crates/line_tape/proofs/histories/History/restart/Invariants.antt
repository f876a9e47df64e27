use Rattle.std.proofs.Common.{◌≡◌, ◌≤◌, ℕ, get_or, map}
use Rattle.line_tape.specs.Plain.{process_kept, tape_room}
use Rattle.line_tape.specs.Restart.{restarted_process}
use Rattle.line_tape.proofs.EachLemmas.{so_far}
use Rattle.line_tape.proofs.histories.History.restart.Given as goal

abbrev pub invariant-loop-p : goal.invariant-loop-p
invariant-loop-p l =
    (map process_kept l.self-inside.processes.items
    ≡ so_far restarted_process l.fn.self.processes l.line l.p) × ((q : ℕ)
    → get_or l.fn.self.rooms q 0 ≤ get_or (map tape_room l.self-inside.processes.items) q 0)
