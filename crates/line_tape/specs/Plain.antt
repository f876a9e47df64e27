-- What a process shows of what is kept of it.
use Rattle.std.specs.Prelude.{ℕ}
use Rattle.line_tape.specs.declared.histories.ProcessTape.{ProcessTape}
use Rattle.line_tape.specs.History.{Process}

-- its incarnation and its events
abbrev pub process_kept : ProcessTape → Process
process_kept kept = record { incarnation = kept.incarnation; tape = kept.tape.events }

-- the room of its tape
abbrev pub tape_room : ProcessTape → ℕ
tape_room kept = kept.tape.room
