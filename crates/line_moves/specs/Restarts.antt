-- What a restart at a line leaves on the links, and what the processes go on from.
use Rattle.std.specs.Prelude.{ℕ, List, ◌++◌, length, map, Option, Some, None}
use Rattle.std.specs.List.{range_with_len}
use Rattle.line_names.specs.declared.choices.Choice.{Choice}
use Rattle.line_names.specs.declared.messages.MsgName.{MsgName}
use Rattle.line_names.specs.declared.choices.Choice.TheVariants.{Check as AtCheck, Now}
use Rattle.line_names.specs.Lines.{choice_at}
use Rattle.line_tape.specs.declared.events.Event.{Event}
use Rattle.line_tape.specs.Event.{stored_state}
use Rattle.line_tape.specs.History.{Process, tape_at}
use Rattle.line_tape.specs.Transit.{in_transit_between}
use Rattle.line_rounds.specs.Tables.{between, table_of}
use Rattle.line_tape.specs.declared.modes.Mode.{Mode}
use Rattle.line_moves.specs.Modes.{copies_in}

-- the bytes stored at a choice: none where the process stands now
abbrev pub restored_state : List Event → Choice → Option (List ℕ)
restored_state tape (AtCheck c) = Some (stored_state tape c)
restored_state tape Now = None

-- what each process goes on from, on a line
abbrev pub restored_states : List Process → List Choice → List (Option (List ℕ))
restored_states history line =
    map (λ p. restored_state (tape_at history p) (choice_at line p))
    (range_with_len 0 (length history))

-- what the links hold after a restart at a line: each has one more copy of what is in transit on
-- it; none are kept in `Fifo`
abbrev pub restarted_copies : Mode → List Process → List Choice → List (List (List MsgName))
    → List (List (List MsgName))
restarted_copies mode history line copies =
    copies_in mode
    (table_of (length history) (λ p q. between copies p q ++ in_transit_between history line p q))
