-- What is in transit at a line, from each process to each.
use Rattle.std.specs.Prelude.{List, length}
use Rattle.line_names.specs.declared.choices.Choice.{Choice}
use Rattle.line_names.specs.declared.messages.MsgName.{MsgName}
use Rattle.line_tape.specs.History.{Process}
use Rattle.line_tape.specs.Transit.{in_transit_between}
use Rattle.line_rounds.specs.Tables.{table_of}

-- what is in transit at a line, from each process to each
abbrev pub channels_at : List Process → List Choice → List (List (List MsgName))
channels_at history line = table_of (length history) (in_transit_between history line)
