-- Names of messages.
use Rattle.std.specs.Prelude.{Bool, ◌&&◌, ◌==◌}
use Rattle.line_names.specs.declared.messages.MsgName.{MsgName}

-- two names are the same
abbrev pub is_name : MsgName → MsgName → Bool
is_name a b = (a.from == b.from) && ((a.inc == b.inc) && (a.number == b.number))
