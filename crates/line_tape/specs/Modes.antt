-- How links deliver: in the order of sending (Chandy and Lamport, ACM TOCS 3(1), 1985), or without
-- an order (Lai and Yang, Information Processing Letters 25(3), 1987).
use Rattle.std.specs.Prelude.{Bool, true, false}
use Rattle.line_tape.specs.declared.modes.Mode.{Mode}
use Rattle.line_tape.specs.declared.modes.Mode.TheVariants.{Fifo, Unordered}

-- links keep their order
abbrev pub is_fifo : Mode → Bool
is_fifo Fifo = true
is_fifo Unordered = false
