-- What is kept of rounds and of received messages: the kind of links that it is for, its open
-- round, and how it follows the tapes.
use Rattle.std.specs.Prelude.{List, Option}
use Rattle.line_tape.specs.History.{Process}
use Rattle.line_rounds.specs.Flags.{AreFlagged}
use Rattle.line_tape.specs.declared.modes.Mode.{Mode}
use Rattle.line_tape.specs.declared.modes.Mode.TheVariants.{Fifo, Unordered}
use Rattle.line_moves.specs.Openings.{OpenView, opened_turning}
use Rattle.line_moves.specs.Worlds.{IsPainted}
use Rattle.line_world.specs.declared.protocols.Protocol.{Protocol}
use Rattle.line_world.specs.declared.protocols.Protocol.TheVariants.{Markers, Colours}

-- the kind of links that it is for
abbrev pub mode_of : Protocol → Mode
mode_of (Markers running) = Fifo
mode_of (Colours turning colours received) = Unordered

-- the round that it keeps as open
abbrev pub open_round_of : Protocol → Option OpenView
open_round_of (Markers running) = running
open_round_of (Colours turning colours received) = opened_turning turning

-- the colours and the flags of sends follow the tapes: links in order need none
abbrev pub IsFollowing : List Process → Protocol → Type 0
IsFollowing history (Markers running) = Unit {0}
IsFollowing history (Colours turning colours received) =
    IsPainted history colours × AreFlagged history received
