-- What becomes of the item that a delivery picks.
use Rattle.std.specs.Prelude.{ℕ, ◌==◌, nat_lt, Bool, true, false, not, if◌then◌else◌, List, [], ◌∷◌}
use Rattle.std.specs.Prelude.{◌++◌, slice_get, Option, Some, None}
use Rattle.std.specs.Option.{option_eq}
use Rattle.line_names.specs.declared.messages.MsgName.{MsgName}
use Rattle.line_tape.specs.declared.events.Event.{Event}
use Rattle.line_tape.specs.declared.events.Event.TheVariants.{Recv, Check, Mark}
use Rattle.line_tape.specs.declared.items.Item.{Item}
use Rattle.line_tape.specs.declared.items.Item.TheVariants.{Message, Marker}
use Rattle.line_tape.specs.Colours.{colour, message_colour}
use Rattle.line_tape.specs.Event.{incarnations_sent}
use Rattle.line_tape.specs.History.{Process, tape_at}
use Rattle.line_tape.specs.Rounds.{has_check_of}
use Rattle.line_tape.specs.Transit.{has_received}
use Rattle.line_moves.specs.declared.fates.Fate.{Fate}
use Rattle.line_moves.specs.declared.fates.Fate.TheVariants.{Taken as IsTaken, Stale as IsStale}
use Rattle.line_moves.specs.declared.fates.Fate.TheVariants.{Repeated as IsRepeated}
use Rattle.line_tape.specs.declared.modes.Mode.{Mode}
use Rattle.line_tape.specs.declared.modes.Mode.TheVariants.{Fifo, Unordered}

-- the sender's tape holds the message: its send of that number has that incarnation
abbrev pub is_held : List Process → MsgName → Bool
is_held history message =
    option_eq ◌==◌ (slice_get (incarnations_sent (tape_at history message.from)) message.number)
    (Some message.inc)

-- a copy is stale where no tape holds its message, and repeated where process p has received it;
-- all else is taken
abbrev pub fate_of : Mode → List Process → ℕ → MsgName → Fate
fate_of Fifo history p message = IsTaken
fate_of Unordered history p message =
    if not (is_held history message)
    then IsStale
    else if has_received (tape_at history p) message
    then IsRepeated
    else IsTaken

-- the round of the check that process p takes before it receives a message of a greater colour than
-- its own; on links in order there is none
abbrev pub forced_round : Mode → List Process → ℕ → MsgName → Option ℕ
forced_round Fifo history p message = None
forced_round Unordered history p message =
    if nat_lt (colour (tape_at history p)) (message_colour history message)
    then Some (message_colour history message)
    else None

-- the check that is forced, if one is
abbrev pub forced_check : Option ℕ → List ℕ → List Event
forced_check None state = []
forced_check (Some round) state = Check state (Some round) ∷ []

-- the events of the receiver, which takes the check that the message forces before the message
abbrev pub events_of : Fate → Option ℕ → List ℕ → MsgName → List Event
events_of IsTaken forced state message = forced_check forced state ++ Recv message ∷ []
events_of IsStale forced state message = []
events_of IsRepeated forced state message = []

-- a marker has process p take its check of the round first, if it has none
abbrev pub is_forced : List Process → ℕ → ℕ → Bool
is_forced history p round = not (has_check_of round (tape_at history p))

-- the events of process `to` by the marker of a round from another process
abbrev pub marker_events : Bool → ℕ → List ℕ → ℕ → List Event
marker_events true from state round = Check state (Some round) ∷ Mark from round ∷ []
marker_events false from state round = Mark from round ∷ []

-- the events of process `to` by an item from another process
abbrev pub events_taken : Mode → List Process → ℕ → ℕ → List ℕ → Item → List Event
events_taken mode history from to state (Message message) =
    events_of (fate_of mode history to message) (forced_round mode history to message) state message
events_taken mode history from to state (Marker round) =
    marker_events (is_forced history to round) from state round
