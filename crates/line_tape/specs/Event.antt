-- What the events of one tape say: its checks, the states that they store, and its sends.
use Rattle.std.specs.Prelude.{◌≡◌, ℕ, zero, suc, ◌<◌, ◌≤◌, Bool, true, false, if◌then◌else◌, List}
use Rattle.std.specs.Prelude.{[], ◌∷◌, length, slice_get, slice_index_or, Option, Some, None}
use Rattle.std.specs.List.{filter_map}
use Rattle.line_names.specs.declared.limits.TheConstants.{MOST_BODY}
use Rattle.line_tape.specs.declared.events.Event.{Event}
use Rattle.line_tape.specs.declared.events.Event.TheVariants.{Send, Recv, Check, Mark}
use Rattle.line_tape.specs.declared.limits.TheConstants.{MOST_STATE}

-- the event is a check
abbrev pub is_check : Event → Bool
is_check (Send to inc body) = false
is_check (Recv message) = false
is_check (Check state round) = true
is_check (Mark from round) = false

-- how many checks a tape has, its initial state not counted
abbrev pub checks : List Event → ℕ
checks [] = 0
checks (event ∷ rest) = if is_check event then suc (checks rest) else checks rest

-- the bytes that an event stores
abbrev pub state_of : Event → Option (List ℕ)
state_of (Send to inc body) = None
state_of (Recv message) = None
state_of (Check state round) = Some state
state_of (Mark from round) = None

-- the bytes stored with check c; none with the initial state
abbrev pub stored_state : List Event → ℕ → List ℕ
stored_state tape zero = []
stored_state tape (suc c) = slice_index_or (filter_map state_of tape) c []

-- the incarnation under which an event sends
abbrev pub incarnation_of : Event → Option ℕ
incarnation_of (Send to inc body) = Some inc
incarnation_of (Recv message) = None
incarnation_of (Check state round) = None
incarnation_of (Mark from round) = None

-- the incarnations under which a tape sent, send by send
abbrev pub incarnations_sent : List Event → List ℕ
incarnations_sent tape = filter_map incarnation_of tape

-- how many sends a tape has
abbrev pub sends : List Event → ℕ
sends tape = length (incarnations_sent tape)

-- the tape's send of that number, counted from 0, has that incarnation
abbrev pub Holds : List Event → ℕ → ℕ → Type 0
Holds tape inc number = slice_get (incarnations_sent tape) number ≡ Some inc

-- a check whose state is longer than a tape takes
abbrev pub HasLongState : Event → Type 0
HasLongState (Send to inc body) = ⊥
HasLongState (Recv message) = ⊥
HasLongState (Check state round) = MOST_STATE < length state
HasLongState (Mark from round) = ⊥

-- what the event carries is no longer than a tape takes
abbrev pub IsShort : Event → Type 0
IsShort (Send to inc body) = length body ≤ MOST_BODY
IsShort (Recv message) = Unit {0}
IsShort (Check state round) = length state ≤ MOST_STATE
IsShort (Mark from round) = Unit {0}

-- the processes that the event names are below n
abbrev pub NamesBelow : ℕ → Event → Type 0
NamesBelow n (Send to inc body) = to < n
NamesBelow n (Recv message) = message.from < n
NamesBelow n (Check state round) = Unit {0}
NamesBelow n (Mark from round) = from < n
