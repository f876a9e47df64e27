-- How a tape keeps its events: each in a few bytes, and beside them the bytes of bodies and of
-- small states, and the large states.
use Rattle.std.specs.Prelude.{◌≡◌, ◌<◌, ◌≤◌, ◌+◌, ℕ, suc, List, [], ◌∷◌, Option, Some, None, drop}
use Rattle.std.specs.Prelude.{slice_index_or, take, false, if◌then◌else◌}
use Rattle.line_names.specs.declared.limits.TheConstants.{MOST_BODY}
use Rattle.line_tape.specs.declared.events.Event.{Event}
use Rattle.line_tape.specs.declared.events.Event.TheVariants.{Send, Recv, Check, Mark}
use Rattle.line_tape.specs.declared.logs.KeptEvent.{KeptEvent}
use Rattle.line_tape.specs.declared.logs.KeptEvent.TheVariants.{Send as KeptSend, Recv as KeptRecv}
use Rattle.line_tape.specs.declared.logs.KeptEvent.TheVariants.{Check as KeptCheck}
use Rattle.line_tape.specs.declared.logs.KeptEvent.TheVariants.{LargeCheck as KeptLargeCheck}
use Rattle.line_tape.specs.declared.logs.KeptEvent.TheVariants.{Mark as KeptMark}

-- the event that is kept so, beside these bytes and states
abbrev pub event_from_kept : List ℕ → List (List ℕ) → KeptEvent → Event
event_from_kept bodies states (KeptSend to start inc len) =
    Send to inc (take len (drop start bodies))
event_from_kept bodies states (KeptRecv message) = Recv message
event_from_kept bodies states (KeptCheck start round len of_round) =
    Check (take len (drop start bodies)) (if of_round then Some round else None)
event_from_kept bodies states (KeptLargeCheck before round) =
    Check (slice_index_or states before []) round
event_from_kept bodies states (KeptMark from round) = Mark from round

-- its bytes and its state are among so many
abbrev pub IsKeptWithin : ℕ → ℕ → KeptEvent → Type 0
IsKeptWithin bytes states (KeptSend to start inc len) = start + len ≤ bytes
IsKeptWithin bytes states (KeptRecv message) = Unit {0}
IsKeptWithin bytes states (KeptCheck start round len of_round) = start + len ≤ bytes
IsKeptWithin bytes states (KeptLargeCheck before round) = before < states
IsKeptWithin bytes states (KeptMark from round) = Unit {0}

-- after so many bytes and states those of the events stand one after another, up to so many
abbrev pub IsLaid : List KeptEvent → ℕ → ℕ → ℕ → ℕ → Type 0
IsLaid [] byte state bytes states = (byte ≡ bytes) × (state ≡ states)
IsLaid (KeptSend to start inc len ∷ rest) byte state bytes states =
    (start ≡ byte) × (len ≤ MOST_BODY) × IsLaid rest (byte + len) state bytes states
IsLaid (KeptRecv message ∷ rest) byte state bytes states = IsLaid rest byte state bytes states
IsLaid (KeptCheck start round len of_round ∷ rest) byte state bytes states =
    (start ≡ byte) × (len ≤ MOST_BODY) × IsLaid rest (byte + len) state bytes states
IsLaid (KeptLargeCheck before round ∷ rest) byte state bytes states =
    (before ≡ state) × IsLaid rest byte (suc state) bytes states
IsLaid (KeptMark from round ∷ rest) byte state bytes states = IsLaid rest byte state bytes states

-- where the bytes of the first body or small state stand, or that number where there is none
abbrev pub first_byte : List KeptEvent → ℕ → ℕ
first_byte [] all = all
first_byte (KeptSend to start inc len ∷ rest) all = start
first_byte (KeptRecv message ∷ rest) all = first_byte rest all
first_byte (KeptCheck start round len of_round ∷ rest) all = start
first_byte (KeptLargeCheck before round ∷ rest) all = first_byte rest all
first_byte (KeptMark from round ∷ rest) all = first_byte rest all

-- where the first large state stands, or that number where there is none
abbrev pub first_state : List KeptEvent → ℕ → ℕ
first_state [] all = all
first_state (KeptSend to start inc len ∷ rest) all = first_state rest all
first_state (KeptRecv message ∷ rest) all = first_state rest all
first_state (KeptCheck start round len of_round ∷ rest) all = first_state rest all
first_state (KeptLargeCheck before round ∷ rest) all = before
first_state (KeptMark from round ∷ rest) all = first_state rest all

-- what a restart leaves of an event that is kept so
abbrev pub restarted_kept : KeptEvent → Option KeptEvent
restarted_kept (KeptSend to start inc len) = Some (KeptSend to start inc len)
restarted_kept (KeptRecv message) = Some (KeptRecv message)
restarted_kept (KeptCheck start round len of_round) = Some (KeptCheck start round len false)
restarted_kept (KeptLargeCheck before round) = Some (KeptLargeCheck before None)
restarted_kept (KeptMark from round) = None
