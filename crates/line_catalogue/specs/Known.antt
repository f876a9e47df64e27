-- Marks at sends that are received before a line: they are sound, and have what is received between
-- two lines.
use Rattle.std.specs.Prelude.{◌≡◌, ℕ, ◌+◌, ◌<◌, ◌≤◌, Bool, false, true, List, length, drop}
use Rattle.std.specs.Prelude.{Contains, slice_index_or}
use Rattle.std.specs.List.Sorted.{IsNonDecreasing}
use Rattle.line_names.specs.declared.choices.Choice.{Choice}
use Rattle.line_names.specs.declared.messages.MsgName.{MsgName}
use Rattle.line_names.specs.Sets.{is_member}
use Rattle.line_tape.specs.declared.events.Event.{Event}
use Rattle.line_tape.specs.declared.events.Event.TheVariants.{Recv}
use Rattle.line_tape.specs.Event.{sends}
use Rattle.line_tape.specs.Fit.{IsSentTo}
use Rattle.line_tape.specs.History.{Process}
use Rattle.line_tape.specs.Line.{events_before}
use Rattle.line_tape.specs.Transit.{has_received}
use Rattle.line_catalogue.specs.Left.{place_at, start_at}

-- whatever process p sent under that number is received before the line
abbrev pub IsReceived : List Process → List Choice → ℕ → ℕ → Type 0
IsReceived history line p number =
    (q : ℕ) (message : MsgName) → message.from ≡ p → message.number ≡ number
    → IsSentTo history q message
    → has_received (events_before history line q) message ≡ true

-- whatever process p sent under that number isn't received before the line
abbrev pub IsUnreceived : List Process → List Choice → ℕ → ℕ → Type 0
IsUnreceived history line p number =
    (q : ℕ) (message : MsgName) → message.from ≡ p → message.number ≡ number
    → IsSentTo history q message
    → has_received (events_before history line q) message ≡ false

-- what is marked of process p's sends from `base` on is received before the line
abbrev pub AreReceived : List Process → List Choice → ℕ → ℕ → List Bool → Type 0
AreReceived history line p base marks =
    (k : ℕ) → slice_index_or marks k false ≡ true → IsReceived history line p (base + k)

-- the mark of each of these messages of process p, whose marks begin at `base`, tells whether it is
-- received before the line
abbrev pub AreMarksExact : List Process → List Choice → ℕ → ℕ → List Bool → List MsgName → Type 0
AreMarksExact history line p base marks left =
    (q k : ℕ) (message : MsgName) → Contains left message → message.from ≡ p
    → message.number ≡ base + k → k < length marks → IsSentTo history q message
    → has_received (events_before history line q) message ≡ slice_index_or marks k false

-- so does the mark of each message of process p that it sent before the line and not below `end`
abbrev pub AreMarksExactSince : List Process → List Choice → ℕ → ℕ → ℕ → List Bool → Type 0
AreMarksExactSince history line p end base marks =
    (q k : ℕ) (message : MsgName) → message.from ≡ p → end ≤ message.number
    → message.number < sends (events_before history line p) → message.number ≡ base + k
    → k < length marks → IsSentTo history q message
    → has_received (events_before history line q) message ≡ slice_index_or marks k false

-- none of these messages of process p from before its base is received before the line
abbrev pub AreOldUnreceived : List Process → List Choice → ℕ → ℕ → List MsgName → Type 0
AreOldUnreceived history line p base left =
    (q : ℕ) (message : MsgName) → Contains left message → message.from ≡ p → message.number < base
    → IsSentTo history q message
    → has_received (events_before history line q) message ≡ false

-- the marks of each process stand from its start up to the start of the next one
pub record AreMarkRows (history : List Process) (starts : List ℕ) (marks : List Bool) : Type 0 where
  pub count : length starts ≡ length history + 1
  pub sorted : IsNonDecreasing starts
  pub within : (p : ℕ) → start_at starts p ≤ length marks

-- the mark after k others of process p is set
abbrev pub HasMark : List ℕ → List Bool → ℕ → ℕ → Type 0
HasMark starts marks p k =
    (start_at starts p + k < start_at starts (p + 1))
    × (slice_index_or marks (start_at starts p + k) false ≡ true)

-- what is marked of each process's sends from its base on is received before the line
abbrev pub AreKnown : List Process → List Choice → List ℕ → List ℕ → List Bool → Type 0
AreKnown history line bases starts marks =
    (p k : ℕ) → p < length history → HasMark starts marks p k
    → IsReceived history line p (start_at bases p + k)

-- what process q receives by the event is marked, if it was sent to q and there is a mark for it
abbrev pub IsReceiptMarked : List Process → List ℕ → List ℕ → List Bool → ℕ → Event → Type 0
IsReceiptMarked history bases starts marks q event =
    (k : ℕ) (message : MsgName) → event ≡ Recv message → IsSentTo history q message
    → message.number ≡ start_at bases message.from + k
    → start_at starts message.from + k < start_at starts (message.from + 1)
    → slice_index_or marks (start_at starts message.from + k) false ≡ true

-- so is all that process q receives after its first `place` events and before the line
abbrev pub AreReceiptsMarkedSince : List Process → List Choice → List ℕ → List ℕ → List Bool → ℕ → ℕ
    → Type 0
AreReceiptsMarkedSince history line bases starts marks q place =
    (event : Event) → Contains (drop place (events_before history line q)) event
    → IsReceiptMarked history bases starts marks q event

-- so is all that any process receives after its place and before the line
abbrev pub AreAllReceiptsMarked : List Process → List Choice → List ℕ → List ℕ → List ℕ → List Bool
    → Type 0
AreAllReceiptsMarked history line places bases starts marks =
    (q : ℕ) → q < length history
    → AreReceiptsMarkedSince history line bases starts marks q (place_at places q)

-- the senders have that of each of these messages that is received after a place and before the
-- line, though it is from before its sender's base
abbrev pub AreOldNoted : List Process → List Choice → List ℕ → List ℕ → List MsgName → List Bool
    → Type 0
AreOldNoted history line places bases left senders =
    (q : ℕ) (message : MsgName) → q < length history → Contains left message
    → Contains (drop (place_at places q) (events_before history line q)) (Recv message)
    → message.number < start_at bases message.from → is_member senders message.from ≡ true
