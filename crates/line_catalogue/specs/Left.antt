-- What is kept so that what is in transit is found from little: what was in transit at some line,
-- and the sends and events before it.
use Rattle.std.specs.Prelude.{◌≡◌, ◌⊎◌, ℕ, ◌==◌, ◌<◌, ◌≤◌, Bool, false, true, List, [], length}
use Rattle.std.specs.Prelude.{map, filter, take, drop, AllPairs, Contains, IsTrue, slice_get}
use Rattle.std.specs.Prelude.{slice_index_or, Some}
use Rattle.std.specs.List.Sorted.{IsNonDecreasingBy}
use Rattle.line_names.specs.declared.choices.Choice.{Choice}
use Rattle.line_names.specs.declared.messages.MsgName.{MsgName}
use Rattle.line_names.specs.Lines.{choice_at}
use Rattle.line_names.specs.Sets.{is_member}
use Rattle.line_tape.specs.declared.events.Event.{Event}
use Rattle.line_tape.specs.declared.events.Event.TheVariants.{Recv}
use Rattle.line_tape.specs.Event.{sends, Holds}
use Rattle.line_tape.specs.Fit.{IsSentTo}
use Rattle.line_tape.specs.Front.{place}
use Rattle.line_tape.specs.History.{Process, tape_at}
use Rattle.line_tape.specs.Line.{events_before}
use Rattle.line_tape.specs.Transit.{Letter, letters, addressees, is_open_letter, has_received}
use Rattle.line_tape.specs.Transit.{names_received}

-- how many first sends of process p are not to be looked at again, but for those that are left
abbrev pub start_at : List ℕ → ℕ → ℕ
start_at starts p = slice_index_or starts p 0

-- of process p, after how many first events no receipt is to be looked at
abbrev pub place_at : List ℕ → ℕ → ℕ
place_at places p = slice_index_or places p 0

-- the messages come by sender, and those of one sender by number
pub record ComeInOrder (messages : List MsgName) : Type 0 where
  pub senders : IsNonDecreasingBy (λ (message : MsgName). message.from) messages
  pub numbers : AllPairs (λ (a b : MsgName). a.from ≡ b.from → a.number < b.number) messages

-- the message was sent, to a process that doesn't receive it before its place
pub record IsUnread (history : List Process) (places : List ℕ) (message : MsgName) : Type 0 where
  pub to : ℕ
  pub sent : IsSentTo history to message
  pub unread : has_received (take (place_at places to) (tape_at history to)) message ≡ false

-- of what was sent before the starts, all that isn't received before the places is left to look at,
-- in order; nothing that is left is received before the places
pub record AreLeft (history : List Process) (starts places : List ℕ)
    (left : List MsgName) : Type 0 where
  pub count : length starts ≡ length history
  pub places_count : length places ≡ length history
  pub within : (p : ℕ) → start_at starts p ≤ sends (tape_at history p)
  pub placed : (p : ℕ) → place_at places p ≤ length (tape_at history p)
  pub held : (q : ℕ) (message : MsgName) → IsSentTo history q message
      → message.number < start_at starts message.from
      → has_received (take (place_at places q) (tape_at history q)) message ≡ false
      → Contains left message
  pub order : ComeInOrder left
  pub each : (message : MsgName) → Contains left message → IsUnread history places message

-- what is received before the places was sent before the starts
abbrev pub AreClosed : List Process → List ℕ → List ℕ → Type 0
AreClosed history starts places =
    (q : ℕ) (message : MsgName)
    → Contains (take (place_at places q) (tape_at history q)) (Recv message)
    → message.number < start_at starts message.from

-- what a ledger keeps: what is left, and that the kept line is closed, if it says so
pub record IsLedger (history : List Process) (starts places : List ℕ) (left : List MsgName)
    (closed : Bool) : Type 0 where
  pub held : AreLeft history starts places left
  pub told : closed ≡ true → AreClosed history starts places

-- those of the messages that process p sent
abbrev pub messages_of : ℕ → List MsgName → List MsgName
messages_of p messages = filter (λ (message : MsgName). message.from == p) messages

-- each of the messages was sent
abbrev pub AreSent : List Process → List MsgName → Type 0
AreSent history messages =
    (message : MsgName) → Contains messages message → (q : ℕ) × IsSentTo history q message

-- what process p did after its choice, among its first `kept` events
abbrev pub events_between : List Process → List Choice → ℕ → ℕ → List Event
events_between history line p kept =
    drop (place (tape_at history p) (choice_at line p)) (take kept (tape_at history p))

-- the row of process p
abbrev pub numbers_at : List (List ℕ) → ℕ → List ℕ
numbers_at rows p = slice_index_or rows p []

-- for each process an end: its start, or where the line stands, if that is before it
pub record AreEnds (history : List Process) (starts : List ℕ) (line : List Choice)
    (ends : List ℕ) : Type 0 where
  pub count : length ends ≡ length history
  pub started : (p : ℕ) → start_at ends p ≤ start_at starts p
  pub before : (p : ℕ) → start_at ends p ≤ sends (events_before history line p)
  pub since : (p number : ℕ) → start_at ends p ≤ number
      → number < sends (events_before history line p) → start_at starts p ≤ number

-- the numbers of these messages below the ends stand in the rows of their senders
abbrev pub AreIn : List MsgName → List ℕ → List (List ℕ) → Type 0
AreIn names ends rows =
    (message : MsgName) → Contains names message → message.number < start_at ends message.from
    → message.from < length rows
    → Contains (numbers_at rows message.from) message.number

-- for each process a row, with what is received after the line, but before its place
pub record AreCandidates (history : List Process) (line : List Choice) (ends places : List ℕ)
    (rows : List (List ℕ)) : Type 0 where
  pub count : length rows ≡ length history
  pub behind : (q : ℕ) → q < length history
      → AreIn (names_received (events_between history line q (place_at places q))) ends rows

-- none of the set has received anything of a process that sent something before the line
abbrev pub AreStrangers : List Process → List Choice → List Bool → Type 0
AreStrangers history line set =
    (q : ℕ) (message : MsgName) → IsTrue (is_member set q)
    → Contains (tape_at history q) (Recv message)
    → sends (events_before history line message.from) ≡ 0

-- the row has the numbers of process p's first `end` messages that aren't received before the line
abbrev pub HasOpen : List Process → List Choice → ℕ → ℕ → List ℕ → Type 0
HasOpen history line p end row =
    (q : ℕ) (message : MsgName) → message.from ≡ p → message.number < end
    → IsSentTo history q message
    → has_received (events_before history line q) message ≡ false → Contains row message.number

-- of process p's first `end` messages that aren't received before the line the row has the number,
-- unless they are left
abbrev pub HasOpenBeside : List Process → List Choice → ℕ → ℕ → List ℕ → List MsgName → Type 0
HasOpenBeside history line p end row left =
    (q : ℕ) (message : MsgName) → message.from ≡ p → message.number < end
    → IsSentTo history q message
    → has_received (events_before history line q) message ≡ false
    → Contains row message.number ⊎ Contains left message

-- what is in transit of the first k messages of process p
abbrev pub open_first : List Process → List Choice → ℕ → ℕ → List MsgName
open_first history line p k =
    map (λ (letter : Letter). letter.message)
    (filter (is_open_letter history line) (take k (letters p 0 (events_before history line p))))

-- the messages have all that process p sent among its first k ones and isn't received before the
-- line
abbrev pub HaveLeft : List Process → List Choice → ℕ → ℕ → List MsgName → Type 0
HaveLeft history line p k messages =
    (q : ℕ) (message : MsgName) → message.from ≡ p → message.number < k
    → IsSentTo history q message
    → has_received (events_before history line q) message ≡ false → Contains messages message

-- the message is sent before the line, to a process that doesn't receive it before the line
pub record IsInTransitAt (history : List Process) (line : List Choice)
    (message : MsgName) : Type 0 where
  pub to : ℕ
  pub held : Holds (events_before history line message.from) message.inc message.number
  pub to_is : slice_get (addressees (events_before history line message.from)) message.number
      ≡ Some to
  pub unread : has_received (events_before history line to) message ≡ false

-- for each process a start before the line; all that was sent before it and isn't received before
-- the line is left, in order, and nothing that is received there
pub record AreSettledUpTo (history : List Process) (line : List Choice) (starts : List ℕ)
    (left : List MsgName) : Type 0 where
  pub count : length starts ≡ length history
  pub before : (p : ℕ) → start_at starts p ≤ sends (events_before history line p)
  pub held : (p : ℕ) → p < length history → HaveLeft history line p (start_at starts p) left
  pub order : ComeInOrder left
  pub each : (message : MsgName) → Contains left message → IsInTransitAt history line message
