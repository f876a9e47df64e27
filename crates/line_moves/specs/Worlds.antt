-- What a world keeps true of its queues and of its rounds.
use Rattle.std.specs.Prelude.{◌≡◌, ◌≢◌, ℕ, ◌<◌, ◌≤◌, true, List, length, map, All, AllPairs, Option}
use Rattle.std.specs.Prelude.{Some, None}
use Rattle.std.specs.List.{filter_map}
use Rattle.line_names.specs.declared.messages.MsgName.{MsgName}
use Rattle.line_tape.specs.declared.items.Item.{Item}
use Rattle.line_tape.specs.declared.items.Item.TheVariants.{Message, Marker}
use Rattle.line_tape.specs.Colours.{AreColoured}
use Rattle.line_tape.specs.Copies.{IsUnordered}
use Rattle.line_tape.specs.Fit.{link, IsFitFifo}
use Rattle.line_tape.specs.History.{Process, tape_at}
use Rattle.line_tape.specs.Rounds.{has_check_of}
use Rattle.line_rounds.specs.Kept.{ProcessTurns, AreTurned}
use Rattle.line_tape.specs.declared.modes.Mode.{Mode}
use Rattle.line_tape.specs.declared.modes.Mode.TheVariants.{Fifo, Unordered}
use Rattle.line_moves.specs.Listed.{ListedRound, IsSnapshotOf}
use Rattle.line_moves.specs.Openings.{OpenView, first_unlisted, IsOnlyOpen, IsLastBegun}
use Rattle.line_rounds.specs.Tables.{between, IsTable}

-- the item is a message of process p, or a marker
abbrev pub IsItemOf : ℕ → Item → Type 0
IsItemOf p (Message message) = message.from ≡ p
IsItemOf p (Marker round) = Unit {0}

-- the message of an item
abbrev pub message_of : Item → Option MsgName
message_of (Message message) = Some message
message_of (Marker round) = None

-- the messages on the queue from process p to q
abbrev pub messages_at : List (List (List Item)) → ℕ → ℕ → List MsgName
messages_at queues p q = filter_map message_of (between queues p q)

-- the messages on all queues
abbrev pub names_on : List (List (List Item)) → List (List (List MsgName))
names_on queues = map (λ row. map (λ items. filter_map message_of items) row) queues

-- the item is a message
abbrev pub IsMessage : Item → Type 0
IsMessage (Message message) = Unit {0}
IsMessage (Marker round) = ⊥

-- without an order there are no markers on the queues
abbrev pub HoldMessages : Mode → List (List (List Item)) → Type 0
HoldMessages Fifo queues = Unit {0}
HoldMessages Unordered queues = (p q : ℕ) → All IsMessage (between queues p q)

-- there is a queue for each pair of processes, and the messages that it holds are of its sender
pub record AreQueues (history : List Process) (queues : List (List (List Item))) : Type 0 where
  pub shape : IsTable (length history) queues
  pub messages : (p q : ℕ) → All (IsItemOf p) (between queues p q)

-- in order: the history fits, and the queue from each process to another is what its link holds
pub record IsOrderedWorld (history : List Process) (queues : List (List (List Item))) : Type 0 where
  pub fit : IsFitFifo history
  pub links : (p q : ℕ) → p < length history → q < length history → p ≢ q
      → between queues p q ≡ link history p q

-- what a world keeps true in each mode of its history and its queues
abbrev pub IsLinked : Mode → List Process → List (List (List Item)) → Type 0
IsLinked Fifo history queues = IsOrderedWorld history queues
IsLinked Unordered history queues = IsUnordered history (messages_at queues)

-- what a world keeps true
pub record IsWorld (mode : Mode) (history : List Process)
    (queues : List (List (List Item))) : Type 0 where
  pub queued : AreQueues history queues
  pub linked : IsLinked mode history queues
  pub only : HoldMessages mode queues

-- listed rounds stand in the order of their numbers, which are all below one
pub record AreNumbered (first : ℕ) (rounds : List ListedRound) : Type 0 where
  pub earlier : All (λ (round : ListedRound). round.number < first) rounds
  pub ascending : AllPairs (λ (a b : ListedRound). a.number < b.number) rounds

-- what a world keeps true of its rounds: none on a tape is later than the last one begun; each on a
-- tape is completed but the one that is kept as open, which is that last one, and what is kept of
-- it follows the tapes; and the listed ones are snapshots, by number
pub record AreRounds (mode : Mode) (history : List Process) (last : ℕ)
    (open_round : Option OpenView) (rounds : List ListedRound) : Type 0 where
  pub numbers : (p r : ℕ) → has_check_of r (tape_at history p) ≡ true → r ≤ last
  pub opening : IsOnlyOpen mode history open_round
  pub unfinished : IsLastBegun mode history last open_round
  pub snapshots : All (IsSnapshotOf history) rounds
  pub numbered : AreNumbered (first_unlisted open_round last) rounds

-- what is kept of colours follows the tapes, and no process received a message of a greater colour
-- than its own
pub record IsPainted (history : List Process) (colours : List ProcessTurns) : Type 0 where
  pub turned : AreTurned history colours
  pub coloured : AreColoured history
