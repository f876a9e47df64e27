-- The queues from one process, the room on each, and what a restart is going to put there.
use Rattle.std.specs.Prelude.{◌≡◌, ◌≢◌, ℕ, ◌+◌, ◌<◌, ◌≤◌, true, List, [], length, map, filter, take}
use Rattle.std.specs.Prelude.{slice_index_or, Option, Some, None}
use Rattle.line_names.specs.declared.messages.MsgName.{MsgName}
use Rattle.line_tape.specs.declared.items.Item.{Item}
use Rattle.line_tape.specs.History.{Process}
use Rattle.line_tape.specs.Transit.{goes_between}

-- what a queue holds, how many further items take no memory, and how many messages were counted
-- that a restart is going to put there
pub record QueueView : Type 0 where
  pub held : List Item
  pub room : ℕ
  pub counted : ℕ

-- the room of a queue whose first item is this, with room for so many items after the first
abbrev pub room_with : Option Item → ℕ → ℕ
room_with None room = room + 1
room_with (Some first) room = room

-- what each queue holds
abbrev pub items_held : List QueueView → List (List Item)
items_held row = map (λ (queue : QueueView). queue.held) row

-- nothing is on any of these queues
abbrev pub AreEmpty : List QueueView → Type 0
AreEmpty row = (q : ℕ) → slice_index_or (items_held row) q [] ≡ []

-- a queue with nothing on it
abbrev pub no_queue : QueueView
no_queue = record { held = []; room = 0; counted = 0 }

-- the queue of a row to process q
abbrev pub queue_to : List QueueView → ℕ → QueueView
queue_to row q = slice_index_or row q no_queue

-- the queue from process p to q
abbrev pub queue_at : List (List QueueView) → ℕ → ℕ → QueueView
queue_at rows p q = queue_to (slice_index_or rows p []) q

-- one message more was counted on the queue to process `to`, which has room for all that were; what
-- the queues hold stays
pub record IsCounted (to : ℕ) (old row : List QueueView) : Type 0 where
  pub others : (q : ℕ) → q ≢ to → queue_to row q ≡ queue_to old q
  pub more : (queue_to row to).counted ≡ (queue_to old to).counted + 1
  pub room : (queue_to old to).counted + 1 ≤ (queue_to row to).room

-- how many of the first i messages go from process p to q
abbrev pub count_between : List Process → List MsgName → ℕ → ℕ → ℕ → ℕ
count_between history messages i p q = length (filter (goes_between history p q) (take i messages))

-- none was counted on the queues that the first i messages go to
abbrev pub AreUncounted : List Process → List MsgName → ℕ → List (List QueueView) → Type 0
AreUncounted history messages i rows =
    (p q j : ℕ) (m : MsgName) → j < i → m ≡ slice_index_or messages j m
    → goes_between history p q m ≡ true → (queue_at rows p q).counted ≡ 0

-- of the messages that go to each queue the first i were counted, and it has room for them
pub record AreCountedOnQueues (history : List Process) (messages : List MsgName) (i : ℕ)
    (rows : List (List QueueView)) : Type 0 where
  pub counted : (p q j : ℕ) (m : MsgName) → j < length messages → m ≡ slice_index_or messages j m
      → goes_between history p q m ≡ true
      → (queue_at rows p q).counted ≡ count_between history messages i p q
  pub room : (p q : ℕ) → count_between history messages i p q ≤ (queue_at rows p q).room

-- each queue has room for the messages that go there, where the first i were put
abbrev pub HaveRoom : List Process → List MsgName → ℕ → List (List QueueView) → Type 0
HaveRoom history messages i rows =
    (p q : ℕ)
    → length (filter (goes_between history p q) messages)
    ≤ count_between history messages i p q + (queue_at rows p q).room
