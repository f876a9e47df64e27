-- What links hold at a restart, found on the tapes that go on, each read from its end back.
use Rattle.std.specs.Prelude.{◌≡◌, ◌≢◌, ◌<◌, ◌≤◌, ◌+◌, ◌-◌, ◌++◌, ℕ, List, [], ◌∷◌, length, take}
use Rattle.std.specs.Prelude.{drop, map, filter, slice_index_or, slice_set}
use Rattle.std.specs.declared.alloc.Global.{Global}
use Rattle.std.specs.declared.collections.VecDeque.{VecDeque}
use Rattle.std.specs.declared.vec.Vec.{Vec}
use Rattle.line_names.specs.declared.messages.MsgName.{MsgName}
use Rattle.line_tape.specs.declared.events.Event.{Event}
use Rattle.line_tape.specs.History.{Process}
use Rattle.line_tape.specs.Transit.{goes_between}
use Rattle.line_posts.specs.Ends.{row_at}
use Rattle.line_posts.specs.declared.parcels.Packet.{Packet}
use Rattle.line_posts.specs.Fleets.{AreReplays}
use Rattle.line_posts.specs.Gathering.{rows_of}
use Rattle.line_posts.specs.Parcels.{parcels_of, parcels_sent}

-- their sum
abbrev pub total : List ℕ → ℕ
total [] = 0
total (x ∷ xs) = x + total xs

-- the last n of them
abbrev pub take_last : {X : Type 0} → ℕ → List X → List X
take_last n xs = drop (length xs - n) xs

-- what stands in row q at p
abbrev pub cell_at : {X : Type 0} → X → List (List X) → ℕ → ℕ → X
cell_at none rows q p = slice_index_or (row_at rows q) p none

-- the rows with another item in row q at p
abbrev pub with_cell : {X : Type 0} → List (List X) → ℕ → ℕ → X → List (List X)
with_cell rows q p item = slice_set rows q (slice_set (row_at rows q) p item)

-- n rows of n items each
pub record AreSquare {X : Type 0} (n : ℕ) (rows : List (List X)) : Type 0 where
  pub count : length rows ≡ n
  pub each : (q : ℕ) → q < n → length (row_at rows q) ≡ n

-- the counts of each row
abbrev pub counts_of : List (Vec ℕ Global) → List (List ℕ)
counts_of rows = map (λ v. v.items) rows

-- the packets of each queue of each row
abbrev pub packets_of : List (Vec (VecDeque Packet Global) Global) → List (List (List Packet))
packets_of rows = map (λ v. rows_of v.items) rows

-- `counts` says how many of these messages each process sent to each, by sender and then receiver,
-- and `sums` how many each sent in all
pub record AreCounted (history : List Process) (messages : List MsgName) (counts : List (List ℕ))
    (sums : List ℕ) : Type 0 where
  pub square : AreSquare (length history) counts
  pub each : (p q : ℕ) → p < length history → q < length history
      → cell_at 0 counts p q ≡ length (filter (goes_between history p q) messages)
  pub sum_count : length sums ≡ length history
  pub sum : (p : ℕ) → p < length history → slice_index_or sums p 0 ≡ total (row_at counts p)
  pub few : (p : ℕ) → slice_index_or sums p 0 ≤ length messages

-- `events`, the last ones on the tape of process p, have been read for the last messages that p
-- sent to each process, as many to each as `wanted` says. `counts` says how many of these are still
-- to be found, and the queues hold those that were found. `number` is that of the first message
-- that `events` send
pub record AreSorted (wanted : List ℕ) (p number : ℕ) (events : List Event) (counts : List ℕ)
    (packets : List (List (List Packet))) : Type 0 where
  pub still : (q : ℕ) → q < length wanted → slice_index_or counts q 0
      ≡ slice_index_or wanted q 0 - length (parcels_sent q number events)
  pub queued : (q : ℕ) → q < length wanted → parcels_of (cell_at [] packets q p)
      ≡ take_last (slice_index_or wanted q 0) (parcels_sent q number events)

-- in the queues of n processes, nothing has changed but the packets from sender p
pub record AreOfSender (n p : ℕ) (packets new_packets : List (List (List Packet))) : Type 0 where
  pub square : AreSquare n new_packets
  pub same : (q k : ℕ) → k ≢ p → cell_at [] new_packets q k ≡ cell_at [] packets q k

-- an event of process p has been read. Where it sends a message, with the number `number`, and the
-- count of its receiver is not zero, that count is one less, and the message is put first in its
-- queue. `taken` is one then, and else zero
pub record IsNoted (p number : ℕ) (event : Event) (counts new_counts : List ℕ)
    (packets new_packets : List (List (List Packet))) (taken : ℕ) : Type 0 where
  pub sender : AreOfSender (length counts) p packets new_packets
  pub count : length new_counts ≡ length counts
  pub sum : total new_counts + taken ≡ total counts
  pub still : (q : ℕ) → q < length counts → slice_index_or new_counts q 0
      ≡ slice_index_or counts q 0 - length (parcels_sent q number (event ∷ []))
  pub queued : (q : ℕ) → q < length counts → parcels_of (cell_at [] new_packets q p)
      ≡ take (slice_index_or counts q 0) (parcels_sent q number (event ∷ []))
      ++ parcels_of (cell_at [] packets q p)

-- what each worker keeps to receive again, where a generation begins
pub record AreAllReplays (history : List Process) (kept : List (List (List Packet))) : Type 0 where
  pub count : length kept ≡ length history
  pub each : (q : ℕ) → q < length history → AreReplays history q (row_at kept q)
