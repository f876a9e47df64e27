-- What a tape keeps beside its events, so that no question scans them.
use Rattle.std.specs.Prelude.{◌≡◌, ℕ, suc, ◌<◌, ◌≤◌, List, length, take, slice_index_or, Some, All}
use Rattle.std.specs.Prelude.{min}
use Rattle.line_tape.specs.declared.events.Event.{Event}
use Rattle.line_tape.specs.declared.tapes.CheckRow.{CheckRow}
use Rattle.line_tape.specs.Event.{checks, incarnations_sent, sends}
use Rattle.line_tape.specs.Front.{check_place}
use Rattle.line_tape.specs.History.{IsTape}
use Rattle.line_tape.specs.Noted.{ReceiptsView}
use Rattle.line_tape.specs.Restart.{restarted_event}
use Rattle.line_tape.specs.Transit.{addressees, names_received}

-- the row of the check that stands at this index, counted from 0
pub record IsCheckRow (events : List Event) (index : ℕ) (row : CheckRow) : Type 0 where
  pub place_is : row.place ≡ check_place events (suc index)
  pub sends_is : row.sends ≡ sends (take (check_place events (suc index)) events)
  pub receipts_is : row.receipts
      ≡ length (names_received (take (check_place events (suc index)) events))

-- the rows of checks with the places that these checks have among the events, and otherwise as they
-- were
pub record HaveCheckPlaces (events : List Event) (old new : List CheckRow) : Type 0 where
  pub same_length : length new ≡ length old
  pub places : (index : ℕ) (d : CheckRow) → index < length old
      → (slice_index_or new index d).place ≡ check_place events (suc index)
  pub sends_same : (index : ℕ) (d : CheckRow)
      → (slice_index_or new index d).sends ≡ (slice_index_or old index d).sends
  pub receipts_same : (index : ℕ) (d : CheckRow)
      → (slice_index_or new index d).receipts ≡ (slice_index_or old index d).receipts

-- one row for each check, and the incarnation and the addressee of each send
pub record AreCheckRows (events : List Event) (rows : List CheckRow)
    (incarnations addressed : List ℕ) : Type 0 where
  pub sent : incarnations ≡ incarnations_sent events
  pub named : addressed ≡ addressees events
  pub count : length rows ≡ checks events
  pub each : (index : ℕ) (d : CheckRow) → index < length rows
      → IsCheckRow events index (slice_index_or rows index d)

-- a restart leaves the event as it is
abbrev pub IsSettled : Event → Type 0
IsSettled event = restarted_event event ≡ Some event

-- a restart leaves this many of the first events as they are
pub record AreSettled (events : List Event) (settled : ℕ) : Type 0 where
  pub within : settled ≤ length events
  pub each : All IsSettled (take settled events)

-- the events of a tape, an index that answers for them, and a count of further events that have
-- room beside bodies, senders and what checks alone take; where it is not 0, one event more has
-- room for that too
pub record IsIndexed (events : List Event) (rows : List CheckRow) (incarnations addressed : List ℕ)
    (receipts : ReceiptsView) (settled spare room room_beside : ℕ) : Type 0 where
  pub tape : IsTape events
  pub checked : AreCheckRows events rows incarnations addressed
  pub received : receipts.names ≡ names_received events
  pub unchanged : AreSettled events settled
  pub counted : spare ≤ room
  pub one_more : min 1 spare ≤ room_beside
