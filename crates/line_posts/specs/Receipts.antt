-- What a worker receives: the replays that it kept first, then what comes on the ring.
use Rattle.std.specs.Prelude.{◌≡◌, ◌⊎◌, ℕ, List, [], ◌∷◌, ◌++◌, Bool, not}
use Rattle.std.specs.Prelude.{if◌then◌else◌, drop, slice_set}
use mathlib.Core.List.{IsPrefix}
use Rattle.line_names.specs.declared.messages.MsgName.{MsgName}
use Rattle.line_tape.specs.declared.events.Event.TheVariants.{Recv}
use Rattle.line_tape.specs.Rounds.{has_check_of}
use Rattle.line_posts.specs.Ends.{items_at, row_at, with_item}
use Rattle.line_posts.specs.declared.parcels.Packet.{Packet}
use Rattle.line_posts.specs.declared.parcels.Parcel.{Parcel}
use Rattle.line_posts.specs.declared.parcels.Parcel.TheVariants.{Message, Marker}
use Rattle.line_posts.specs.declared.receiving.Received.{Received}
use Rattle.line_posts.specs.declared.receiving.Received.TheVariants.{Message as TookMessage, Marked}
use Rattle.line_posts.specs.Markers.{recorded_by, checked_by, marked_by}
use Rattle.line_posts.specs.Posts.{PostView}

-- the rows, without the first item of the row at p
abbrev pub without_first : {X : Type 0} → List (List X) → ℕ → List (List X)
without_first rows p = slice_set rows p (drop 1 (row_at rows p))

-- the packet of the message of this name, with this body
abbrev pub packet_named : MsgName → List ℕ → Packet
packet_named name body = record { inc = name.inc; number = name.number; body = body }

-- what the worker had seen on its rings is the first that it popped, and is still seen otherwise
abbrev pub StillSees : PostView → PostView → Type 0
StillSees old new = (p : ℕ) → (popped : List Parcel)
    × (items_at new.ins p ≡ items_at old.ins p ++ popped)
    × IsPrefix (row_at old.seen p) (popped ++ row_at new.seen p)

-- the worker is as it was, but that it may have seen more of its rings
abbrev pub HasOnlySeen : PostView → PostView → Type 0
HasOnlySeen old new = new ≡ record old { seen = new.seen }

-- the worker took the first of the replays that it kept of process p
abbrev pub IsReplay : PostView → ℕ → Packet → PostView → Type 0
IsReplay old p packet new = (row_at old.kept p ≡ packet ∷ row_at new.kept p)
    × (new.kept ≡ without_first old.kept p) × (new.ins ≡ old.ins)

-- the worker kept no replay of process p, and took the next item of the ring from there
abbrev pub IsNext : PostView → ℕ → Packet → PostView → Type 0
IsNext old p packet new = (row_at old.kept p ≡ []) × (new.kept ≡ old.kept)
    × (new.ins ≡ with_item old.ins p (Message packet))

-- the worker has received this message, and its tape and its record of rounds have it
abbrev pub HasTaken : PostView → MsgName → List ℕ → PostView → Type 0
HasTaken old name body new = (new ≡ record old {
  tape = old.tape ++ Recv name ∷ [];
  rounds = recorded_by old (Recv name);
  kept = new.kept;
  ins = new.ins;
  seen = new.seen;
}) × (IsReplay old name.from (packet_named name body) new
    ⊎ IsNext old name.from (packet_named name body) new)

-- the parcel is a message
abbrev pub IsMessageParcel : Parcel → Type 0
IsMessageParcel (Message packet) = Unit {0}
IsMessageParcel (Marker round) = ⊥

-- the first of these parcels is a message
abbrev pub BeginsWithMessage : List Parcel → Type 0
BeginsWithMessage [] = ⊥
BeginsWithMessage (parcel ∷ rest) = IsMessageParcel parcel

-- the first of these parcels is the marker of this round
abbrev pub BeginsWithMarker : ℕ → List Parcel → Type 0
BeginsWithMarker round [] = ⊥
BeginsWithMarker round (parcel ∷ rest) = parcel ≡ Marker round

-- the worker has taken the marker of a round from a process of which it keeps no replay; where its
-- tape had no check of the round, it took that check first, with this state
pub record HasMarked (old : PostView) (from : ℕ) (state : List ℕ) (round : ℕ) (forced : Bool)
    (new : PostView) : Type 0 where
  pub bare : row_at old.kept from ≡ []
  pub forced_is : forced ≡ not (has_check_of round old.tape)
  pub new_is : new ≡ record (marked_by (if forced then checked_by old state round else old)
      from round) { seen = new.seen }

-- the worker has taken what came next from a process
abbrev pub HasReceived : PostView → ℕ → List ℕ → Received → PostView → Type 0
HasReceived old from state (TookMessage name body) new =
    (name.from ≡ from) × HasTaken old name body new
HasReceived old from state (Marked round forced) new = HasMarked old from state round forced new
