-- What contracts see of a worker, and what holds of it through a generation.
use Rattle.std.specs.Prelude.{◌≡◌, ◌≢◌, ◌<◌, ◌≤◌, ◌⊎◌, ◌+◌, ℕ, List, [], ◌∷◌, ◌++◌, length}
use Rattle.std.specs.Prelude.{None, All}
use Rattle.std.specs.List.{filter_map}
use mathlib.Core.List.{IsPrefix}
use Rattle.line_rounds.specs.Recording.{RecordedRound}
use Rattle.line_names.specs.declared.messages.MsgName.{MsgName}
use Rattle.line_tape.specs.declared.events.Event.{Event}
use Rattle.line_tape.specs.declared.events.Event.TheVariants.{Send, Check}
use Rattle.line_tape.specs.Event.{sends, Holds, NamesBelow}
use Rattle.line_tape.specs.Fit.{sent_between, item_received, AreDistinct, MarksFollow}
use Rattle.line_tape.specs.History.{Process, tape_at, incarnation_at}
use Rattle.line_tape.specs.Rounds.{rounds_checked}
use Rattle.line_posts.specs.Ends.{End, with_item, items_at, row_at}
use Rattle.line_posts.specs.declared.parcels.Packet.{Packet}
use Rattle.line_posts.specs.declared.parcels.Parcel.{Parcel}
use Rattle.line_posts.specs.declared.parcels.Parcel.TheVariants.{Message}
use Rattle.line_posts.specs.Parcels.{items_of_packets, items_of_parcels, parcels_sent}

-- a worker: its number, the history that its generation opened with, its tape, the replays that it
-- still keeps by sender, its ends of the rings to and from each process, what it has seen on the
-- latter and not taken, its end of the report line, and what it has recorded of rounds, those up to
-- the floor being old
pub record PostView : Type 0 where
  pub number : ℕ
  pub opening : List Process
  pub tape : List Event
  pub kept : List (List Packet)
  pub outs : List (End Parcel)
  pub ins : List (End Parcel)
  pub seen : List (List Parcel)
  pub line : End Event
  pub floor : ℕ
  pub rounds : List RecordedRound

-- the worker with these parts
abbrev pub post_of : ℕ → List Process → List Event → List (List Packet) → List (End Parcel)
    → List (End Parcel) → List (List Parcel) → End Event → ℕ → List RecordedRound → PostView
post_of number opening tape kept outs ins seen line floor rounds = record {
  number = number;
  opening = opening;
  tape = tape;
  kept = kept;
  outs = outs;
  ins = ins;
  seen = seen;
  line = line;
  floor = floor;
  rounds = rounds;
}

-- the tape that the worker opened with
abbrev pub opening_tape : PostView → List Event
opening_tape post = tape_at post.opening post.number

-- the incarnation under which the worker sends
abbrev pub incarnation_of_post : PostView → ℕ
incarnation_of_post post = incarnation_at post.opening post.number

-- what holds of a worker at any time
pub record IsPost (post : PostView) : Type 0 where
  pub within : post.number < length post.opening
  pub out_count : length post.outs ≡ length post.opening
  pub in_count : length post.ins ≡ length post.opening
  pub kept_count : length post.kept ≡ length post.opening
  pub named : All (NamesBelow (length post.opening)) post.tape
  -- reports: its tape is the opening tape, then what it reported, then the rest
  pub reports : IsPrefix (opening_tape post ++ post.line.items) post.tape
  -- links: what its tape sends to another is what the opening tape does, and then what it pushed
  pub sends_are : (q : ℕ) → q < length post.opening → q ≢ post.number
      → parcels_sent q 0 post.tape ≡ parcels_sent q 0 (opening_tape post) ++ items_at post.outs q
  -- what its tape received, and then the replays still kept, is what the opening history sent to
  -- it, and then what it popped; it pops nothing while it keeps a replay of that sender
  pub receipts_are : (p : ℕ)
      → filter_map (item_received p) post.tape ++ items_of_packets p (row_at post.kept p)
      ≡ sent_between post.opening p post.number ++ items_of_parcels p (items_at post.ins p)
  pub replays : (p : ℕ) → (row_at post.kept p ≡ []) ⊎ (items_at post.ins p ≡ [])
  pub alone : items_at post.ins post.number ≡ []
  -- what it sent since the opening has its present incarnation
  pub present : (k inc : ℕ) → sends (opening_tape post) ≤ k → Holds post.tape inc k
      → inc ≡ incarnation_of_post post
  pub rounds : AreDistinct (rounds_checked post.tape)
  pub marks : MarksFollow post.tape

-- the name of the worker's next message
abbrev pub next_message_name : PostView → MsgName
next_message_name post =
    record { from = post.number; inc = incarnation_of_post post; number = sends post.tape }

-- the worker's next message, with this body, as a ring carries it
abbrev pub next_packet : PostView → List ℕ → Packet
next_packet post body =
    record { inc = incarnation_of_post post; number = sends post.tape; body = body }

-- the worker after it has sent a message
abbrev pub sent_by : PostView → ℕ → List ℕ → PostView
sent_by post to body = record post {
  tape = post.tape ++ Send to (incarnation_of_post post) body ∷ [];
  outs = with_item post.outs to (Message (next_packet post body));
}

-- the worker after it has taken a check of no round
abbrev pub checked_alone : PostView → List ℕ → PostView
checked_alone post state = record post { tape = post.tape ++ Check state None ∷ [] }

-- how many events of the worker's tape were there at the opening or have been reported
abbrev pub reported_count : PostView → ℕ
reported_count post = length (opening_tape post) + length post.line.items
