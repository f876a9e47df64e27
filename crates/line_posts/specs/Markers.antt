-- Rounds at a worker (Chandy and Lamport, ACM TOCS 3(1), 1985): markers go out with its check.
use Rattle.std.specs.Prelude.{ℕ, zero, suc, List, [], ◌∷◌, ◌++◌, length, map, Some}
use Rattle.line_rounds.specs.Recording.{RecordedRound}
use Rattle.line_tape.specs.declared.events.Event.{Event}
use Rattle.line_tape.specs.declared.events.Event.TheVariants.{Check, Mark}
use Rattle.line_posts.specs.Ends.{End, with_item, with_items}
use Rattle.line_posts.specs.Journals.{rounds_by}
use Rattle.line_posts.specs.declared.parcels.Parcel.TheVariants.{Marker}
use Rattle.line_posts.specs.Posts.{PostView}

-- these ends, after one more item passed each but the one at `me`
abbrev pub with_others : {T : Type 0} → List (End T) → ℕ → T → List (End T)
with_others [] me item = []
with_others (e ∷ es) zero item = e ∷ map (λ other. with_items other (item ∷ [])) es
with_others (e ∷ es) (suc me) item = with_items e (item ∷ []) ∷ with_others es me item

-- what a worker has recorded of rounds after an event
abbrev pub recorded_by : PostView → Event → List RecordedRound
recorded_by post event = rounds_by (length post.opening) post.floor post.rounds event

-- the worker after its check of a round: the state is on its tape, and the marker on its ring to
-- each other worker
abbrev pub checked_by : PostView → List ℕ → ℕ → PostView
checked_by post state round = record post {
  tape = post.tape ++ Check state (Some round) ∷ [];
  outs = with_others post.outs post.number (Marker round);
  rounds = recorded_by post (Check state (Some round));
}

-- the worker after it has taken the marker of a round from a process
abbrev pub marked_by : PostView → ℕ → ℕ → PostView
marked_by post from round = record post {
  tape = post.tape ++ Mark from round ∷ [];
  ins = with_item post.ins from (Marker round);
  rounds = recorded_by post (Mark from round);
}
