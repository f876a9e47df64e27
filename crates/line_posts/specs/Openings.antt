-- How a generation begins, from any history that links in order can lead to.
use Rattle.std.specs.Prelude.{◌≡◌, ◌<◌, ℕ, List, [], length, drop, slice_get, Some}
use Rattle.line_tape.specs.declared.events.Event.{Event}
use Rattle.line_tape.specs.Fit.{received_from}
use Rattle.line_tape.specs.History.{Process, tape_at}
use Rattle.line_tape.specs.Rounds.{rounds_checked}
use Rattle.line_posts.specs.Ends.{AreFresh, End, ring_at, row_at, slots_at, slots_of}
use Rattle.line_posts.specs.declared.parcels.Parcel.{Parcel}
use Rattle.line_posts.specs.Generations.{AreInOrder, HasRing}
use Rattle.line_posts.specs.Parcels.{parcels_of, parcels_sent}
use Rattle.line_posts.specs.Posts.{PostView}

-- no tape has a check of a round
abbrev pub ArePlain : List Process → Type 0
ArePlain history = (p : ℕ) → rounds_checked (tape_at history p) ≡ []

-- what the link from process p to q holds, bodies included: what was sent and is not received
abbrev pub parcels_left : List Process → ℕ → ℕ → List Parcel
parcels_left history p q =
    drop (length (received_from history q p)) (parcels_sent q 0 (tape_at history p))

-- the worker has only opened: its tape is the opening one, nothing has passed its rings and its
-- report line, and it keeps what the links to it hold
pub record IsOpening (post : PostView) : Type 0 where
  pub within : post.number < length post.opening
  pub out_count : length post.outs ≡ length post.opening
  pub in_count : length post.ins ≡ length post.opening
  pub kept_count : length post.kept ≡ length post.opening
  pub tape : post.tape ≡ tape_at post.opening post.number
  pub outs : AreFresh post.outs
  pub ins : AreFresh post.ins
  pub line : post.line.items ≡ []
  pub kept : (p : ℕ) → parcels_of (row_at post.kept p) ≡ parcels_left post.opening p post.number

-- rounds up to the floor are old for the worker, and it has recorded none yet
abbrev pub HasBegun : ℕ → PostView → Type 0
HasBegun floor post = (post.floor ≡ floor) × (post.rounds ≡ [])

-- the worker's rings to each process and its report line have this capacity
abbrev pub HasSlots : ℕ → PostView → Type 0
HasSlots capacity post = ((q : ℕ) → q < length post.opening → slots_at post.outs q ≡ capacity)
    × (slots_of post.line.ring ≡ capacity)

-- workers that begin a generation with this history and this floor, over rings of this capacity,
-- and the other ends of their report lines
pub record AreOpened (opening : List Process) (floor capacity : ℕ) (posts : List PostView)
    (lines : List (End Event)) : Type 0 where
  pub count : length posts ≡ length opening
  pub order : AreInOrder posts
  pub each : (p : ℕ) (post : PostView) → slice_get posts p ≡ Some post
      → IsOpening post × (post.opening ≡ opening)
  pub begun : (p : ℕ) (post : PostView) → slice_get posts p ≡ Some post → HasBegun floor post
  pub slots : (p : ℕ) (post : PostView) → slice_get posts p ≡ Some post → HasSlots capacity post
  pub rings : (i j : ℕ) (a b : PostView) → slice_get posts i ≡ Some a → slice_get posts j ≡ Some b
      → HasRing a b
  pub line_count : length lines ≡ length opening
  pub lined : (p : ℕ) (post : PostView) → slice_get posts p ≡ Some post
      → Some post.line.ring ≡ ring_at lines post.number
  pub fresh : AreFresh lines
