-- The workers of a new generation, made one by one.
use Rattle.std.specs.Prelude.{◌≡◌, ◌<◌, ℕ, List, [], ◌∷◌, length, drop, slice_get, Some}
use Rattle.line_tape.specs.declared.events.Event.{Event}
use Rattle.line_tape.specs.History.{Process}
use Rattle.line_posts.specs.Ends.{End, row_at}
use Rattle.line_posts.specs.declared.parcels.Packet.{Packet}
use Rattle.line_posts.specs.declared.parcels.Parcel.{Parcel}
use Rattle.line_posts.specs.Openings.{parcels_left, HasBegun, IsOpening}
use Rattle.line_posts.specs.Parcels.{parcels_of}
use Rattle.line_posts.specs.Posts.{PostView}

-- what worker q keeps where a generation begins: of each process, what its link to q holds
pub record AreReplays (history : List Process) (q : ℕ) (kept : List (List Packet)) : Type 0 where
  pub count : length kept ≡ length history
  pub each : (p : ℕ) → parcels_of (row_at kept p) ≡ parcels_left history p q

-- what worker q keeps where a generation begins, of the first n processes
pub record AreReplaysBelow (n : ℕ) (history : List Process) (q : ℕ) (kept : List (List Packet))
    : Type 0 where
  pub count : length kept ≡ n
  pub each : (p : ℕ) → p < n → parcels_of (row_at kept p) ≡ parcels_left history p q

-- worker p where a generation begins, with row p of the ends of rings and report lines
pub record IsMade (opening : List Process) (floor : ℕ) (outs ins : List (List (End Parcel)))
    (lines : List (List (End Event))) (p : ℕ) (post : PostView) : Type 0 where
  pub number : post.number ≡ p
  pub opened : post.opening ≡ opening
  pub opens : IsOpening post
  pub begun : HasBegun floor post
  pub outs_are : post.outs ≡ row_at outs p
  pub ins_are : post.ins ≡ row_at ins p
  pub line_is : post.line ∷ [] ≡ row_at lines p

-- the first p workers are made, and the rows of the others are left
pub record AreMade (opening : List Process) (floor : ℕ) (outs ins : List (List (End Parcel)))
    (lines : List (List (End Event))) (p : ℕ) (left_outs left_ins : List (List (End Parcel)))
    (left_lines : List (List (End Event))) (posts : List PostView) : Type 0 where
  pub count : length posts ≡ p
  pub made : (k : ℕ) (post : PostView) → slice_get posts k ≡ Some post
      → IsMade opening floor outs ins lines k post
  pub outs_left : left_outs ≡ drop p outs
  pub ins_left : left_ins ≡ drop p ins
  pub lines_left : left_lines ≡ drop p lines

-- all workers are made, one for each process of the opening history
pub record AreAllMade (opening : List Process) (floor : ℕ) (outs ins : List (List (End Parcel)))
    (lines : List (List (End Event))) (posts : List PostView) : Type 0 where
  pub count : length posts ≡ length opening
  pub made : (k : ℕ) (post : PostView) → slice_get posts k ≡ Some post
      → IsMade opening floor outs ins lines k post
