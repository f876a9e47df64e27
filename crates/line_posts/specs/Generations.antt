-- Workers of one generation, and their collector: each two hold the two ends of one ring each way.
use Rattle.std.specs.Prelude.{◌≡◌, ◌≢◌, ℕ, List, ◌++◌, map, length, slice_get, Some}
use Rattle.line_tape.specs.Fit.{sent_between, received_from}
use Rattle.line_tape.specs.History.{Process}
use Rattle.line_posts.specs.Ends.{items_at, ring_at, row_at}
use Rattle.line_posts.specs.declared.parcels.Parcel.{Parcel}
use Rattle.line_posts.specs.Collected.{CollectorView}
use Rattle.line_posts.specs.Parcels.{items_of_packets, items_of_parcels}
use Rattle.line_posts.specs.Posts.{PostView, incarnation_of_post}

-- a worker's own tape, in its present incarnation
abbrev pub own_process : PostView → Process
own_process post = record { incarnation = incarnation_of_post post; tape = post.tape }

-- the history of the workers' own tapes
abbrev pub own_history : List PostView → List Process
own_history posts = map own_process posts

-- the one has the end that pushes of a ring, and the other the end that pops
abbrev pub HasRing : PostView → PostView → Type 0
HasRing from to = ring_at from.outs to.number ≡ ring_at to.ins from.number

-- two workers opened with one history, and have a ring each way
abbrev pub AreLinkedTwo : PostView → PostView → Type 0
AreLinkedTwo a b = (a.opening ≡ b.opening) × HasRing a b × HasRing b a

-- each two of these workers opened with one history, and have a ring each way
abbrev pub IsGeneration : List PostView → Type 0
IsGeneration posts = (i j : ℕ) (a b : PostView) → slice_get posts i ≡ Some a
    → slice_get posts j ≡ Some b → AreLinkedTwo a b

-- the collector opened with the history of the workers, and has the other ends of their report
-- lines
abbrev pub AreLined : CollectorView → List PostView → Type 0
AreLined collector posts = (i : ℕ) (post : PostView) → slice_get posts i ≡ Some post
    → (post.opening ≡ collector.opening)
    × (Some post.line.ring ≡ ring_at collector.lines post.number)

-- the workers are one for each process, in order
abbrev pub AreInOrder : List PostView → Type 0
AreInOrder posts = (p : ℕ) (post : PostView) → slice_get posts p ≡ Some post
    → (post.number ≡ p) × (length post.opening ≡ length posts)

-- a worker for each process of the collector, in order
abbrev pub AreWhole : CollectorView → List PostView → Type 0
AreWhole collector posts = (length posts ≡ length collector.opening) × AreInOrder posts

-- what a worker received of another, then the replays that it still keeps of it, then what its ring
-- still holds, is what the other sent; and what it popped begins what the other pushed
abbrev pub AreAccounted : List PostView → Type 0
AreAccounted posts = (p q : ℕ) (from to : PostView) → slice_get posts p ≡ Some from
    → slice_get posts q ≡ Some to → p ≢ q
    → (rest : List Parcel) × (items_at to.ins p ++ rest ≡ items_at from.outs q)
    × ((received_from (own_history posts) q p ++ items_of_packets p (row_at to.kept p))
    ++ items_of_parcels p rest ≡ sent_between (own_history posts) p q)

-- the worker has the number, the opening history and the ends that it had
pub record IsSamePost (old new : PostView) : Type 0 where
  pub number : new.number ≡ old.number
  pub opening : new.opening ≡ old.opening
  pub outs : (q : ℕ) → ring_at new.outs q ≡ ring_at old.outs q
  pub ins : (p : ℕ) → ring_at new.ins p ≡ ring_at old.ins p
  pub line : new.line.ring ≡ old.line.ring

-- each of these workers has the number, the opening history and the ends that it had
pub record AreSamePosts (old new : List PostView) : Type 0 where
  pub count : length new ≡ length old
  pub each : (i : ℕ) (a b : PostView) → slice_get old i ≡ Some a → slice_get new i ≡ Some b
      → IsSamePost a b
