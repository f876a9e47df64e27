-- The steps of a gathering: rings are compared, and then events are added.
use Rattle.std.specs.Prelude.{◌≡◌, ◌<◌, ◌≤◌, ℕ, List, ◌++◌, length, map, slice_get}
use Rattle.std.specs.Prelude.{slice_index_or, All, Bool, Some}
use Rattle.std.specs.VecDeque.{deque_items}
use mathlib.Core.List.{IsPrefix}
use Rattle.std.specs.declared.collections.VecDeque.{VecDeque}
use Rattle.std.specs.declared.alloc.Global.{Global}
use Rattle.line_names.specs.Sets.{is_member}
use Rattle.line_tape.specs.declared.events.Event.{Event}
use Rattle.line_tape.specs.Event.{sends, Holds, NamesBelow}
use Rattle.line_tape.specs.Fit.{IsFitFifo}
use Rattle.line_tape.specs.History.{Process, process_at, tape_at, incarnation_at, IsProcess, IsTape}
use Rattle.line_posts.specs.Ends.{End, items_at, ring_at, row_at}
use Rattle.line_posts.specs.Collected.{CollectorView, IsCollector}
use Rattle.line_posts.specs.Gathered.{gathered_tape, AreGathered}
use Rattle.line_posts.specs.Generations.{own_history, AreInOrder, AreLined}
use Rattle.line_posts.specs.Posts.{PostView, IsPost, opening_tape}

-- each of these workers has what holds of a worker at any time
abbrev pub ArePosts : List PostView → Type 0
ArePosts posts = (p : ℕ) (post : PostView) → slice_get posts p ≡ Some post
    → IsPost post × IsTape post.tape

-- the workers have what holds of a worker at any time, and are one for each process, in order
pub record AreAll (posts : List PostView) : Type 0 where
  pub each : (p : ℕ) (post : PostView) → slice_get posts p ≡ Some post
      → IsPost post × (post.number ≡ p) × (length post.opening ≡ length posts)

-- what the second worker popped of the first is a prefix of what the first pushed to it
abbrev pub AreMetTwo : PostView → PostView → Type 0
AreMetTwo from to = IsPrefix (items_at to.ins from.number) (items_at from.outs to.number)

-- for each two workers, what one popped of the other is a prefix of what the other pushed to it
abbrev pub AreMet : List PostView → Type 0
AreMet posts = (i j : ℕ) (from to : PostView) → slice_get posts i ≡ Some from
    → slice_get posts j ≡ Some to → AreMetTwo from to

-- each gathered tape is a prefix of the process's own tape, which sends all that comes later under
-- the present incarnation
pub record IsBetween (gathered own : List Process) : Type 0 where
  pub incarnation : (p : ℕ) → incarnation_at gathered p ≡ incarnation_at own p
  pub begins : (p : ℕ) → IsPrefix (tape_at gathered p) (tape_at own p)
  pub present : (p k inc : ℕ) → sends (tape_at gathered p) ≤ k → Holds (tape_at own p) inc k
      → inc ≡ incarnation_at own p

-- worker p, which has the other end of report line p, and names the first n processes alone
pub record IsAtLine (n : ℕ) (lines : List (End Event)) (p : ℕ) (post : PostView) : Type 0 where
  pub within : p < length lines
  pub ring : Some post.line.ring ≡ ring_at lines p
  pub named : All (NamesBelow n) post.tape

-- each worker does, by its number
abbrev pub AreAtLines : ℕ → List (End Event) → List PostView → Type 0
AreAtLines n lines posts = (p : ℕ) (post : PostView) → slice_get posts p ≡ Some post
    → IsAtLine n lines p post

-- workers that are back together, one for each process of their collector
pub record AreBack (collector : CollectorView) (posts : List PostView) : Type 0 where
  pub collects : IsCollector collector
  pub lined : AreLined collector posts
  pub known : ArePosts posts
  pub order : AreInOrder posts
  pub whole : length posts ≡ length collector.processes
  pub fit : IsFitFifo (own_history posts)

-- the gathered history has of each worker what is gathered of it, which begins with what was taken
-- of it
pub record AreGatheredOnward (failed : List Bool) (lines : List (End Event)) (posts : List PostView)
    (gathered : List Process) : Type 0 where
  pub gathered_is : AreGathered failed posts gathered
  pub begins : (p : ℕ) (post : PostView) → slice_get posts p ≡ Some post
      → IsPrefix (opening_tape post ++ items_at lines p) (tape_at gathered p)

-- the items of each queue
abbrev pub rows_of : {X : Type 0} → List (VecDeque X Global) → List (List X)
rows_of queues = map deque_items queues

-- worker p, of which the history has the opening tape and then what was popped of its report line
pub record IsReady (processes : List Process) (lines : List (End Event)) (p : ℕ) (post : PostView)
    : Type 0 where
  pub number : post.number ≡ p
  pub is : IsPost post
  pub within : p < length lines
  pub ring : Some post.line.ring ≡ ring_at lines p
  pub seen : tape_at processes p ≡ opening_tape post ++ items_at lines p

-- of each worker the history has the opening tape and then what was popped of its report line
abbrev pub AreReady : List Process → List (End Event) → List PostView → Type 0
AreReady processes lines posts = (p : ℕ) (post : PostView) → slice_get posts p ≡ Some post
    → IsReady processes lines p post

-- `further` has events that may be added to each tape of the history: with them each tape is a
-- prefix of the own tape, and links in order can lead to the own tapes
pub record MayTake (history : List Process) (further : List (List Event)) (own : List Process)
    : Type 0 where
  pub count : length further ≡ length history
  pub fit : IsFitFifo own
  pub limits : (p : ℕ) → IsProcess (length history) (process_at own p)
  pub incarnations : (p : ℕ) → incarnation_at history p ≡ incarnation_at own p
  pub begins : (p : ℕ) → IsPrefix (tape_at history p ++ row_at further p) (tape_at own p)
  pub present : (p k inc : ℕ) → sends (tape_at history p) ≤ k → Holds (tape_at own p) inc k
      → inc ≡ incarnation_at own p

-- some of the events that were to be added have been: what is left leads to the same tapes, and
-- there is room for it
pub record IsOnWay (old : List Process) (old_further : List (List Event)) (history : List Process)
    (rooms : List ℕ) (further : List (List Event)) : Type 0 where
  pub own : List Process
  pub may : MayTake history further own
  pub long : length history ≡ length old
  pub incarnation : (p : ℕ) → incarnation_at history p ≡ incarnation_at old p
  pub same : (p : ℕ)
      → tape_at history p ++ row_at further p ≡ tape_at old p ++ row_at old_further p
  pub room : (p : ℕ) → length (row_at further p) ≤ slice_index_or rooms p 0

-- `further` has of each of the first n workers what is still to be gathered, and there is room for
-- it
pub record AreFurtherBelow (n : ℕ) (failed : List Bool) (processes : List Process) (rooms : List ℕ)
    (posts : List PostView) (further : List (List Event)) : Type 0 where
  pub count : length further ≡ n
  pub each : (p : ℕ) (post : PostView) → p < n → slice_get posts p ≡ Some post
      → tape_at processes p ++ row_at further p ≡ gathered_tape (is_member failed p) post
  pub room : (p : ℕ) → p < n → length (row_at further p) ≤ slice_index_or rooms p 0
