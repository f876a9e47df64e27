-- What is gathered of the workers of a generation.
use Rattle.std.specs.Prelude.{◌≡◌, ◌<◌, ℕ, Bool, false, IsTrue, List, ◌++◌, if◌then◌else◌, length}
use Rattle.std.specs.Prelude.{slice_get, Some}
use mathlib.Core.List.{IsPrefix}
use Rattle.line_names.specs.Sets.{is_member}
use Rattle.line_tape.specs.declared.events.Event.{Event}
use Rattle.line_tape.specs.Fit.{IsFitFifo}
use Rattle.line_tape.specs.History.{Process, process_at, tape_at, incarnation_at}
use Rattle.line_tape.specs.Views.{MarksView}
use Rattle.line_posts.specs.Posts.{PostView, opening_tape, incarnation_of_post}

-- each failed process is one of the first n
abbrev pub AreBelow : ℕ → List Bool → Type 0
AreBelow n failed = (q : ℕ) → IsTrue (is_member failed q) → q < n

-- no process failed
abbrev pub HasNoneFailed : List Bool → Type 0
HasNoneFailed failed = (q : ℕ) → is_member failed q ≡ false

-- the opening tape of a worker, and then what it has reported
abbrev pub reported_events : PostView → List Event
reported_events post = opening_tape post ++ post.line.items

-- what is gathered of a worker: its tape or, where it failed, its opening tape and what it reported
abbrev pub gathered_tape : Bool → PostView → List Event
gathered_tape failed post = if failed then reported_events post else post.tape

-- the gathered history has of each worker its incarnation, and what is gathered of its tape
pub record AreGathered (failed : List Bool) (posts : List PostView) (gathered : List Process)
    : Type 0 where
  pub count : length gathered ≡ length posts
  pub each : (p : ℕ) (post : PostView) → slice_get posts p ≡ Some post → process_at gathered p
      ≡ record {
        incarnation = incarnation_of_post post;
        tape = gathered_tape (is_member failed p) post;
      }

-- what contracts see of what was gathered: the history, the marks of damage, who failed, the last
-- round that the lead recorded, and the capacity of a ring
pub record GatheredView : Type 0 where
  pub processes : List Process
  pub marks : MarksView
  pub failed : List Bool
  pub floor : ℕ
  pub capacity : ℕ

-- each gathered tape is a prefix of the process's own tape, and all of it where the process did not
-- fail
pub record ArePrefixes (failed : List Bool) (gathered own : List Process) : Type 0 where
  pub count : length gathered ≡ length own
  pub incarnations : (p : ℕ) → incarnation_at gathered p ≡ incarnation_at own p
  pub begins : (p : ℕ) → IsPrefix (tape_at gathered p) (tape_at own p)
  pub whole : (p : ℕ) → is_member failed p ≡ false → tape_at gathered p ≡ tape_at own p

-- the gathered tapes are prefixes of own tapes that links in order can lead to
abbrev pub HasOwn : List Bool → List Process → Type 0
HasOwn failed gathered = (own : List Process) × IsFitFifo own × ArePrefixes failed gathered own
