-- What stands of the line of a recovery in all that is reported after it.
use Rattle.std.specs.Prelude.{◌≡◌, ℕ, ◌<◌, List, length, take, Contains}
use Rattle.line_catalogue.specs.Agreement.{NameAgrees}
use Rattle.line_names.specs.declared.choices.Choice.{Choice}
use Rattle.line_names.specs.declared.choices.Choice.TheVariants.{Check as AtCheck}
use Rattle.line_names.specs.declared.messages.MsgName.{MsgName}
use Rattle.line_names.specs.Lines.{choice_at}
use Rattle.line_tape.specs.declared.events.Event.{Event}
use Rattle.line_tape.specs.declared.events.Event.TheVariants.{Recv}
use Rattle.line_tape.specs.Event.{Holds}
use Rattle.line_tape.specs.Front.{front}
use Rattle.line_tape.specs.History.{Process, tape_at}

-- the events of process p now that stand before the line of the last recovery: as many as that left
abbrev pub events_recovered : List Process → List Process → ℕ → List Event
events_recovered left now p = take (length (tape_at left p)) (tape_at now p)

-- the line of the last recovery, which left one history, in the history now
pub record IsRecoveredLine (line : List Choice) (left now : List Process) : Type 0 where
  -- what stands before it is what was left
  pub stays : (p : ℕ) → events_recovered left now p ≡ tape_at left p
  -- where a process went back to a check, it ends at that check
  pub checks : (p check : ℕ) → choice_at line p ≡ AtCheck check
      → front (tape_at now p) (AtCheck check) ≡ events_recovered left now p
  -- no message was received before it that was not sent before it
  pub consistent : (q : ℕ) (message : MsgName)
      → Contains (events_recovered left now q) (Recv message)
      → Holds (events_recovered left now message.from) message.inc message.number
  -- each message that was received, before it or since, was sent before it, or is a later one of
  -- the incarnation under which its sender went on
  pub since : (q : ℕ) (message : MsgName) → message.from < length left
      → Contains (tape_at now q) (Recv message) → NameAgrees left message
