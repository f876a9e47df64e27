-- What a history is left with by who follows an answer.
use Rattle.std.specs.Prelude.{◌≡◌, ℕ, List, map, slice_get, Some}
use Rattle.line_names.specs.declared.choices.Choice.TheVariants.{Check as AtCheck}
use Rattle.line_names.specs.Lines.{choice_at}
use Rattle.line_tape.specs.declared.events.Event.TheVariants.{Send}
use Rattle.line_tape.specs.Event.{checks, stored_state}
use Rattle.line_tape.specs.History.{Process, tape_at}
use Rattle.line_tape.specs.Restart.{restarted_history}
use Rattle.line_tape.specs.Transit.{in_transit}
use Rattle.line_check.specs.declared.answers.Replay.{Replay}
use Rattle.line_check.specs.declared.answers.Start.{Start}
use Rattle.line_check.specs.Answers.{WholeAnswer}

-- it is what a restart at the answer's line leaves: the incarnations, the state of the last check
-- of each process that goes back, and the messages in transit, each as its sender's tape has it
pub record LeavesARestart (history : List Process) (answer : WholeAnswer) : Type 0 where
  pub incarnations : map (λ (start : Start). start.inc) answer.starts
      ≡ map (λ (process : Process). process.incarnation) (restarted_history history answer.line)
  pub states : (p c : ℕ) (start : Start) → slice_get answer.starts p ≡ Some start
      → choice_at answer.line p ≡ AtCheck c
      → (checks (tape_at (restarted_history history answer.line) p) ≡ c)
      × (start.state ≡ Some (stored_state (tape_at (restarted_history history answer.line) p) c))
  pub messages : map (λ (replay : Replay). replay.message) answer.replays
      ≡ in_transit history answer.line
  pub sends : (k : ℕ) (replay : Replay) → slice_get answer.replays k ≡ Some replay
      → slice_get (tape_at history replay.message.from) replay.place
      ≡ Some (Send replay.to replay.message.inc replay.body)
