-- What a verdict on an answer says: the first thing that is wrong with it.
use Rattle.std.specs.Prelude.{◌≡◌, ◌≢◌, ◌⊎◌, ℕ, ◌+◌, ◌<◌, Bool, List, [], ◌∷◌, length, take}
use Rattle.std.specs.Prelude.{Contains, slice_get, Some, None}
use Rattle.line_names.specs.declared.choices.Choice.{Choice}
use Rattle.line_names.specs.declared.messages.MsgName.{MsgName}
use Rattle.line_tape.specs.Chain.{IsChain}
use Rattle.line_tape.specs.History.{Process}
use Rattle.line_tape.specs.Line.{IsSentBefore, IsReceivedBefore}
use Rattle.line_tape.specs.Transit.{addressee}
use Rattle.line_tape.specs.Views.{MarksView}
use Rattle.line_check.specs.declared.answers.Replay.{Replay}
use Rattle.line_check.specs.declared.answers.Start.{Start}
use Rattle.line_check.specs.declared.faults.CertFault.{CertFault}
use Rattle.line_check.specs.declared.faults.FaultCode.{FaultCode}
use Rattle.line_check.specs.declared.faults.FaultCode.TheVariants.{BadShape, StateDiffers}
use Rattle.line_check.specs.declared.faults.FaultCode.TheVariants.{IncarnationDiffers, NotInTransit}
use Rattle.line_check.specs.declared.faults.FaultCode.TheVariants.{ReplayDiffers, ReplayRepeated}
use Rattle.line_check.specs.declared.faults.FaultCode.TheVariants.{ReplayMissing}
use Rattle.line_check.specs.Answers.{WholeAnswer, start_due, starts_due, replays_due}
use Rattle.line_check.specs.Shape.{HasShape}
use Rattle.line_check.specs.Verdict.{IsFirstFault}

-- the message is sent before the line, and the process that its Send names has not received it
-- before the line
pub record IsInTransit (history : List Process) (line : List Choice) (message : MsgName)
    : Type 0 where
  pub sent : IsSentBefore history line message
  pub unreceived : (to : ℕ) → addressee history message ≡ Some to
      → IsReceivedBefore history line to message → ⊥

-- these are some of those, in their order
abbrev pub ArePartOf : List Replay → List Replay → Type 0
ArePartOf [] due = Unit {0}
ArePartOf (first ∷ rest) [] = ⊥
ArePartOf (first ∷ rest) (next ∷ due) =
    ((first ≡ next) × ArePartOf rest due) ⊎ ArePartOf (first ∷ rest) due

-- what is wrong with where a process goes on
pub data IsStartFault (right start : Start) : FaultCode → Type 0 where
  -- its state
  state : start.state ≢ right.state → IsStartFault right start StateDiffers
  -- its state is right, and its incarnation is not
  incarnation : start.state ≡ right.state → start.inc ≢ right.inc
      → IsStartFault right start IncarnationDiffers

-- what is wrong with the last of these messages that are sent again, those before it being right
pub data IsReplayFault (history : List Process) (line : List Choice) (replays : List Replay)
    (last : Replay) : FaultCode → Type 0 where
  -- it is not in transit
  not_in_transit : (IsInTransit history line last.message → ⊥)
      → IsReplayFault history line replays last NotInTransit
  -- it is in transit, and its addressee, its place or its body is another
  differs : IsInTransit history line last.message
      → (Contains (replays_due history line) last → ⊥)
      → IsReplayFault history line replays last ReplayDiffers
  -- it is as it is sent again, and does not follow those before it
  repeated : IsInTransit history line last.message
      → Contains (replays_due history line) last
      → (ArePartOf replays (replays_due history line) → ⊥)
      → IsReplayFault history line replays last ReplayRepeated

-- what is wrong with these messages that are sent again: with one of them, counted from 0, those
-- before it being right, or with none
pub data IsFaultOfReplays (history : List Process) (line : List Choice) (replays : List Replay)
    (fault : CertFault) : Type 0 where
  -- the first k are right, and the next is wrong
  wrong : (k : ℕ) (replay : Replay)
      → fault.entry ≡ Some k
      → ArePartOf (take k replays) (replays_due history line)
      → slice_get replays k ≡ Some replay
      → IsReplayFault history line (take (k + 1) replays) replay fault.code
      → IsFaultOfReplays history line replays fault
  -- they are right, and not all that are in transit
  missing : fault ≡ record { entry = None; code = ReplayMissing }
      → ArePartOf replays (replays_due history line)
      → replays ≢ replays_due history line
      → IsFaultOfReplays history line replays fault

-- what is wrong with where the processes go on: with one of them, those before it being right
pub record IsFaultOfStarts (history : List Process) (line : List Choice) (starts : List Start)
    (fault : CertFault) : Type 0 where
  pub p : ℕ
  pub start : Start
  pub entry_is : fault.entry ≡ Some p
  pub before : (q : ℕ) → q < p → slice_get starts q ≡ Some (start_due history line q)
  pub here : slice_get starts p ≡ Some start
  pub wrong : IsStartFault (start_due history line p) start fault.code

-- the first thing that is wrong with an answer: with its line or its certificate, then with where a
-- process goes on, and then with what is sent again
pub data IsFirstFaultOfAnswer (history : List Process) (marks : MarksView) (failed : List Bool)
    (answer : WholeAnswer) (fault : CertFault) : Type 0 where
  -- it does not say of each process where it goes on
  uncounted : length answer.starts ≢ length history
      → fault ≡ record { entry = None; code = BadShape }
      → IsFirstFaultOfAnswer history marks failed answer fault
  -- its line, or its certificate
  of_line : length answer.starts ≡ length history
      → IsFirstFault history marks failed answer.certificate answer.line fault.entry fault.code
      → IsFirstFaultOfAnswer history marks failed answer fault
  -- those are right, and where a process goes on is wrong
  of_starts : HasShape history marks failed answer.certificate answer.line
      → IsChain history marks failed answer.certificate answer.line
      → length answer.starts ≡ length history
      → IsFaultOfStarts history answer.line answer.starts fault
      → IsFirstFaultOfAnswer history marks failed answer fault
  -- so is where all go on right, and what is sent again is wrong
  of_replays : HasShape history marks failed answer.certificate answer.line
      → IsChain history marks failed answer.certificate answer.line
      → answer.starts ≡ starts_due history answer.line
      → IsFaultOfReplays history answer.line answer.replays fault
      → IsFirstFaultOfAnswer history marks failed answer fault
