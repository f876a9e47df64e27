-- Machines that differ at most in the order in which marks were made.
use Rattle.std.specs.Prelude.{◌≡◌}
use Rattle.line_tape.specs.declared.steps.Step.{Step}
use Rattle.line_world.specs.declared.replies.Answer.{Answer}
use Rattle.line_world.specs.Machine.{Machine}
use Rattle.line_world.specs.Runs.{Takes}
use Rattle.line_cuts.specs.Cuts.{Floor}
use Rattle.line_live.specs.CutMachines.{cut_machine, whole_answer, IsBeside, TakesWithRoom}
use Rattle.line_cuts.specs.Marks.{AreSameMarks}

-- they are the same but for that order
pub record IsSameMachine (machine other : Machine) : Type 0 where
  pub mode : machine.mode ≡ other.mode
  pub history : machine.history ≡ other.history
  pub marks : AreSameMarks machine.marks other.marks
  pub last_round : machine.last_round ≡ other.last_round
  pub rounds : machine.rounds ≡ other.rounds
  pub copies : machine.copies ≡ other.copies

-- the machine may give this answer to the step, and goes on to one that is the same as the new one
-- but for that order
pub record IsAnsweredAlike (machine : Machine) (step : Step) (answer : Answer)
    (new : Machine) : Type 0 where
  pub after : Machine
  pub takes : Takes machine step answer after
  pub same : IsSameMachine new after

-- the machine that keeps everything may give this answer to the step, brought back, and what is
-- left of it then is the new one but for that order
pub record IsAnsweredAsWhole (floor : Floor) (whole : Machine) (step : Step) (answer : Answer)
    (new : Machine) : Type 0 where
  pub after : Machine
  pub takes : TakesWithRoom whole step (whole_answer floor answer) after
  pub beside : IsBeside floor after
  pub same : IsSameMachine new (cut_machine floor after)
