-- The step that is asked for with what it carries lent.
use Rattle.std.specs.Prelude.{◌≤◌, length}
use Rattle.line_names.specs.declared.limits.TheConstants.{MOST_BODY}
use Rattle.line_tape.specs.declared.steps.Step.{Step}
use Rattle.line_tape.specs.declared.steps.Step.TheVariants.{Send, Deliver, Check, Begin, Turn}
use Rattle.line_tape.specs.declared.steps.Step.TheVariants.{Damage, Bar, Recover}
use Rattle.line_tape.specs.declared.steps.StepRef.{StepRef}
use Rattle.line_tape.specs.declared.steps.StepRef.TheVariants.{Send as SendRef}
use Rattle.line_tape.specs.declared.steps.StepRef.TheVariants.{Deliver as DeliverRef}
use Rattle.line_tape.specs.declared.steps.StepRef.TheVariants.{Check as CheckRef}
use Rattle.line_tape.specs.declared.steps.StepRef.TheVariants.{Begin as BeginRef, Turn as TurnRef}
use Rattle.line_tape.specs.declared.steps.StepRef.TheVariants.{Damage as DamageRef, Bar as BarRef}
use Rattle.line_tape.specs.declared.steps.StepRef.TheVariants.{Recover as RecoverRef}

-- the step that is asked for so, its message, state or set lent
abbrev pub step_of_ref : StepRef → Step
step_of_ref (SendRef from to body) = Send from to body.now
step_of_ref (DeliverRef from to pick state) = Deliver from to pick state.now
step_of_ref (CheckRef at state) = Check at state.now
step_of_ref (BeginRef at state) = Begin at state.now
step_of_ref (TurnRef at state) = Turn at state.now
step_of_ref (DamageRef at check) = Damage at check
step_of_ref (BarRef at check) = Bar at check
step_of_ref (RecoverRef failed) = Recover failed.now

-- the bytes lent as the body of a message are no more than a body has
abbrev pub HasShortBody : StepRef → Type 0
HasShortBody (SendRef from to body) = length body.now ≤ MOST_BODY
HasShortBody (DeliverRef from to pick state) = Unit {0}
HasShortBody (CheckRef at state) = Unit {0}
HasShortBody (BeginRef at state) = Unit {0}
HasShortBody (TurnRef at state) = Unit {0}
HasShortBody (DamageRef at check) = Unit {0}
HasShortBody (BarRef at check) = Unit {0}
HasShortBody (RecoverRef failed) = Unit {0}
