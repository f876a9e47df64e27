-- The command that is asked for with what it carries lent.
use Rattle.line_tape.specs.StepShown as steps
use Rattle.line_scripts.specs.declared.commands.Command.{Command}
use Rattle.line_scripts.specs.declared.commands.Command.TheVariants.{Bundle, Do, History, Refused}
use Rattle.line_scripts.specs.declared.commands.Command.TheVariants.{Answer, Forget, Live, Plan}
use Rattle.line_scripts.specs.declared.commands.Command.TheVariants.{Rounds, Save}
use Rattle.line_scripts.specs.declared.commands.CommandRef.{CommandRef}
use Rattle.line_scripts.specs.declared.commands.CommandRef.TheVariants as lent

-- the command that is asked for so, its message, state or set lent
abbrev pub command_of_ref : CommandRef → Command
command_of_ref (lent.Do step) = Do (steps.step_of_ref step)
command_of_ref lent.Rounds = Rounds
command_of_ref lent.History = History
command_of_ref (lent.Bundle failed) = Bundle failed.now
command_of_ref (lent.Plan failed) = Plan failed.now
command_of_ref lent.Live = Live
command_of_ref (lent.Answer failed) = Answer failed.now
command_of_ref (lent.Forget round) = Forget round
command_of_ref lent.Save = Save
command_of_ref (lent.Refused code) = Refused code

-- the bytes lent as the body of a message are no more than a body has
abbrev pub HasShortBodyInStep : CommandRef → Type 0
HasShortBodyInStep (lent.Do step) = steps.HasShortBody step
HasShortBodyInStep lent.Rounds = Unit {0}
HasShortBodyInStep lent.History = Unit {0}
HasShortBodyInStep (lent.Bundle failed) = Unit {0}
HasShortBodyInStep (lent.Plan failed) = Unit {0}
HasShortBodyInStep lent.Live = Unit {0}
HasShortBodyInStep (lent.Answer failed) = Unit {0}
HasShortBodyInStep (lent.Forget round) = Unit {0}
HasShortBodyInStep lent.Save = Unit {0}
HasShortBodyInStep (lent.Refused code) = Unit {0}
