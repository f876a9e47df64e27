-- What later commands leave of the line that is planned where every process failed.
use Rattle.std.specs.Prelude.{◌≢◌, List, Option, Some, None}
use Rattle.line_names.specs.declared.choices.Choice.{Choice}
use Rattle.line_names.specs.declared.choices.Choice.TheVariants.{Check as AtCheck}
use Rattle.line_names.specs.Lines.{choice_at}
use Rattle.line_names.specs.Order.{IsNoLater}
use Rattle.line_scripts.specs.declared.commands.Command.{Command}
use Rattle.line_scripts.specs.declared.commands.Command.TheVariants as commands
use Rattle.line_tape.specs.declared.steps.Step.{Step}
use Rattle.line_tape.specs.declared.steps.Step.TheVariants.{Damage, Bar}
use Rattle.line_world.specs.declared.replies.Answer.{Answer}
use Rattle.line_world.specs.declared.replies.Answer.TheVariants.{Done}
use Rattle.line_world.specs.declared.replies.Reply.TheVariants.{Recovered}

-- the line that an answer tells of, if it tells of one
abbrev pub line_told : Answer → Option (List Choice)
line_told (Done (Recovered plan states incarnations)) = Some plan.value.line
line_told answer = None

-- the step damages no check of the line, and bars no process at an earlier one
abbrev pub IsSparing : List Choice → Step → Type 0
IsSparing line (Damage at check) = choice_at line at ≢ AtCheck check
IsSparing line (Bar at check) = IsNoLater (choice_at line at) (AtCheck check)
IsSparing line step = Unit {0}

-- nor does a command, which asks for one step at most, and lets nothing go
abbrev pub SparesLine : List Choice → Command → Type 0
SparesLine line (commands.Do step) = IsSparing line step
SparesLine line (commands.Forget round) = ⊥
SparesLine line command = Unit {0}
