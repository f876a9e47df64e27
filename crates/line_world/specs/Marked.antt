-- What the refusals of marks and bars are called where a world answers them.
use Rattle.line_catalogue.specs.declared.refusals.DamageError.{DamageError}
use Rattle.line_catalogue.specs.declared.refusals.DamageError.TheVariants.{OutOfMemory as mark_memory}
use Rattle.line_catalogue.specs.declared.refusals.DamageError.TheVariants.{NoSuchCheck as mark_check}
use Rattle.line_catalogue.specs.declared.refusals.DamageError.TheVariants.{InitialDamage as mark_initial}
use Rattle.line_catalogue.specs.declared.refusals.DamageError.TheVariants.{AlreadyDamaged as mark_already}
use Rattle.line_tape.specs.declared.bars.BarError.{BarError}
use Rattle.line_tape.specs.declared.bars.BarError.TheVariants.{NoSuchCheck as bar_check}
use Rattle.line_tape.specs.declared.bars.BarError.TheVariants.{BarNotLower as bar_lower}
use Rattle.line_world.specs.declared.replies.StepError.{StepError}
use Rattle.line_world.specs.declared.replies.StepError.TheVariants.{OutOfMemory, NoSuchCheck}
use Rattle.line_world.specs.declared.replies.StepError.TheVariants.{InitialDamage, AlreadyDamaged}
use Rattle.line_world.specs.declared.replies.StepError.TheVariants.{BarNotLower}

-- the same word
abbrev pub damage_error : DamageError → StepError
damage_error mark_memory = OutOfMemory
damage_error mark_check = NoSuchCheck
damage_error mark_initial = InitialDamage
damage_error mark_already = AlreadyDamaged

-- the same word
abbrev pub bar_error : BarError → StepError
bar_error bar_check = NoSuchCheck
bar_error bar_lower = BarNotLower
