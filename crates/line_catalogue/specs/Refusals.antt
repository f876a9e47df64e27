-- What the refusals of marks are called where a catalogue answers them.
use Rattle.line_tape.specs.declared.marks.MarkError.{MarkError}
use Rattle.line_tape.specs.declared.marks.MarkError.TheVariants.{OutOfMemory as mark_memory}
use Rattle.line_tape.specs.declared.marks.MarkError.TheVariants.{InitialDamage as mark_initial}
use Rattle.line_tape.specs.declared.marks.MarkError.TheVariants.{AlreadyDamaged as mark_already}
use Rattle.line_catalogue.specs.declared.refusals.DamageError.{DamageError}
use Rattle.line_catalogue.specs.declared.refusals.DamageError.TheVariants.{OutOfMemory}
use Rattle.line_catalogue.specs.declared.refusals.DamageError.TheVariants.{InitialDamage}
use Rattle.line_catalogue.specs.declared.refusals.DamageError.TheVariants.{AlreadyDamaged}

-- the same word
abbrev pub mark_error : MarkError → DamageError
mark_error mark_memory = OutOfMemory
mark_error mark_initial = InitialDamage
mark_error mark_already = AlreadyDamaged
