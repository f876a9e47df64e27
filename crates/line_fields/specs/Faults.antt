-- The numbers of the faults.
use Rattle.std.specs.Prelude.{ℕ}
use Rattle.line_fields.specs.declared.faults.Fault.{Fault}
use Rattle.line_fields.specs.declared.faults.Fault.TheVariants as faults

-- a fault's number
abbrev pub code_of : Fault → ℕ
code_of faults.NoSuchProcess = 1
code_of faults.BodyTooLong = 2
code_of faults.TapeFull = 3
code_of faults.StateTooLong = 5
code_of faults.BadCount = 6
code_of faults.InitialDamage = 7
code_of faults.AlreadyDamaged = 8
code_of faults.BarNotLower = 40
code_of faults.BadRecord = 32
code_of faults.BadNumber = 33
code_of faults.NoWorld = 34
code_of faults.BadVersion = 35
