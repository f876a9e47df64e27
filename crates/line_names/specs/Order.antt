-- The order of the choices of one process.
use Rattle.std.specs.Prelude.{◌≤◌}
use Rattle.line_names.specs.declared.choices.Choice.{Choice}
use Rattle.line_names.specs.declared.choices.Choice.TheVariants.{Check, Now}

-- the initial state, which is check 0, then the checks as they were taken, then `Now`
abbrev pub IsNoLater : Choice → Choice → Type 0
IsNoLater (Check a) (Check b) = a ≤ b
IsNoLater (Check a) Now = Unit {0}
IsNoLater Now (Check b) = ⊥
IsNoLater Now Now = Unit {0}
