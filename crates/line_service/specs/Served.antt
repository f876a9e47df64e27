-- Where a service is, as its code keeps it. No contract that a caller reads needs this.
use Rattle.std.specs.Prelude.{◌≡◌, [], false, true, ⊤}
use Rattle.line_service.specs.declared.machines.Served.{Served}
use Rattle.line_service.specs.declared.machines.Served.TheVariants as served
use Rattle.line_claims.specs.Saved.{SavedParts}
use Rattle.line_claims.specs.SavedReadings.{is_whole}
use Rattle.line_tape.specs.Views.{no_marks}
use Rattle.line_service.specs.Services.{ServiceState, Empty, Has, Reads}

-- where it is
abbrev pub standing_of : Served → ServiceState
standing_of served.Nothing = Empty
standing_of (served.Text text) = Reads text.reader text.number
standing_of (served.Machine live) = Has live

-- the text of a saved machine that is read has not ended
abbrev pub IsUnended : Served → Type 0
IsUnended served.Nothing = ⊤
IsUnended (served.Text text) = is_whole text.reader ≡ false
IsUnended (served.Machine live) = ⊤

-- nothing of a saved machine
abbrev pub no_parts : SavedParts
no_parts = record { floors = []; history = []; marks = no_marks 0; rounds = []; last = 0 }

-- the text of a saved machine is read
abbrev pub IsText : Served → Type 0
IsText served.Nothing = ⊥
IsText (served.Text text) = ⊤
IsText (served.Machine live) = ⊥

-- and has ended
abbrev pub IsWhole : Served → Type 0
IsWhole served.Nothing = ⊥
IsWhole (served.Text text) = is_whole text.reader ≡ true
IsWhole (served.Machine live) = ⊥

-- what was taken of it
abbrev pub parts_of : Served → SavedParts
parts_of served.Nothing = no_parts
parts_of (served.Text text) = text.reader.parts
parts_of (served.Machine live) = no_parts
