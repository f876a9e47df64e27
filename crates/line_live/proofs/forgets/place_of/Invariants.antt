use Rattle.std.proofs.Common.{◌≡◌, drop}
use Rattle.line_live.specs.Forgets.{listed_of}
use Rattle.line_live.proofs.forgets.place_of.Given as goal

abbrev pub invariant-each : goal.invariant-each
invariant-each l = listed_of l.rounds l.number ≡ listed_of (drop l.i l.rounds) l.number
