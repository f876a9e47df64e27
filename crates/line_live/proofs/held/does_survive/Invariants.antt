use Rattle.std.proofs.Common.{◌≡◌, ◌<◌, ℕ, [], true}
use Rattle.line_names.specs.declared.choices.Choice.TheVariants.{Check as AtCheck}
use Rattle.line_tape.specs.Survival.{survives}
use Rattle.line_cuts.specs.Cuts.{floor_check}
use Rattle.line_live.specs.Resumed.{kept_floor}
use Rattle.line_live.proofs.held.does_survive.Given as goal

abbrev pub invariant-each : goal.invariant-each
invariant-each l = (p : ℕ) → p < l.q → survives l.catalogue.processes l.catalogue.marks [] p
    (AtCheck (floor_check (kept_floor l.floor) p)) ≡ true
