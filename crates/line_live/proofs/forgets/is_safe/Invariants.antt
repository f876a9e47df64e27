use Rattle.std.proofs.Common.{◌≡◌, ◌<◌, ℕ, [], true}
use Rattle.line_names.specs.declared.choices.Choice.TheVariants.{Check as AtCheck}
use Rattle.line_tape.specs.Survival.{survives}
use Rattle.line_moves.specs.Listed.{check_in}
use Rattle.line_live.proofs.forgets.is_safe.Given as goal

abbrev pub invariant-each : goal.invariant-each
invariant-each l = (v : ℕ) → v < l.q
    → survives l.world.history l.world.marks [] v (AtCheck (check_in l.round v)) ≡ true
