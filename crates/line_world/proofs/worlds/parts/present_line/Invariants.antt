use Rattle.std.proofs.Common.{◌≡◌, replicate}
use Rattle.line_names.specs.declared.choices.Choice.TheVariants.{Now}
use Rattle.line_world.proofs.worlds.parts.present_line.Given as goal

abbrev pub invariant-loop-p : goal.invariant-loop-p
invariant-loop-p l = l.line ≡ replicate l._p Now
