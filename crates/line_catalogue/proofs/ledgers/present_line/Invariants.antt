use Rattle.std.proofs.Common.{◌≡◌, replicate}
use Rattle.line_names.specs.declared.choices.Choice.TheVariants.{Now}
use Rattle.line_catalogue.proofs.ledgers.present_line.Given as goal

abbrev pub invariant-loop-q : goal.invariant-loop-q
invariant-loop-q l = l.line ≡ replicate l._q Now
