use Rattle.std.proofs.Common.{◌≢◌, take}
use Rattle.std.specs.List.{All}
use Rattle.line_names.specs.declared.choices.Choice.TheVariants.{Now}
use Rattle.line_cuts.proofs.found_floors.is_of_checks.Given as goal

abbrev pub invariant-loop-choice : goal.invariant-loop-choice
invariant-loop-choice l = All (λ choice. choice ≢ Now) (take l.choice-index l.choices)
