-- The law, by what each step leaves of the names.
use Rattle.line_laws.proofs.SpentLemmas.{no_later_start}
use Rattle.line_world.proofs.NameFacts.{Run-names}
use Rattle.line_world.specs.Machine.{start}
use Rattle.line_world.proofs.laws.runs_name_apart.Goals as goal

pub returns : goal.returns
returns c = λ n mode steps answers machine run.
    (Run-names (start n mode) machine steps answers (no_later_start n) run).apart
