use Rattle.std.proofs.Common.{◌≡◌}
use Rattle.line_tape.specs.Survival.{survives}
use Rattle.line_tape.specs.Chain.{latest_check}
use Rattle.line_catalogue.proofs.catalogues.Catalogue.latest_check.Given as goal

abbrev pub invariant-loop-check : goal.invariant-loop-check
invariant-loop-check l =
    latest_check (survives l.self.processes l.self.marks l.failed l.p) l.check
    ≡ latest_check (survives l.self.processes l.self.marks l.failed l.p) l.last

abbrev pub decreases-loop-check : goal.decreases-loop-check
decreases-loop-check l = l.check
