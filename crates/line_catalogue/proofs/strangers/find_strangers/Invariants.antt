use Rattle.line_catalogue.specs.Left.{AreStrangers}
use Rattle.line_catalogue.proofs.strangers.find_strangers.Given as goal

abbrev pub invariant-loop-r : goal.invariant-loop-r
invariant-loop-r l = AreStrangers l.catalogue.processes l.line l.set
