use Rattle.std.proofs.Common.{◌≡◌, ◌≤◌, length, vec_len}
use Rattle.line_vectors.specs.Reach.{sents_of}
use Rattle.line_tape.specs.Height.{height}
use Rattle.line_tape.specs.Chain.{IsLed}
use Rattle.line_plan.specs.Search.{AreFirstSent, IsMoved, IsSameBut}
use Rattle.line_plan.specs.Sweeps.{HasPassed}
use Rattle.line_plan.proofs.planner.visit.Given as goal

abbrev pub invariant-orphans : goal.invariant-orphans
invariant-orphans l = record {
  led : IsLed l.catalogue.processes l.catalogue.marks l.failed l.certificate.items l.line;
  sent : l.sent ≡ sents_of l.catalogue.processes l.line;
  alone : IsSameBut l.initial.line l.line l.at;
  moved : IsMoved l.catalogue.processes l.initial.line
      (vec_len l.initial.certificate) l.lowered l.line (vec_len l.certificate);
  passed : HasPassed l.at l.lowered l.initial.certificate.items l.certificate.items;
  few : l.clear ≤ length l.catalogue.processes;
  clear : AreFirstSent l.catalogue.processes l.line l.at l.clear;
}

abbrev pub decreases-orphans : goal.decreases-orphans
decreases-orphans l = height l.catalogue.processes l.line
