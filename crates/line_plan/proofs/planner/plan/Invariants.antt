use Rattle.std.proofs.Common.{◌≡◌, ◌≤◌, ◌+◌, length, vec_len}
use Rattle.line_vectors.specs.Reach.{sents_of}
use Rattle.line_plan.specs.Search.{AreClean}
use Rattle.line_plan.specs.Sweeps.{AreOfNextSweep, sweeps_with_entries}
use Rattle.line_tape.specs.Chain.{first_ceilings, IsLed}
use Rattle.line_tape.specs.Height.{height}
use Rattle.line_plan.proofs.planner.plan.Given as goal

abbrev pub invariant-sweeps : goal.invariant-sweeps
invariant-sweeps l = record {
  led : IsLed l.catalogue.processes l.catalogue.marks l.failed l.certificate.items l.line;
  sent : l.visits.sent ≡ sents_of l.catalogue.processes l.line;
  clean : AreClean l.catalogue.processes l.line l.visits.dirty;
  due : AreOfNextSweep (length l.catalogue.processes) l.certificate.items l.visits.dirty;
  swept : sweeps_with_entries l.certificate.items ≡ l.sweeps;
  few : l.sweeps ≤ vec_len l.certificate;
  paid : vec_len l.certificate + height l.catalogue.processes l.line ≤ height l.catalogue.processes
      (first_ceilings l.catalogue.processes l.catalogue.marks l.failed);
}

abbrev pub decreases-sweeps : goal.decreases-sweeps
decreases-sweeps l = height l.catalogue.processes l.line
