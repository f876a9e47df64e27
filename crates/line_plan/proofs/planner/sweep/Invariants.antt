use Rattle.std.proofs.Common.{◌≡◌, false, length, vec_len}
use Rattle.line_tape.specs.Chain.{IsLed}
use Rattle.line_vectors.specs.Reach.{sents_of}
use Rattle.line_plan.specs.Search.{IsMoved, AreSentBelow, AreClean}
use Rattle.line_plan.specs.Sweeps.{IsSweeping}
use Rattle.line_plan.proofs.planner.sweep.Given as goal

abbrev pub invariant-loop-q : goal.invariant-loop-q
invariant-loop-q l = record {
  led : IsLed l.catalogue.processes l.catalogue.marks l.failed l.certificate.items l.line;
  sent : l.visits.sent ≡ sents_of l.catalogue.processes l.line;
  clean : AreClean l.catalogue.processes l.line l.visits.dirty;
  moved : IsMoved l.catalogue.processes l.initial.line
      (vec_len l.initial.certificate) l.lowered l.line (vec_len l.certificate);
  sweeping : IsSweeping (length l.catalogue.processes) l.initial.certificate.items l.q l.lowered
      l.certificate.items l.visits.dirty;
  none : l.lowered ≡ false → AreSentBelow l.catalogue.processes l.line l.q;
}
