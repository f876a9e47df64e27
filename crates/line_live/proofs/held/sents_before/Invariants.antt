use Rattle.std.proofs.Common.{◌≡◌, ◌<◌, ℕ, length, get_or}
use Rattle.line_vectors.specs.Reach.{sent_count}
use Rattle.line_live.proofs.held.sents_before.Given as goal

abbrev pub invariant-loop-q : goal.invariant-loop-q
invariant-loop-q l = record {
  count : length l.sent ≡ length l.catalogue.processes;
  each : (p : ℕ) → p < l.q → get_or l.sent p 0 ≡ sent_count l.catalogue.processes l.line p;
}
