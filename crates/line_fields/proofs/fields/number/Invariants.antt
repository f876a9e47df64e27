use Rattle.std.proofs.Common.{◌≡◌, ◌≤◌, length}
use Rattle.line_fields.proofs.NumLemmas.{num_after}
use Rattle.line_fields.proofs.fields.number.Given as goal

abbrev pub invariant-loop-rest : goal.invariant-loop-rest
invariant-loop-rest l = record {
  same : num_after l.least l.most l.value l.rest
      ≡ num_after l.least l.most 0 l.text;
  small : l.value ≤ l.most;
}

abbrev pub decreases-loop-rest : goal.decreases-loop-rest
decreases-loop-rest l = length l.rest
