use Rattle.std.proofs.Common.{◌<◌, ℕ}
use Rattle.std.specs.Prelude.{◌↔◌, IsTrue}
use Rattle.line_names.specs.Sets.{is_member}
use Rattle.line_text.proofs.views.everybody.Given as goal

abbrev pub invariant-loop-value : goal.invariant-loop-value
invariant-loop-value l = (q : ℕ) → IsTrue (is_member l.all q) ↔ (q < l.value)
