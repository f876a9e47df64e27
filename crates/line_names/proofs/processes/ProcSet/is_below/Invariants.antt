use Rattle.std.proofs.Common.{ℕ, ◌<◌, ◌*◌}
use Rattle.std.specs.Prelude.{IsTrue}
use Rattle.line_names.specs.Bits.{has_bit}
use Rattle.line_names.proofs.processes.ProcSet.is_below.Given as goal

abbrev pub invariant-loop-k : goal.invariant-loop-k
invariant-loop-k l = (p : ℕ) → p < 64 * l.k → IsTrue (has_bit l.self-inside.words p) → p < l.n
