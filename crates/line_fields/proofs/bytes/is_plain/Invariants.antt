use Rattle.std.proofs.Common.{◌≡◌, ◌&&◌, drop, length}
use Rattle.line_fields.specs.Bytes.{is_input_text}
use Rattle.line_fields.proofs.bytes.is_plain.Given as goal

abbrev pub invariant-loop-rest : goal.invariant-loop-rest
invariant-loop-rest l = is_input_text l.rest ≡ is_input_text l.text

abbrev pub decreases-loop-rest : goal.decreases-loop-rest
decreases-loop-rest l = length l.rest

abbrev pub invariant-loop-i : goal.invariant-loop-i
invariant-loop-i l = is_input_text l.rest ≡ (l.allowed && is_input_text (drop l.i l.rest))
