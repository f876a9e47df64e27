use Rattle.std.proofs.Common.{◌≡◌, ◌≤◌, ◌+◌, ◌-◌, ◌*◌, ◌++◌, ◌∷◌, length, take, vec_capacity}
use Rattle.std.proofs.Common.{vec_len}
use Rattle.std.specs.Prelude.{decimal}
use Rattle.std.specs.List.{flat_map}
use Rattle.line_fields.proofs.outlets.push_numbers.Given as goal

abbrev pub invariant-loop-i : goal.invariant-loop-i
invariant-loop-i l = record {
  same : l.text.items ≡ l.fn.text.items ++ flat_map (λ n. 44 ∷ decimal n) (take l.i l.numbers);
  room : vec_len l.text + 41 * (length l.numbers - l.i) ≤ vec_capacity l.text;
  len : vec_len l.text + 41 * (length l.numbers - l.i) ≤ vec_len l.fn.text + 41 * length l.numbers;
  capacity : vec_capacity l.fn.text ≤ vec_capacity l.text;
}
