use Rattle.std.proofs.Common.{◌≡◌, ◌≤◌, ◌++◌, ◌+◌, ◌-◌, length, take, vec_capacity, vec_len}
use Rattle.line_fields.proofs.lines.push_word.Given as goal

abbrev pub invariant-loop-byte : goal.invariant-loop-byte
invariant-loop-byte l = record {
  same : l.out.items ≡ l.fn.out.items ++ take l.byte-index l.word;
  len : vec_len l.out ≡ vec_len l.fn.out + l.byte-index;
  capacity : vec_capacity l.fn.out ≤ vec_capacity l.out;
  room : vec_len l.out + (length l.word - l.byte-index) ≤ vec_capacity l.out;
}
