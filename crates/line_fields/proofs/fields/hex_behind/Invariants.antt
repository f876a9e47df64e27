use Rattle.std.proofs.Common.{◌≤◌, ◌+◌, ◌/◌, length, vec_len, vec_capacity}
use Rattle.line_fields.proofs.HexLemmas.{IsHexTo}
use Rattle.line_fields.proofs.fields.hex_behind.Given as goal

abbrev pub invariant-loop-eight : goal.invariant-loop-eight
invariant-loop-eight l = record {
  read : IsHexTo (vec_len l.fn.bytes) l.fn.bytes.items l.text
      l.bytes.items l.rest;
  room : vec_len l.bytes + length l.rest / 2 ≤ vec_capacity l.bytes;
}

abbrev pub decreases-loop-eight : goal.decreases-loop-eight
decreases-loop-eight l = length l.rest

abbrev pub invariant-loop-four : goal.invariant-loop-four
invariant-loop-four l = record {
  read : IsHexTo (vec_len l.fn.bytes) l.fn.bytes.items l.text
      l.bytes.items l.rest;
  room : vec_len l.bytes + length l.rest / 2 ≤ vec_capacity l.bytes;
}

abbrev pub decreases-loop-four : goal.decreases-loop-four
decreases-loop-four l = length l.rest

abbrev pub invariant-loop-rest : goal.invariant-loop-rest
invariant-loop-rest l = record {
  read : IsHexTo (vec_len l.fn.bytes) l.fn.bytes.items l.text
      l.bytes.items l.rest;
  room : vec_len l.bytes + length l.rest / 2 ≤ vec_capacity l.bytes;
}

abbrev pub decreases-loop-rest : goal.decreases-loop-rest
decreases-loop-rest l = length l.rest
