use Rattle.std.proofs.Common.{◌≡◌, ◌≤◌, ◌+◌, ◌-◌, ◌++◌, ◌*◌, length, take, vec_len, vec_capacity}
use Rattle.std.specs.List.{flat_map}
use Rattle.line_fields.specs.Texts.{hex_pair, hex_text}
use Rattle.line_fields.proofs.digits.push_hex.Given as goal

abbrev pub invariant-loop-rest : goal.invariant-loop-rest
invariant-loop-rest l = record {
  same : l.out.items ++ hex_text l.rest ≡ l.fn.out.items
      ++ hex_text l.bytes;
  room : vec_len l.out + 2 * length l.rest ≤ vec_capacity l.out;
}

abbrev pub decreases-loop-rest : goal.decreases-loop-rest
decreases-loop-rest l = length l.rest

abbrev pub invariant-loop-byte : goal.invariant-loop-byte
invariant-loop-byte l = record {
  same : l.out.items ≡ l.initial.out.items ++ flat_map hex_pair (take l.byte-index l.byte-items);
  room : vec_len l.out + 2 * (length l.byte-items - l.byte-index) ≤ vec_capacity l.out;
}
