use Rattle.std.proofs.Common.{◌≡◌, ◌+◌, ℕ, get_or, vec_len, vec_capacity}
use Rattle.line_tape.proofs.receipts.ends.lengthen.Given as goal

abbrev pub invariant-loop-place : goal.invariant-loop-place
invariant-loop-place l =
    ((place : ℕ) → get_or l.links.items place 0 ≡ get_or l.initial.links.items place 0)
    × (vec_len l.links ≡ vec_len l.initial.links + l._place)
    × (vec_capacity l.links ≡ vec_capacity l.initial.links)
