use Rattle.std.proofs.Common.{◌≡◌, ◌<◌, ◌≤◌, ℕ, [], length, get_or}
use Rattle.line_moves.proofs.recorders.put.Given as goal

abbrev pub invariant-loop-q : goal.invariant-loop-q
invariant-loop-q l =
    (length l.noted.items ≡ l._q)
    × ((k : ℕ) → get_or l.noted.items k [] ≡ get_or l.fn.noted.items k [])
    × ((n : ℕ) → l.fn.message.from < n → length l.fn.noted.items ≤ n → l._q ≤ n)
