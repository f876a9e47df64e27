use Rattle.std.proofs.Common.{◌≡◌, ℕ, ◌<◌, length}
use Rattle.line_rounds.specs.Kept.{turns_at, no_turns}
use Rattle.line_rounds.proofs.colours.Colours.clear.Given as goal

abbrev pub invariant-loop-p : goal.invariant-loop-p
invariant-loop-p l = (length l.self-inside.processes.items ≡ length l.fn.self)
    × ((k : ℕ) → k < l.p → turns_at l.self-inside.processes.items k ≡ no_turns)
