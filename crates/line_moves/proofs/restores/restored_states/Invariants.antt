use Rattle.std.proofs.Common.{◌≡◌, map, vec_len, vec_capacity}
use Rattle.std.specs.List.{range_with_len}
use Rattle.line_names.specs.Lines.{choice_at}
use Rattle.line_tape.specs.History.{tape_at}
use Rattle.line_moves.specs.Restarts.{restored_state}
use Rattle.line_moves.proofs.restores.restored_states.Given as goal

abbrev pub invariant-loop-q : goal.invariant-loop-q
invariant-loop-q l =
    (l.states.items ≡ map (λ p. restored_state (tape_at l.history.processes p) (choice_at l.line p))
    (range_with_len 0 l.q))
    × (vec_len l.states ≡ l.q)
    × (vec_capacity l.states ≡ l.n)
