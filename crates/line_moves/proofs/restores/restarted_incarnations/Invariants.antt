use Rattle.std.proofs.Common.{◌≡◌, map, vec_len, vec_capacity}
use Rattle.std.specs.List.{range_with_len}
use Rattle.line_names.specs.Lines.{choice_at}
use Rattle.line_tape.specs.History.{incarnation_at}
use Rattle.line_tape.specs.Restart.{restarted_incarnation}
use Rattle.line_moves.proofs.restores.restarted_incarnations.Given as goal

abbrev pub invariant-loop-q : goal.invariant-loop-q
invariant-loop-q l =
    (l.incarnations.items ≡ map (λ p. restarted_incarnation (choice_at l.line p)
    (incarnation_at l.history.processes p)) (range_with_len 0 l.q))
    × (vec_len l.incarnations ≡ l.q)
    × (vec_capacity l.incarnations ≡ l.n)
