use Rattle.std.proofs.Common.{◌≡◌, ◌≤◌, length, map, take, vec_capacity}
use Rattle.line_rounds.specs.Spans.{names_of, open_span}
use Rattle.line_rounds.proofs.logs.Logs.open.Given as goal

abbrev pub invariant-loop-log : goal.invariant-loop-log
invariant-loop-log l =
    (l.spans.items ≡ map open_span (names_of (take l.log-index l.self)))
    × (length l.self ≤ vec_capacity l.spans)
