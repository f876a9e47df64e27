use Rattle.std.proofs.Common.{◌≢◌, ℕ, ◌<◌, get_or}
use Rattle.std.specs.Prelude.{IsTrue}
use Rattle.line_rounds.specs.declared.spans.Span.{Span}
use Rattle.line_rounds.specs.Spans.{is_over}
use Rattle.line_rounds.proofs.markers.are_closed.Given as goal

abbrev pub invariant-each : goal.invariant-each
invariant-each l = (k : ℕ) (d : Span) → k < l.q → k ≢ l.me → IsTrue (is_over (get_or l.spans k d))
