use Rattle.std.proofs.Common.{◌≡◌, drop, length}
use Rattle.std.specs.Prelude.{map}
use Rattle.std.specs.List.{list_any, range_with_len}
use Rattle.std.specs.Option.{is_some}
use Rattle.line_tape.specs.Views.{bar_at}
use Rattle.line_claims.specs.Records.{in_order}
use Rattle.line_claims.proofs.judgements.version_of.Given as goal

abbrev pub invariant-loop-value : goal.invariant-loop-value
invariant-loop-value l =
    list_any is_some (in_order l.history.processes l.marks).bars ≡ list_any is_some
    (drop l.value (map (bar_at l.marks) (range_with_len 0 (length l.history.processes))))
