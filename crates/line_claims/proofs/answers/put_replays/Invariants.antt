use Rattle.std.proofs.Common.{◌≤◌, length}
use Rattle.std.specs.Prelude.{map}
use Rattle.line_check.specs.Answers.{replays_due, still_due}
use Rattle.line_devices.proofs.OutputLemmas.{IsOut}
use Rattle.line_fields.specs.Texts.{records_text}
use Rattle.line_claims.specs.Records.{full_replay_record}
use Rattle.line_claims.proofs.answers.put_replays.Given as goal

abbrev pub invariant-due : goal.invariant-due
invariant-due g l = record {
  number : (l.cursor.number ≤ l.cursor.place);
  out : (IsOut (g.K.Sink.taken l.fn.sink) (g.K.Sink.taken l.sink) (g.K.Sink.faults l.fn.sink)
      (g.K.Sink.faults l.sink) l.fn.writer l.writer
      (records_text (map full_replay_record (replays_due l.history.processes l.line)))
      (records_text (map full_replay_record (still_due l.history.processes l.line l.cursor))));
}

abbrev pub decreases-due : goal.decreases-due
decreases-due g l = length (still_due l.history.processes l.line l.cursor)
