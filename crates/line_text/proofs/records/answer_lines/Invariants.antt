use Rattle.std.proofs.Common.{◌≡◌, length, true}
use Rattle.line_fields.specs.Bytes.{is_input_text}
use Rattle.line_text.specs.Progress.{AnswersWhole, spot}
use Rattle.line_text.proofs.records.answer_lines.Given as goal

abbrev pub invariant-lines : goal.invariant-lines
invariant-lines g l = record {
  answered : AnswersWhole g.C.Answerer.rules
      (spot l.fn.seat.answerer l.fn.seat.outcome l.fn.seat.writer) l.fn.bytes l.rest
      (spot l.seat.answerer l.seat.outcome l.seat.writer) (g.K.Sink.taken l.fn.sink)
      (g.K.Sink.taken l.sink);
  input : l.plain ≡ true → is_input_text l.rest ≡ true;
  sound : g.K.Sink.faults l.sink ≡ g.K.Sink.faults l.fn.sink;
}

abbrev pub decreases-lines : goal.decreases-lines
decreases-lines g l = length l.rest
