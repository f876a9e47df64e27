use Rattle.std.proofs.Common.{◌≡◌, ◌<◌, length}
use Rattle.line_text.proofs.TurnLemmas.{IsServedTo}
use Rattle.line_text.proofs.turns.serve_lines.Given as goal

abbrev pub invariant-turns : goal.invariant-turns
invariant-turns g l = record {
  room : 0 < length l.room;
  served : IsServedTo g.C.Answerer.rules l.fn.conversation.state l.turn l.conversation
      (g.S.Source.left l.fn.source) (g.S.Source.left l.source) (g.S.Source.given l.fn.source)
      (g.S.Source.given l.source) (g.K.Sink.taken l.fn.sink) (g.K.Sink.taken l.sink);
  heard : g.S.Source.faults l.source ≡ g.S.Source.faults l.fn.source;
  sound : g.K.Sink.faults l.sink ≡ g.K.Sink.faults l.fn.sink;
  unended : g.S.Source.ends l.source ≡ g.S.Source.ends l.fn.source;
}
