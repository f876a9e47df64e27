use Rattle.std.proofs.Common.{◌≡◌, ◌<◌, ◌≤◌, ◌+◌, length}
use Rattle.line_text.specs.Inputs.{HasCome, waiting}
use Rattle.line_text.proofs.windows.read_lines.Given as goal

abbrev pub invariant-loop-turn : goal.invariant-loop-turn
invariant-loop-turn g l = record {
  moved : l.turn ≤ l.read;
  within : l.read ≤ 67108864;
  room : l.window.held < length l.window.bytes.items;
  sound : g.S.Source.faults l.source ≡ g.S.Source.faults l.fn.source;
  unended : g.S.Source.ends l.source ≡ g.S.Source.ends l.fn.source;
  counted : g.S.Source.given l.source ≡ g.S.Source.given l.fn.source + l.read;
  come : HasCome (g.S.Source.left l.fn.source) (g.S.Source.left l.source) l.read (waiting l.window)
      (g.R.LineReader.has_taken l.reader);
}
