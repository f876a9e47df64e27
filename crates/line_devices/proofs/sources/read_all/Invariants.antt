use Rattle.std.proofs.Common.{◌≡◌, ◌≤◌, ◌+◌, length}
use Rattle.line_devices.specs.Devices.{Fills}
use Rattle.line_devices.proofs.sources.read_all.Given as goal

abbrev pub invariant-loop-turn : goal.invariant-loop-turn
invariant-loop-turn g l = record {
  moved : l.turn ≤ length l.text.items;
  within : length l.text.items ≤ 67108864;
  sound : g.S.Source.faults l.source ≡ g.S.Source.faults l.fn.source;
  unended : g.S.Source.ends l.source ≡ g.S.Source.ends l.fn.source;
  counted : g.S.Source.given l.source ≡ g.S.Source.given l.fn.source + length l.text.items;
  read : Fills (g.S.Source.left l.fn.source) (g.S.Source.left l.source) l.text.items;
}
