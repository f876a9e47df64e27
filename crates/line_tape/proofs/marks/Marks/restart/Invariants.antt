use Rattle.std.proofs.Common.{◌≡◌}
use Rattle.line_tape.proofs.EachLemmas.{so_far, kept_damage}
use Rattle.line_tape.proofs.marks.Marks.restart.Given as goal

abbrev pub invariant-loop-p : goal.invariant-loop-p
invariant-loop-p l = record {
  damaged : l.self-inside.damaged.items ≡ so_far kept_damage l.fn.self.damaged l.line l.p;
  bars : l.self-inside.bars ≡ l.fn.self.bars;
}
