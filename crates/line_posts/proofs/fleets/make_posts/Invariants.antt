use Rattle.std.proofs.Common.{◌≡◌, ◌≤◌, ℕ, drop, length}
use Rattle.std.specs.Prelude.{vec_capacity}
use Rattle.line_posts.specs.Ends.{out_rows, in_rows}
use Rattle.line_posts.specs.Fleets.{AreMade}
use Rattle.line_posts.specs.Preparations.{AreJournals}
use Rattle.line_posts.specs.Replays.{packets_of}
use Rattle.line_posts.proofs.fleets.make_posts.Given as goal

abbrev pub invariant-loop-q : goal.invariant-loop-q
invariant-loop-q l = record {
  made : (floor : ℕ) → AreJournals l.history.processes floor l.fn.journals.items
      → AreMade l.history.processes floor (out_rows l.fn.ends.rings.outs.items)
      (in_rows l.fn.ends.rings.ins.items) (out_rows l.fn.ends.lines.items) l.q (out_rows
      l.rings.outs.items) (in_rows l.rings.ins.items) (out_rows l.lines.items) l.posts.items;
  journals_left : l.journals.items ≡ drop l.q l.fn.journals.items;
  replays_left : packets_of l.replays.items ≡ drop l.q (packets_of l.fn.replays.items);
  room : length l.history.processes ≤ vec_capacity l.posts;
}
