use Rattle.std.proofs.Common.{◌≡◌, ◌<◌, ℕ, length}
use Rattle.line_catalogue.specs.Known.{AreKnown, AreMarkRows, AreReceiptsMarkedSince}
use Rattle.line_catalogue.specs.Left.{place_at}
use Rattle.line_catalogue.proofs.known.mark_all.Given as goal

abbrev pub invariant-loop-p : goal.invariant-loop-p
invariant-loop-p l = length l.bases.items ≡ length l.ends

abbrev pub invariant-loop-q : goal.invariant-loop-q
invariant-loop-q l = record {
  rows : AreMarkRows l.history.processes l.starts.items l.marks.items;
  known : AreKnown l.history.processes l.line l.bases.items l.starts.items l.marks.items;
  noted : (q : ℕ) → q < l.q → AreReceiptsMarkedSince l.history.processes l.line l.bases.items
      l.starts.items l.marks.items q (place_at l.places q);
}
