use Rattle.std.proofs.Common.{◌≡◌, ◌<◌, ◌≤◌, ℕ, length}
use Rattle.line_posts.specs.Ends.{out_ends, free_at}
use Rattle.line_posts.specs.declared.parcels.Parcel.TheVariants.{Marker}
use Rattle.line_posts.proofs.MarkerLemmas.{with_others_below}
use Rattle.line_posts.proofs.markers.push_markers.Given as goal

abbrev pub invariant-loop-q : goal.invariant-loop-q
invariant-loop-q l = record {
  ends : out_ends l.outs.items
      ≡ with_others_below (out_ends l.fn.outs.items) l.me l.q (Marker l.round);
  room : (k : ℕ) → l.q ≤ k → k < length l.fn.outs.items → 0 < free_at l.outs.items k;
}
