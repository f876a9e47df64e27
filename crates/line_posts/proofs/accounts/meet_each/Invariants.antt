use Rattle.std.proofs.Common.{◌≡◌, ◌<◌, ℕ, vec_capacity}
use Rattle.std.specs.Prelude.{slice_get, Some}
use Rattle.line_posts.specs.Posts.{PostView}
use Rattle.line_posts.specs.Gathering.{AreMetTwo}
use Rattle.line_posts.proofs.accounts.meet_each.Given as goal

abbrev pub invariant-loop-j : goal.invariant-loop-j
invariant-loop-j l = record {
  one_is : l.one ≡ l.fn.one;
  others_are : l.others.items ≡ l.fn.others.items;
  room : vec_capacity l.others ≡ vec_capacity l.fn.others;
  met : (k : ℕ) (other : PostView) → k < l.j → slice_get l.fn.others.items k ≡ Some other
      → AreMetTwo l.fn.one other × AreMetTwo other l.fn.one;
}
