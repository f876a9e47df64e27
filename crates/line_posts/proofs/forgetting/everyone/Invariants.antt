use Rattle.std.proofs.Common.{◌≡◌, ◌<◌, ℕ, true}
use Rattle.line_names.specs.Sets.{is_member}
use Rattle.line_posts.proofs.forgetting.everyone.Given as goal

abbrev pub invariant-loop-r : goal.invariant-loop-r
invariant-loop-r l = (q : ℕ) → q < l.r → is_member l.all q ≡ true
