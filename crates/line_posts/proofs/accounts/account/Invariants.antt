use Rattle.std.proofs.Common.{◌≡◌, ◌<◌, ℕ, length}
use Rattle.std.specs.Prelude.{slice_get, Some}
use Rattle.line_tape.specs.History.{IsTape}
use Rattle.line_posts.specs.Posts.{IsPost, PostView}
use Rattle.line_posts.proofs.accounts.account.Given as goal

abbrev pub invariant-loop-p : goal.invariant-loop-p
invariant-loop-p l = (k : ℕ) (post : PostView) → k < l.p → slice_get l.posts.items k ≡ Some post
    → (IsPost post × IsTape post.tape) × (post.number ≡ k)
    × (length post.opening ≡ length l.posts.items)
