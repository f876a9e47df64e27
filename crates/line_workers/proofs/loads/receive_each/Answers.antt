use Rattle.std.proofs.Common.{sym, subst}
use Rattle.line_posts.specs.Posts.{PostView}
use Rattle.line_posts.specs.Generations.{IsSamePost}
use Rattle.line_posts.proofs.SameLemmas.{same_then}
use Rattle.line_workers.proofs.loads.receive_each.Goals as goal
use Rattle.line_workers.proofs.loads.receive_each.Goals.{then-p-number+in-Ok+else-not-receive_soon}
use Rattle.line_workers.proofs.loads.receive_each.Goals.{else-p-number}

pub loop-p-preserved : goal.loop-p-preserved
loop-p-preserved c = elim c.if-p-number.branch [
  | then-p-number+in-Ok+else-not-receive_soon w ↦ subst (λ (v : PostView). IsSamePost
      c.args.post.now v) (sym w.post-is) (same_then _ _ _ c.loop-p.invariant w.receive_soon.ensures)
  | else-p-number w ↦ subst (λ (v : PostView). IsSamePost c.args.post.now v)
      (sym w.post-is) c.loop-p.invariant
]

pub returns-then-not-receive_soon : goal.returns-then-not-receive_soon
returns-then-not-receive_soon c = same_then _ _ _ c.loop-p.invariant c.receive_soon.ensures
