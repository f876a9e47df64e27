use Rattle.std.proofs.Common.{sym, subst}
use Rattle.line_posts.specs.Posts.{PostView}
use Rattle.line_posts.specs.Generations.{IsSamePost}
use Rattle.line_posts.proofs.SameLemmas.{same_then}
use Rattle.line_workers.proofs.loads.send_each.Goals as goal
use Rattle.line_workers.proofs.loads.send_each.Goals.{then-q-number+in-Ok+else-not-send_soon}
use Rattle.line_workers.proofs.loads.send_each.Goals.{else-q-number}

pub loop-q-preserved : goal.loop-q-preserved
loop-q-preserved c = elim c.if-q-number.branch [
  | then-q-number+in-Ok+else-not-send_soon w ↦ subst (λ (v : PostView). IsSamePost c.args.post.now
      v) (sym w.post-is) (same_then _ _ _ c.loop-q.invariant w.send_soon.ensures)
  | else-q-number w ↦ subst (λ (v : PostView). IsSamePost c.args.post.now v)
      (sym w.post-is) c.loop-q.invariant
]

pub returns-then-not-send_soon : goal.returns-then-not-send_soon
returns-then-not-send_soon c = same_then _ _ _ c.loop-q.invariant c.send_soon.ensures
