use Rattle.std.proofs.Common.{sym, subst}
use Rattle.line_posts.specs.Posts.{PostView}
use Rattle.line_posts.specs.Generations.{IsSamePost}
use Rattle.line_posts.proofs.SameLemmas.{same_then}
use Rattle.line_workers.proofs.loads.StreamWork.work.Goals as goal
use Rattle.line_workers.proofs.loads.StreamWork.work.Goals.{then-sends, else-sends}

pub loop-message-preserved : goal.loop-message-preserved
loop-message-preserved c = elim c.if-sends.branch [
  | then-sends w ↦ subst (λ (v : PostView). IsSamePost c.args.post v) (sym w.post-is)
      (same_then _ _ _ c.loop-message.invariant w.send_soon-is_done.ensures)
  | else-sends w ↦ subst (λ (v : PostView). IsSamePost c.args.post v) (sym w.post-is)
      (same_then _ _ _ c.loop-message.invariant w.receive_soon-is_done.ensures)
]

pub returns-then-not-is_done : goal.returns-then-not-is_done
returns-then-not-is_done c = elim c.if-sends.branch [
  | then-sends w ↦ subst (λ (v : PostView). IsSamePost c.args.post v) (sym w.post-is)
      (same_then _ _ _ c.loop-message.invariant w.send_soon-is_done.ensures)
  | else-sends w ↦ subst (λ (v : PostView). IsSamePost c.args.post v) (sym w.post-is)
      (same_then _ _ _ c.loop-message.invariant w.receive_soon-is_done.ensures)
]
