use Rattle.std.proofs.Common.{refl, subst}
use Rattle.line_posts.specs.declared.refusals.SendWhy.{SendWhy}
use Rattle.line_posts.specs.Refusals.{IsNotSent}
use Rattle.line_workers.proofs.WaitLemmas.{seen_same}
use Rattle.line_workers.proofs.workers.send_once.Goals as goal

pub returns-in-NoSuchProcess-clause-cause : goal.returns-in-NoSuchProcess-clause-cause
returns-in-NoSuchProcess-clause-cause c = (
  c.args.to,
  refl,
  subst (λ (why : SendWhy). IsNotSent
      c.args.post.now c.args.to why) c.in-NoSuchProcess.is c.in-Err.ensures.why,
)

pub returns-in-RingFull-clause-cause : goal.returns-in-RingFull-clause-cause
returns-in-RingFull-clause-cause c = (
  seen_same c.args.post.now c.send.new.self c.in-Err.ensures.err.1,
  subst (λ
      (why : SendWhy). IsNotSent c.args.post.now c.args.to why) c.in-RingFull.is
      c.in-Err.ensures.why,
)
