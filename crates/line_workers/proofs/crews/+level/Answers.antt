use Rattle.std.proofs.Common.{subst}
use Rattle.line_posts.specs.Posts.{PostView}
use Rattle.line_posts.specs.Generations.{IsSamePost}
use Rattle.line_posts.proofs.SameLemmas.{same_moved}
use Rattle.line_workers.proofs.crews.+level.Goals as goal

pub returns-clause-same : goal.returns-clause-same
returns-clause-same g t c =
    same_moved c.args.posts.items c.pop.new.self.items c.in_ok-all.all.items
    c.push_reserved.new.self.items c.in-Some.post c.join-back.result
    c.in-Some.ensures.items c.push_reserved.ensures.items c.in_ok-all.ensures.same
    (subst (λ (v : PostView). IsSamePost v c.join-back.result) c.in_ok-handle.ensures
    c.join-back.ensures)
