use Rattle.std.proofs.Common.{◌∙◌, ap, subst}
use Rattle.line_posts.specs.Ends.{known_rows}
use Rattle.line_posts.proofs.EndLemmas.{knows_more, knows_self}
use Rattle.line_posts.specs.Posts.{IsPost, PostView}
use Rattle.line_posts.proofs.GatheringLemmas.{gathered_known}
use Rattle.line_posts.proofs.posts.Post.gathered_len.Goals as goal

pub returns-clause-known : goal.returns-clause-known
returns-clause-known c =
    gathered_known c.args.failed c.args.self.now _ _
    (subst IsPost c.self.view_is c.self.invariant.0)
    (c.meet_end.ensures.fifo ∙ ap (λ (v : PostView). v.line.items) c.self.view_is)

pub returns-clause-seen : goal.returns-clause-seen
returns-clause-seen c =
    let old = c.args.lines.now.items in
    knows_more (known_rows old) old c.meet_end.new.ins.items c.args.p
    (knows_self old) c.meet_end.ensures.seen c.meet_end.ensures.others
