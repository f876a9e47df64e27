use Rattle.line_posts.specs.Ends.{known_rows}
use Rattle.line_posts.proofs.EndLemmas.{knows_more}
use Rattle.line_posts.proofs.accounts.meet_self.Goals as goal

pub invariant_of-post : goal.invariant_of-post
invariant_of-post c =
    let (h, inc, told, n, me_is, know) = c.post.invariant in
    let I = c.post.inside in (
      rw (c.meet.ensures.outs, c.meet.ensures.ins) h,
      inc,
      told,
      n,
      me_is,
      knows_more
          (known_rows I.shown.value.items) I.ins.items c.meet.new.ins.items c.get-p.result know
          c.meet.ensures.seen c.meet.ensures.others,
    )
