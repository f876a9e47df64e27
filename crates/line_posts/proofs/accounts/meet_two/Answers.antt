use Rattle.line_posts.specs.Ends.{known_rows}
use Rattle.line_posts.proofs.EndLemmas.{knows_more}
use Rattle.line_posts.proofs.accounts.meet_two.Goals as goal

pub invariant_of-to : goal.invariant_of-to
invariant_of-to c =
    let (h, inc, told, n, me_is, know) = c.to.invariant in
    let I = c.to.inside in (
      rw c.meet.ensures.ins h,
      inc,
      told,
      n,
      me_is,
      knows_more
          (known_rows I.shown.value.items) I.ins.items c.meet.new.ins.items c.get-p.result know
          c.meet.ensures.seen c.meet.ensures.others,
    )
