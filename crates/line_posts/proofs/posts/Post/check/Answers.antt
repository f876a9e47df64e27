use Rattle.std.proofs.Common.{◌∙◌}
use Rattle.line_posts.proofs.StepLemmas.{alone_keeps}
use Rattle.line_posts.proofs.posts.Post.check.Goals as goal

pub invariant_of-self-2 : goal.invariant_of-self-2
invariant_of-self-2 c =
    let (h, inc, told, n, me_is, know) = c.self.invariant in
    let pushed = c.check.ensures.tape in
    let same = c.reserve_events.ensures.tape in
    let kept = c.reserve_events.ensures.same in
    let taken = c.check.ensures.same in (
      alone_keeps _ c.args.state _ _ _ h (cc (pushed, same)),
      inc,
      told,
      taken.n_is ∙
          (kept.n_is ∙ n),
      taken.me_is ∙ (kept.me_is ∙ me_is),
      know,
    )
