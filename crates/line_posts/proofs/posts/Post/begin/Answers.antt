use Rattle.std.proofs.Common.{◌∙◌, refl, ap}
use Rattle.line_posts.specs.Ends.{out_ends, ring_at}
use Rattle.line_posts.proofs.MarkerLemmas.{check_keeps, ring_others}
use Rattle.line_posts.proofs.SameLemmas.{same_via}
use Rattle.line_posts.proofs.posts.Post.begin.Goals as goal

pub invariant_of-self-2 : goal.invariant_of-self-2
invariant_of-self-2 c =
    let (h, inc, told, n, me_is, know) = c.self.invariant in
    let made = c.in_ok-round.ensures in
    let (is, none) = made.round in
    let pushed = c.begin.ensures.tape in
    let begun = c.begin.ensures.same in
    let put = c.push_markers.ensures in
    let me = c.get.ensures.value in (
      check_keeps _ c.args.state c.in_ok-round.round _ _ _ _ h none (cc (pushed, made.tape))
          (cc (put, made.ends, me)),
      inc,
      told,
      begun.n_is ∙ (made.same.n_is ∙ n),
      begun.me_is ∙
          (made.same.me_is ∙ me_is),
      know,
    )

pub returns-clause-same : goal.returns-clause-same
returns-clause-same c =
    let put = c.push_markers.ensures in
    let ends = c.in_ok-round.ensures.ends in
    let old = out_ends c.make_round.new.outs.items in
    same_via _ _ _ c.self.view_is (record {
      number = refl;
      opening = refl;
      outs = λ q. ap (λ t. ring_at t q) put ∙
          (ring_others old c.get.result q _ ∙ ap (λ t. ring_at t q) ends);
      ins = λ p. refl;
      line = refl;
    })
