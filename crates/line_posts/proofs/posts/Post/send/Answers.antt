use Rattle.std.proofs.Common.{◌≡◌, ◌∙◌, refl, ap, arith}
use Rattle.std.proofs.lemmas.List.{length-map}
use Rattle.line_posts.specs.Ends.{out_ends, with_item, producer_end, ring_at}
use Rattle.line_posts.proofs.EndLemmas.{ring_item}
use Rattle.line_posts.specs.declared.parcels.Parcel.TheVariants.{Message}
use Rattle.line_posts.proofs.StepLemmas.{send_keeps}
use Rattle.line_posts.proofs.SameLemmas.{same_via}
use Rattle.line_posts.proofs.posts.Post.send.Goals as goal

pub invariant_of-self-2 : goal.invariant_of-self-2
invariant_of-self-2 c =
    let (h, inc, told, n, me_is, know) = c.self.invariant in
    let count = h.out_count in
    let long = length-map c.self.inside.outs.items producer_end in
    let sent = c.send.ensures.tape in
    let put = c.push_known.ensures.ends in
    let free = c.make_way.ensures in
    let numbered = c.sends-number.ensures in
    let to = c.get.ensures.value in
    let last = c.send.ensures.same in (
      send_keeps _ c.args.to c.args.body _ _ _ _ h
          (omega (arith, count, long, c.in_default.ensures.process)) c.in_default.ensures.other
          (cc (sent, free.tape, inc)) (cc (put, to, numbered, inc, free.tape, free.ends)),
      inc,
      told,
      last.n_is ∙ (free.same.n_is ∙ n),
      last.me_is ∙ (free.same.me_is ∙ me_is),
      know,
    )

pub returns-clause-same : goal.returns-clause-same
returns-clause-same c =
    let free = c.make_way.ensures.ends in
    let put : out_ends c.push_known.new.outs.items
    ≡ with_item (out_ends c.self.inside.outs.items) c.get.result
    (Message (record {
      inc = c.self.inside.incarnation;
      number = c.sends-number.result;
      body =
          c.args.body;
    })) = cc (c.push_known.ensures.ends, free) in
    same_via _ _ _ c.self.view_is (record {
      number = refl;
      opening = refl;
      outs = λ q. ap (λ t. ring_at t q) put ∙ ring_item
          (out_ends c.self.inside.outs.items) c.get.result q (Message (record
          { inc = c.self.inside.incarnation; number = c.sends-number.result; body = c.args.body }));
      ins = λ p. refl;
      line = refl;
    })
