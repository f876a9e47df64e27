use Rattle.std.proofs.Common.{◌∙◌, length, sym, ap, subst, arith}
use Rattle.std.proofs.lemmas.Option.{slice_get_within}
use Rattle.line_posts.specs.Posts.{PostView}
use Rattle.line_posts.specs.Generations.{HasRing}
use Rattle.line_posts.specs.Gathering.{AreMetTwo}
use Rattle.line_posts.proofs.MeetLemmas.{there, linked_there, set_back, met_more}
use Rattle.line_posts.proofs.accounts.meet_each.Goals as goal

pub meet_two-requires-clause-opened : goal.meet_two-requires-clause-opened
meet_two-requires-clause-opened c =
    let i = c.loop-j.invariant in
    (linked_there c.args.one.now c.loop-j.one c.loop-j.others.items c.args.others.now.items
    c.loop-j.j c.len-j-end.result c.index_mut-other.result.now i.one_is i.others_are
    c.loop-j-test.true (let l = c.len-j-end.ensures in omega (arith, l))
    c.index_mut-other.ensures.value c.requires.linked).0

pub meet_two-requires-clause-linked : goal.meet_two-requires-clause-linked
meet_two-requires-clause-linked c =
    let i = c.loop-j.invariant in
    (linked_there c.args.one.now c.loop-j.one c.loop-j.others.items c.args.others.now.items
    c.loop-j.j c.len-j-end.result c.index_mut-other.result.now i.one_is i.others_are
    c.loop-j-test.true (let l = c.len-j-end.ensures in omega (arith, l))
    c.index_mut-other.ensures.value c.requires.linked).1

pub meet_two-requires-in-loop-j-clause-opened : goal.meet_two-requires-in-loop-j-clause-opened
meet_two-requires-in-loop-j-clause-opened c =
    let i = c.loop-j.invariant in
    let same = (linked_there c.args.one.now c.loop-j.one c.loop-j.others.items
    c.args.others.now.items c.loop-j.j c.len-j-end.result c.index_mut-other.result.now i.one_is
    i.others_are c.loop-j-test.true (let l = c.len-j-end.ensures in omega (arith, l))
    c.index_mut-other.ensures.value c.requires.linked).0 in
    let opened = λ (t : PostView). t.opening in
    ap opened c.meet_two.ensures.to ∙ (sym same ∙ sym (ap opened c.meet_two.ensures.from))

pub meet_two-requires-in-loop-j-clause-linked : goal.meet_two-requires-in-loop-j-clause-linked
meet_two-requires-in-loop-j-clause-linked c =
    let i = c.loop-j.invariant in
    let back = (linked_there c.args.one.now c.loop-j.one c.loop-j.others.items
    c.args.others.now.items c.loop-j.j c.len-j-end.result c.index_mut-other.result.now i.one_is
    i.others_are c.loop-j-test.true (let l = c.len-j-end.ensures in omega (arith, l))
    c.index_mut-other.ensures.value c.requires.linked).2 in
    subst (λ v. HasRing v c.meet_two.new.from) (sym c.meet_two.ensures.to)
    (subst (λ v. HasRing c.index_mut-other.result.now v) (sym c.meet_two.ensures.from) back)

pub loop-j-preserved : goal.loop-j-preserved
loop-j-preserved c =
    let i = c.loop-j.invariant in
    let other : PostView = c.index_mut-other.result.now in
    let one : PostView = c.args.one.now in
    let t = c.loop-j-test.true in
    let l = c.len-j-end.ensures in
    let e = ap length i.others_are in
    let at = there c.loop-j.others.items c.args.others.now.items c.loop-j.j other i.others_are
    (omega (arith, t, l, e)) c.index_mut-other.ensures.value in
    let forth = subst (λ v. AreMetTwo v other) i.one_is c.meet_two.ensures.met in
    let from = subst (λ v. AreMetTwo v c.meet_two.new.from) c.meet_two.ensures.to
    c.meet_two-in-loop-j.ensures.met in
    let back = subst (λ v. AreMetTwo other v) (c.meet_two.ensures.from ∙ i.one_is) from in
    record {
      one_is = c.meet_two-in-loop-j.ensures.to ∙ (c.meet_two.ensures.from ∙ i.one_is);
      others_are = set_back c.loop-j.others.items c.args.others.now.items c.loop-j.j other
          c.meet_two-in-loop-j.new.from i.others_are c.index_mut-other.ensures.value
          (c.meet_two-in-loop-j.ensures.from ∙ c.meet_two.ensures.to);
      room = i.room;
      met = met_more one c.args.others.now.items c.loop-j.j other at forth back i.met;
    }

pub returns-clause-met : goal.returns-clause-met
returns-clause-met c = λ j other here.
    (let i = c.loop-j.invariant in
    let f = c.loop-j-test.false in
    let l = c.len-j-end.ensures in
    let w = slice_get_within c.args.others.now.items j other here in
    i.met j other (omega (arith, f, l, w)) here)
