use Rattle.std.proofs.Common.{◌≡◌, ◌∙◌, refl, sym, arith}
use Rattle.std.specs.Prelude.{slice_get, Some}
use Rattle.std.proofs.lemmas.Option.{slice_get_within}
use Rattle.line_tape.specs.History.{IsTape}
use Rattle.line_posts.specs.Posts.{IsPost, PostView}
use Rattle.line_posts.proofs.GatherLemmas.{accounted, all_of, fits, order_more}
use Rattle.line_posts.proofs.MeetLemmas.{there}
use Rattle.line_posts.proofs.accounts.account.Goals as goal

pub loop-p-preserved : goal.loop-p-preserved
loop-p-preserved c =
    let t = c.loop-p-test.true in
    let l = c.len-p-end.ensures in
    let k = c.len.ensures in
    let m = c.n.ensures in
    let v = c.number.ensures.value in
    let f = c.if-number-p.false in
    let g = c.if-n-len.false in
    order_more (λ (post : PostView). IsPost post × IsTape post.tape) c.args.posts.now.items
    c.loop-p.p c.index-post.result.now (there c.args.posts.now.items c.args.posts.now.items
    c.loop-p.p c.index-post.result.now refl (omega (arith, t, l)) c.index-post.ensures)
    c.number.ensures.known (sym v ∙ f) (omega (arith, m, g, k)) c.loop-p.invariant

pub returns-clause-order : goal.returns-clause-order
returns-clause-order c =
    let seen = λ (p : _) (post : _) (at : slice_get c.args.posts.now.items p ≡ Some post).
    (let f = c.loop-p-test.false in let l = c.len-p-end.ensures in let w = slice_get_within
    c.args.posts.now.items p post at in c.loop-p.invariant p post (omega (arith, f, l, w)) at)
    in
    (λ _. λ p post at. ((seen p post at).1, (seen p post at).2), λ _. refl)

pub returns-clause-accounted : goal.returns-clause-accounted
returns-clause-accounted c _ =
    let seen = λ (p : _) (post : _) (at : slice_get c.args.posts.now.items p ≡ Some post).
    (let f = c.loop-p-test.false in let l = c.len-p-end.ensures in let w = slice_get_within
    c.args.posts.now.items p post at in c.loop-p.invariant p post (omega (arith, f, l, w)) at)
    in
    accounted c.args.posts.now.items
    (all_of c.args.posts.now.items (λ p post at. (seen p post at).0.0)
    (λ p post at. ((seen p post at).1, (seen p post at).2))) c.requires c.meet_all.ensures.met

pub returns-clause-fit : goal.returns-clause-fit
returns-clause-fit c _ =
    let seen = λ (p : _) (post : _) (at : slice_get c.args.posts.now.items p ≡ Some post).
    (let f = c.loop-p-test.false in let l = c.len-p-end.ensures in let w = slice_get_within
    c.args.posts.now.items p post at in c.loop-p.invariant p post (omega (arith, f, l, w)) at)
    in
    fits c.args.posts.now.items (all_of c.args.posts.now.items (λ p post at. (seen p post at).0.0)
    (λ p post at. ((seen p post at).1, (seen p post at).2))) c.requires c.meet_all.ensures.met

pub returns-clause-known : goal.returns-clause-known
returns-clause-known c = λ _ p post at.
    (let f = c.loop-p-test.false in let l = c.len-p-end.ensures in let w = slice_get_within
    c.args.posts.now.items p post at in (c.loop-p.invariant p post (omega (arith, f, l, w)) at).0)
