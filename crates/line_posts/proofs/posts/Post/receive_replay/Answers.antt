use Rattle.std.proofs.Common.{◌≡◌, ◌∙◌, map, sym, ap, subst, arith}
use Rattle.std.specs.Prelude.{length, ◌<◌}
use Rattle.std.specs.VecDeque.{deque_items}
use Rattle.line_posts.specs.Ends.{in_ends, known_rows, row_at}
use Rattle.line_posts.specs.Posts.{PostView}
use Rattle.line_posts.specs.Receipts.{without_first}
use Rattle.line_posts.proofs.ReceiveLemmas.{replay_keeps}
use Rattle.line_posts.proofs.LookLemmas.{full_replay, lack_replay, sees_here, sees_via}
use Rattle.line_posts.proofs.StepLemmas.{ok_part}
use Rattle.line_posts.proofs.posts.Post.receive_replay.Goals as goal

pub invariant_of-self-2 : goal.invariant_of-self-2
invariant_of-self-2 c =
    let (h, inc, told, n, me_is, know) = c.self.invariant in
    let v = c.self.view_is in
    let pushed = ok_part c.receive.result _
    (sym c.is_err.ensures.value ∙ c.if-is_err.false) c.receive.ensures.tape in
    let heard = c.receive.ensures.same in
    let p = c.get-p.ensures.value in
    let w = subst (λ (t : PostView). c.args.from < length t.opening) (sym v) c.requires.within in
    let K = map deque_items c.self.inside.kept.items in
    let (rest, row) = c.first_kept-first.ensures in
    let named = c.message_name-name.ensures in
    let found = c.take_kept-packet.ensures.first in
    let same : c.first_kept-first.result.now ≡ c.take_kept-packet.result = cc (row, found) in
    let first = ap (row_at K) (sym p) ∙ found in (
      replay_keeps _ c.args.from c.take_kept-packet.result _ _ _ _ _ h w first
          (cc (pushed, named, same)) (c.take_kept-packet.ensures.rows ∙ ap (without_first K) p),
      inc,
      told,
      heard.n_is ∙ n,
      heard.me_is ∙ me_is,
      know,
    )

pub returns-then-len-ge-MOST_EVENTS-clause-why : goal.returns-then-len-ge-MOST_EVENTS-clause-why
returns-then-len-ge-MOST_EVENTS-clause-why c = λ state may shown.
    (let many = c.if-len-ge-MOST_EVENTS.true in
    let len = c.len.ensures.value in
    let tape = ap (λ (t : PostView). length t.tape) c.self.view_is in
    full_replay c.args.self.now shown c.args.from state may c.requires.kept
    (omega (arith, many, len, tape)))

pub returns-then-is_err-clause-why : goal.returns-then-is_err-clause-why
returns-then-is_err-clause-why c = λ state may shown.
    (let few = c.if-len-ge-MOST_EVENTS.false in
    let len = c.len.ensures.value in
    let tape = ap (λ (t : PostView). length t.tape) c.self.view_is in
    lack_replay c.args.self.now shown c.args.from state may c.requires.kept
    (omega (arith, few, len, tape)))

pub returns-then-is_err-clause-seen : goal.returns-then-is_err-clause-seen
returns-then-is_err-clause-seen c = sees_via _ c.args.self.now (in_ends c.self.inside.ins.items)
    (known_rows c.self.inside.shown.value.items) c.self.view_is
    (sees_here (in_ends c.self.inside.ins.items) (known_rows c.self.inside.shown.value.items))

pub returns-clause-seen : goal.returns-clause-seen
returns-clause-seen c = sees_via _ c.args.self.now (in_ends c.self.inside.ins.items)
    (known_rows c.self.inside.shown.value.items) c.self.view_is
    (sees_here (in_ends c.self.inside.ins.items) (known_rows c.self.inside.shown.value.items))
