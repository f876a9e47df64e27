use Rattle.std.proofs.Common.{◌∙◌, length, sym, ap, arith}
use Rattle.std.proofs.lemmas.List.{length-map}
use Rattle.line_posts.specs.Ends.{producer_end, row_at}
use Rattle.line_posts.proofs.ReceiveLemmas.{sees_self}
use Rattle.line_posts.specs.Posts.{PostView}
use Rattle.line_posts.specs.Refusals.{IsNotReceived, MayReceive}
use Rattle.line_posts.proofs.SameLemmas.{same_if_replayed, same_if_taken, if_err_given}
use Rattle.line_posts.proofs.posts.Post.receive.Goals as goal

pub returns-then-keeps-clause-same : goal.returns-then-keeps-clause-same
returns-then-keeps-clause-same c =
    same_if_replayed c.receive_replay.result c.args.self.now c.receive_replay.new.self c.args.from
    c.receive_replay.ensures.ok c.receive_replay.ensures.err

pub returns-then-keeps-clause-why : goal.returns-then-keeps-clause-why
returns-then-keeps-clause-why c =
    let count = c.self.invariant.0.out_count in
    let long = length-map c.self.inside.outs.items producer_end in
    let opening = ap (λ (t : PostView). length t.opening) c.self.view_is in
    let number = ap (λ (t : PostView). t.number) c.self.view_is in
    let len = c.len.ensures in
    let within = c.if-get-len.false in
    let from = c.get.ensures.value in
    let from2 = c.get-2.ensures.value in
    let me = c.get-3.ensures.value in
    let other = c.if-get.false in
    let bytes = ap length c.bytes.ensures in
    let short = c.if-bytes-gt-MOST_STATE.false in
    if_err_given c.receive_replay.result (MayReceive c.args.self.now c.args.from)
    (λ e s xs. IsNotReceived c.args.self.now xs c.args.from s e) c.args.state
    (row_at c.receive_replay.new.self.seen c.args.from)
    (record {
      process = omega (arith, within, from, len, count, long, opening);
      other = λ e. other (from2 ∙ (e ∙ (sym number ∙ sym me)));
      short = omega (arith, bytes, short);
    })
    c.receive_replay.ensures.why

pub returns-clause-same : goal.returns-clause-same
returns-clause-same c =
    same_if_taken c.receive_next.result c.args.self.now c.receive_next.new.self c.args.from
    c.args.state c.receive_next.ensures.ok c.receive_next.ensures.err

pub returns-then-get-clause-seen : goal.returns-then-get-clause-seen
returns-then-get-clause-seen c = sees_self c.args.self.now

pub returns-then-bytes-gt-MOST_STATE-clause-seen : goal.returns-then-bytes-gt-MOST_STATE-clause-seen
returns-then-bytes-gt-MOST_STATE-clause-seen c = sees_self c.args.self.now
