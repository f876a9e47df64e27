use Rattle.std.proofs.Common.{add-one, ◌<◌, ◌∙◌, length, map, drop, refl, sym, ap, subst, arith}
use Rattle.std.specs.VecDeque.{deque_items}
use Rattle.std.specs.Prelude.{slice_get}
use Rattle.std.proofs.lemmas.List.{length-drop, length-map}
use Rattle.std.proofs.lemmas.Result.{OkIff-at_ok}
use Rattle.line_tape.specs.History.{tape_at}
use Rattle.line_posts.specs.Ends.{out_ends, in_ends, out_rows, in_rows, known_rows, producer_end}
use Rattle.line_posts.specs.Ends.{row_at}
use Rattle.line_posts.specs.Fleets.{AreReplays}
use Rattle.line_posts.specs.Gathering.{rows_of}
use Rattle.line_posts.specs.Replays.{packets_of}
use Rattle.line_posts.proofs.FleetLemmas.{next_item, next_row, opening_of, rows_left, single}
use Rattle.line_posts.proofs.FleetLemmas.{made_more, made_of}
use Rattle.line_posts.proofs.fleets.make_posts.Goals as goal

pub take_first-outs-requires : goal.take_first-outs-requires
take_first-outs-requires c =
    rows_left (λ v. out_ends v.items) c.loop-q.rings.outs.items
    (out_rows c.args.ends.rings.outs.items) c.loop-q.q (length c.args.history.now.processes)
    (c.loop-q.invariant.made c.requires.journals.0 c.requires.journals.1).outs_left
    c.requires.rings.senders
    (let t = c.loop-q-test.true in let n = c.n-n.ensures.value in omega (arith, t, n))

pub take_first-ins-requires : goal.take_first-ins-requires
take_first-ins-requires c =
    rows_left (λ v. in_ends v.items) c.loop-q.rings.ins.items
    (in_rows c.args.ends.rings.ins.items) c.loop-q.q (length c.args.history.now.processes)
    (c.loop-q.invariant.made c.requires.journals.0 c.requires.journals.1).ins_left
    c.requires.rings.receivers
    (let t = c.loop-q-test.true in let n = c.n-n.ensures.value in omega (arith, t, n))

pub take_first-kept-requires : goal.take_first-kept-requires
take_first-kept-requires c =
    rows_left (λ v. rows_of v.items) c.loop-q.replays.items
    (packets_of c.args.replays.items) c.loop-q.q (length c.args.history.now.processes)
    c.loop-q.invariant.replays_left c.requires.replays.count
    (let t = c.loop-q-test.true in let n = c.n-n.ensures.value in omega (arith, t, n))

pub take_first-line-requires : goal.take_first-line-requires
take_first-line-requires c =
    rows_left (λ v. out_ends v.items) c.loop-q.lines.items
    (out_rows c.args.ends.lines.items) c.loop-q.q (length c.args.history.now.processes)
    (c.loop-q.invariant.made c.requires.journals.0 c.requires.journals.1).lines_left
    c.requires.lines.1.senders
    (let t = c.loop-q-test.true in let n = c.n-n.ensures.value in omega (arith, t, n))

pub take_first-end-requires : goal.take_first-end-requires
take_first-end-requires c =
    let lt : c.loop-q.q < length c.args.history.now.processes =
    (let t = c.loop-q-test.true in let n = c.n-n.ensures.value in omega (arith, t, n)) in
    let row = (next_row (out_rows c.args.ends.lines.items) c.loop-q.q
    (out_ends c.take_first-line.result.items) (out_rows c.take_first-line.new.items.items)
    (sym (ap out_rows c.take_first-line.ensures) ∙
    (c.loop-q.invariant.made c.requires.journals.0 c.requires.journals.1).lines_left)).0 in
    let one = sym (ap length row) ∙ c.requires.lines.1.out_count c.loop-q.q lt in
    let l = length-map c.take_first-line.result.items producer_end in
    omega (arith, one, l)

pub open_post-post-requires-clause-opening : goal.open_post-post-requires-clause-opening
open_post-post-requires-clause-opening c =
    let lt : c.loop-q.q < length c.args.history.now.processes =
    (let t = c.loop-q-test.true in let n = c.n-n.ensures.value in omega (arith, t, n)) in
    let O = out_rows c.args.ends.rings.outs.items in
    let I = in_rows c.args.ends.rings.ins.items in
    let L = out_rows c.args.ends.lines.items in
    let out = (next_row O c.loop-q.q (out_ends c.take_first-outs.result.items)
    (out_rows c.take_first-outs.new.items.items) (sym (ap out_rows c.take_first-outs.ensures) ∙
    (c.loop-q.invariant.made c.requires.journals.0 c.requires.journals.1).outs_left)).0 in
    let in_ = (next_row I c.loop-q.q (in_ends c.take_first-ins.result.items)
    (in_rows c.take_first-ins.new.items.items) (sym (ap in_rows c.take_first-ins.ensures) ∙
    (c.loop-q.invariant.made c.requires.journals.0 c.requires.journals.1).ins_left)).0 in
    let line = (next_row L c.loop-q.q (out_ends c.take_first-line.result.items)
    (out_rows c.take_first-line.new.items.items) (sym (ap out_rows c.take_first-line.ensures) ∙
    (c.loop-q.invariant.made c.requires.journals.0 c.requires.journals.1).lines_left)).0 in
    let one = sym (ap length line) ∙ c.requires.lines.1.out_count c.loop-q.q lt in
    let alone = single (out_ends c.take_first-line.result.items)
    (producer_end c.take_first-end.result) (out_ends c.take_first-end.new.items.items)
    (ap out_ends c.take_first-end.ensures) one in
    let me = (OkIff-at_ok c.try_new.result _ _ _ c.try_new.ensures c.unwrap-me.ensures).1 in
    let next = next_item c.args.journals.items c.loop-q.q c.take_first-journal.result
    c.take_first-journal.new.items.items
    (sym c.take_first-journal.ensures ∙ c.loop-q.invariant.journals_left) in
    let is = c.requires.journals.1.each c.loop-q.q c.take_first-journal.result next.0 in
    let tape = is.tape_is ∙ ap (tape_at c.args.history.now.processes) (sym me) in
    let R = packets_of c.args.replays.items in
    let row = (next_row R c.loop-q.q (rows_of c.take_first-kept.result.items)
    (packets_of c.take_first-kept.new.items.items)
    (sym (ap packets_of c.take_first-kept.ensures) ∙ c.loop-q.invariant.replays_left)).0 in
    let kept = subst (AreReplays c.args.history.now.processes c.unwrap-me.result) row
    (subst (λ v. AreReplays c.args.history.now.processes v (row_at R c.loop-q.q)) (sym me)
    (c.requires.replays.each c.loop-q.q lt)) in
    opening_of c.args.history.now.processes c.loop-q.q c.unwrap-me.result
    (length c.args.history.now.processes) c.take_first-journal.result.tape
    (map deque_items c.take_first-kept.result.items) O I L c.requires.lines.0
    (out_ends c.take_first-outs.result.items) (in_ends c.take_first-ins.result.items)
    (known_rows c.take_first-ins.result.items)
    (producer_end c.take_first-end.result) c.take_first-journal.result.floor
    c.take_first-journal.result.rounds me lt refl tape kept c.requires.rings c.requires.lines.1
    (sym out) (sym in_) (sym alone ∙ sym line)

pub loop-q-preserved : goal.loop-q-preserved
loop-q-preserved c =
    let O = out_rows c.args.ends.rings.outs.items in
    let I = in_rows c.args.ends.rings.ins.items in
    let L = out_rows c.args.ends.lines.items in
    let out = (next_row O c.loop-q.q (out_ends c.take_first-outs.result.items)
    (out_rows c.take_first-outs.new.items.items) (sym (ap out_rows c.take_first-outs.ensures) ∙
    (c.loop-q.invariant.made c.requires.journals.0 c.requires.journals.1).outs_left)).0 in
    let in_ = (next_row I c.loop-q.q (in_ends c.take_first-ins.result.items)
    (in_rows c.take_first-ins.new.items.items) (sym (ap in_rows c.take_first-ins.ensures) ∙
    (c.loop-q.invariant.made c.requires.journals.0 c.requires.journals.1).ins_left)).0 in
    let me = (OkIff-at_ok c.try_new.result _ _ _ c.try_new.ensures c.unwrap-me.ensures).1 in
    let line = (next_row L c.loop-q.q (out_ends c.take_first-line.result.items)
    (out_rows c.take_first-line.new.items.items) (sym (ap out_rows c.take_first-line.ensures) ∙
    (c.loop-q.invariant.made c.requires.journals.0 c.requires.journals.1).lines_left)).0 in
    let lt : c.loop-q.q < length c.args.history.now.processes =
    (let t = c.loop-q-test.true in let n = c.n-n.ensures.value in omega (arith, t, n)) in
    let one = sym (ap length line) ∙ c.requires.lines.1.out_count c.loop-q.q lt in
    let alone = single (out_ends c.take_first-line.result.items)
    (producer_end c.take_first-end.result) (out_ends c.take_first-end.new.items.items)
    (ap out_ends c.take_first-end.ensures) one in
    let next = next_item c.args.journals.items c.loop-q.q c.take_first-journal.result
    c.take_first-journal.new.items.items
    (sym c.take_first-journal.ensures ∙ c.loop-q.invariant.journals_left) in
    let is = c.requires.journals.1.each c.loop-q.q c.take_first-journal.result next.0 in
    let tape = is.tape_is ∙ ap (tape_at c.args.history.now.processes) (sym me) in
    let R = packets_of c.args.replays.items in
    let row = (next_row R c.loop-q.q (rows_of c.take_first-kept.result.items)
    (packets_of c.take_first-kept.new.items.items)
    (sym (ap packets_of c.take_first-kept.ensures) ∙ c.loop-q.invariant.replays_left)).0 in
    let kept = subst (AreReplays c.args.history.now.processes c.unwrap-me.result) row
    (subst (λ v. AreReplays c.args.history.now.processes v (row_at R c.loop-q.q)) (sym me)
    (c.requires.replays.each c.loop-q.q lt)) in
    let opens = opening_of c.args.history.now.processes c.loop-q.q c.unwrap-me.result
    (length c.args.history.now.processes) c.take_first-journal.result.tape
    (map deque_items c.take_first-kept.result.items) O I L c.requires.lines.0
    (out_ends c.take_first-outs.result.items) (in_ends c.take_first-ins.result.items)
    (known_rows c.take_first-ins.result.items)
    (producer_end c.take_first-end.result) c.take_first-journal.result.floor
    c.take_first-journal.result.rounds me lt refl tape kept c.requires.rings c.requires.lines.1
    (sym out) (sym in_) (sym alone ∙ sym line) in
    record {
      made = λ floor journals.
          (let at = journals.each c.loop-q.q c.take_first-journal.result next.0 in
          let made = made_of c.args.history.now.processes floor O I L c.loop-q.q c.unwrap-me.result
          c.take_first-journal.result.tape (map deque_items c.take_first-kept.result.items)
          (out_ends c.take_first-outs.result.items) (in_ends c.take_first-ins.result.items)
          (known_rows c.take_first-ins.result.items)
          (producer_end c.take_first-end.result) c.take_first-journal.result.floor
          c.take_first-journal.result.rounds c.open_post-post.result c.open_post-post.ensures me
          opens at.floor_is at.rounds_are (sym out) (sym in_) (sym alone ∙ sym line) in
          made_more c.args.history.now.processes floor O I L c.loop-q.q
          (out_rows c.loop-q.rings.outs.items) (in_rows c.loop-q.rings.ins.items)
          (out_rows c.take_first-outs.new.items.items)
          (in_rows c.take_first-ins.new.items.items) (out_rows c.loop-q.lines.items)
          (out_rows c.take_first-line.new.items.items) c.loop-q.posts.items
          c.push_reserved.new.self.items c.open_post-post.result
          (out_ends c.take_first-outs.result.items) (in_ends c.take_first-ins.result.items)
          (out_ends c.take_first-line.result.items)
          (c.loop-q.invariant.made floor journals) made c.push_reserved.ensures.items
          (ap out_rows c.take_first-outs.ensures) (ap in_rows c.take_first-ins.ensures)
          (ap out_rows c.take_first-line.ensures));
      journals_left =
          sym next.1 ∙ ap (λ k. drop k c.args.journals.items) (sym (add-one c.loop-q.q));
      replays_left = sym
          ((next_row R c.loop-q.q (rows_of c.take_first-kept.result.items)
          (packets_of c.take_first-kept.new.items.items)
          (sym (ap packets_of c.take_first-kept.ensures) ∙ c.loop-q.invariant.replays_left)).1) ∙ ap
          (λ k. drop k R) (sym (add-one c.loop-q.q));
      room = (let r = c.loop-q.invariant.room in let k = c.push_reserved.ensures.capacity in omega
          (arith, r, k));
    }

pub take_first-journal-requires : goal.take_first-journal-requires
take_first-journal-requires c =
    let left = ap length c.loop-q.invariant.journals_left in
    let l = length-drop c.loop-q.q c.args.journals.items in
    let k = c.requires.journals.1.count in
    let t = c.loop-q-test.true in
    let n = c.n-n.ensures.value in
    omega (arith, left, l, k, t, n)

pub open_post-post-requires-clause-count : goal.open_post-post-requires-clause-count
open_post-post-requires-clause-count c =
    (c.requires.journals.1.each c.loop-q.q c.take_first-journal.result
    (next_item c.args.journals.items c.loop-q.q c.take_first-journal.result
    c.take_first-journal.new.items.items
    (sym c.take_first-journal.ensures ∙ c.loop-q.invariant.journals_left)).0).n_is

pub open_post-post-requires-clause-me : goal.open_post-post-requires-clause-me
open_post-post-requires-clause-me c =
    let me = (OkIff-at_ok c.try_new.result _ _ _ c.try_new.ensures c.unwrap-me.ensures).1 in
    (c.requires.journals.1.each c.loop-q.q c.take_first-journal.result
    (next_item c.args.journals.items c.loop-q.q c.take_first-journal.result
    c.take_first-journal.new.items.items
    (sym c.take_first-journal.ensures ∙ c.loop-q.invariant.journals_left)).0).me_is ∙ sym me

pub push_reserved-requires : goal.push_reserved-requires
push_reserved-requires c =
    let m = (c.loop-q.invariant.made c.requires.journals.0 c.requires.journals.1).count in
    let o = c.loop-q.posts.ok.0 in
    let r = c.loop-q.invariant.room in
    let t = c.loop-q-test.true in
    let n = c.n-n.ensures.value in
    omega (arith, m, o, r, t, n)

pub loop-q-init : goal.loop-q-init
loop-q-init c = record {
  made = λ floor journals. record {
    count = ap length c.requires.none;
    made =
        λ k post at. (let none = ap (λ t. slice_get t k) c.requires.none in absurd (cc (none, at)));
    outs_left = refl;
    ins_left = refl;
    lines_left = refl;
  };
  journals_left = refl;
  replays_left = refl;
  room = c.requires.room;
}

pub returns : goal.returns
returns c = λ floor journals.
    (let m = c.loop-q.invariant.made floor journals in
    let f = c.loop-q-test.false in
    let n = c.n-n.ensures.value in
    let a = m.count in
    record { count = omega (arith, a, f, n); made = m.made })
