use Rattle.std.proofs.Common.{◌≡◌, ◌∙◌, [], List, map, sym, ap, subst}
use Rattle.std.specs.Prelude.{length, ◌<◌, ◌≢◌, IfOk, IfErr, OnErr}
use Rattle.std.specs.VecDeque.{deque_items}
use Rattle.std.specs.declared.alloc.Global.{Global}
use Rattle.std.specs.declared.vec.Vec.{Vec}
use Rattle.rtrb.specs.declared.AnyItems.{AnyItems}
use Rattle.rtrb.specs.declared.consumer.Consumer.{Consumer}
use Rattle.line_posts.specs.Ends.{in_ends, known_rows, out_ends, producer_end, row_at}
use Rattle.line_posts.specs.declared.parcels.Parcel.{Parcel}
use Rattle.line_posts.specs.Posts.{PostView, post_of}
use Rattle.line_posts.specs.Receipts.{HasOnlySeen, HasReceived}
use Rattle.line_posts.specs.Refusals.{IsNotReceived, MayReceive}
use Rattle.line_posts.proofs.StepLemmas.{seen_free}
use Rattle.line_posts.proofs.LookLemmas.{SeesOn, know_shown}
use Rattle.line_posts.proofs.TakeLemmas.{at_both, only_seen, take_keeps}
use Rattle.line_posts.proofs.posts.Post.receive_next.Goals as goal

pub invariant_of-self : goal.invariant_of-self
invariant_of-self c =
    let (h, inc, told, n, me_is, know) = c.self.invariant in
    let v = c.self.view_is in
    let I = c.self.inside in
    let T = c.take_next-taken in
    let J = T.new.journal in
    let S = c.of.result.value in
    let shown = ap
    (λ (u : Vec (Consumer Parcel Global AnyItems) Global). known_rows u.items) c.of.ensures in
    let old = post_of I.me I.opening.value.processes I.journal.tape (map deque_items I.kept.items)
    (out_ends I.outs.items) (in_ends I.ins.items) (known_rows I.shown.value.items)
    (producer_end I.line) I.journal.floor I.journal.rounds in
    let new : List (List Parcel)
    → PostView = λ rows. record old {
      tape = J.tape;
      outs = out_ends T.new.outs.items;
      ins =
          in_ends T.new.ins.items;
      seen = rows;
      floor = J.floor;
      rounds = J.rounds;
    } in
    let b = subst (λ (t : PostView). row_at t.kept c.args.from ≡ []) (sym v) c.requires.bare in
    let w = subst (λ (t : PostView). c.args.from < length t.opening) (sym v) c.requires.within in
    let o = subst (λ (t : PostView). c.args.from ≢ t.number) (sym v) c.requires.other in
    let rows = known_rows T.new.ins.items in
    let kept = take_keeps old (new rows) c.args.from c.args.state h w o b T.result
    (T.ensures.ok I.opening.value.processes (map deque_items I.kept.items)
    (known_rows I.shown.value.items) (producer_end I.line) (sym n) b)
    (only_seen T.result old J.tape (out_ends T.new.outs.items)
    (in_ends T.new.ins.items) rows J.floor J.rounds T.ensures.same.floor_is T.ensures.err) in (
      seen_free (new rows) (known_rows S.items) kept,
      inc,
      told,
      T.ensures.same.n_is ∙ n,
      T.ensures.same.me_is ∙ me_is,
      know_shown S T.new.ins c.of.ensures,
    )

pub returns-clause-ok : goal.returns-clause-ok
returns-clause-ok c =
    let (h, inc, told, n, me_is, know) = c.self.invariant in
    let v = c.self.view_is in
    let I = c.self.inside in
    let T = c.take_next-taken in
    let J = T.new.journal in
    let S = c.of.result.value in
    let shown = ap
    (λ (u : Vec (Consumer Parcel Global AnyItems) Global). known_rows u.items) c.of.ensures in
    let old = post_of I.me I.opening.value.processes I.journal.tape (map deque_items I.kept.items)
    (out_ends I.outs.items) (in_ends I.ins.items) (known_rows I.shown.value.items)
    (producer_end I.line) I.journal.floor I.journal.rounds in
    let new : List (List Parcel)
    → PostView = λ rows. record old {
      tape = J.tape;
      outs = out_ends T.new.outs.items;
      ins =
          in_ends T.new.ins.items;
      seen = rows;
      floor = J.floor;
      rounds = J.rounds;
    } in
    let b = subst (λ (t : PostView). row_at t.kept c.args.from ≡ []) (sym v) c.requires.bare in
    at_both (λ t s. IfOk T.result (λ r. HasReceived t c.args.from c.args.state r (new s))) old
    c.args.self.now (known_rows T.new.ins.items) (known_rows S.items) v shown
    (T.ensures.ok I.opening.value.processes (map deque_items I.kept.items)
    (known_rows I.shown.value.items) (producer_end I.line) (sym n) b)

pub returns-clause-err : goal.returns-clause-err
returns-clause-err c =
    let (h, inc, told, n, me_is, know) = c.self.invariant in
    let v = c.self.view_is in
    let I = c.self.inside in
    let T = c.take_next-taken in
    let J = T.new.journal in
    let S = c.of.result.value in
    let shown = ap
    (λ (u : Vec (Consumer Parcel Global AnyItems) Global). known_rows u.items) c.of.ensures in
    let old = post_of I.me I.opening.value.processes I.journal.tape (map deque_items I.kept.items)
    (out_ends I.outs.items) (in_ends I.ins.items) (known_rows I.shown.value.items)
    (producer_end I.line) I.journal.floor I.journal.rounds in
    let new : List (List Parcel)
    → PostView = λ rows. record old {
      tape = J.tape;
      outs = out_ends T.new.outs.items;
      ins =
          in_ends T.new.ins.items;
      seen = rows;
      floor = J.floor;
      rounds = J.rounds;
    } in
    subst (λ (t : PostView). OnErr T.result (HasOnlySeen t (new (known_rows S.items)))) v
    (only_seen T.result old J.tape (out_ends T.new.outs.items) (in_ends T.new.ins.items)
    (known_rows S.items) J.floor J.rounds T.ensures.same.floor_is T.ensures.err)

pub returns-clause-seen : goal.returns-clause-seen
returns-clause-seen c =
    let (h, inc, told, n, me_is, know) = c.self.invariant in
    let v = c.self.view_is in
    let I = c.self.inside in
    let T = c.take_next-taken in
    let J = T.new.journal in
    let S = c.of.result.value in
    let shown = ap
    (λ (u : Vec (Consumer Parcel Global AnyItems) Global). known_rows u.items) c.of.ensures in
    let old = post_of I.me I.opening.value.processes I.journal.tape (map deque_items I.kept.items)
    (out_ends I.outs.items) (in_ends I.ins.items) (known_rows I.shown.value.items)
    (producer_end I.line) I.journal.floor I.journal.rounds in
    at_both (λ (t : PostView) s. SeesOn t.ins t.seen (in_ends T.new.ins.items) s) old
    c.args.self.now (known_rows T.new.ins.items) (known_rows S.items) v shown
    (T.ensures.seen (known_rows I.shown.value.items) know)

pub returns-clause-why : goal.returns-clause-why
returns-clause-why c =
    let (h, inc, told, n, me_is, know) = c.self.invariant in
    let v = c.self.view_is in
    let I = c.self.inside in
    let T = c.take_next-taken in
    let J = T.new.journal in
    let S = c.of.result.value in
    let shown = ap
    (λ (u : Vec (Consumer Parcel Global AnyItems) Global). known_rows u.items) c.of.ensures in
    let old = post_of I.me I.opening.value.processes I.journal.tape (map deque_items I.kept.items)
    (out_ends I.outs.items) (in_ends I.ins.items) (known_rows I.shown.value.items)
    (producer_end I.line) I.journal.floor I.journal.rounds in
    let may : MayReceive c.args.self.now c.args.from c.args.state = record
    { process = c.requires.within; other = c.requires.other; short = c.requires.short } in
    subst (λ rows. IfErr T.result (λ e. IsNotReceived c.args.self.now
    (row_at rows c.args.from) c.args.from c.args.state e)) (sym shown)
    (T.ensures.why c.args.self.now (sym (ap (λ (t : PostView). t.tape) v))
    (sym (ap (λ (t : PostView). t.outs) v)) may c.requires.bare)
