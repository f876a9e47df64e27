use Rattle.std.proofs.Common.{◌≡◌, ◌+◌, List, length, map, sym, ap, subst, arith}
use Rattle.std.specs.VecDeque.{deque_items}
use Rattle.line_posts.specs.Ends.{producer_end, out_ends, in_ends, known_rows, StillKnow}
use Rattle.line_posts.proofs.EndLemmas.{knows_self}
use Rattle.line_posts.specs.declared.parcels.Parcel.{Parcel}
use Rattle.rtrb.specs.declared.consumer.Consumer.{Consumer}
use Rattle.rtrb.specs.declared.AnyItems.{AnyItems}
use Rattle.std.specs.declared.alloc.Global.{Global}
use Rattle.std.specs.declared.vec.Vec.{Vec}
use Rattle.line_posts.proofs.StepLemmas.{seen_free}
use Rattle.line_tape.specs.History.{tape_at, incarnation_at}
use Rattle.line_tape.specs.Views.{HistoryView}
use Rattle.line_posts.specs.Posts.{post_of, IsPost}
use Rattle.line_posts.proofs.OpeningLemmas.{opens}
use Rattle.line_posts.proofs.posts.open_post.Goals as goal

pub invariant_of-result : goal.invariant_of-result
invariant_of-result c =
    let o = c.requires.opening in
    let t = ap length o.tape in
    let l = ap length o.line in
    let n = c.len-reported.ensures.value in
    subst (λ (v : HistoryView). IsPost
    (post_of c.args.me v.processes c.args.journal.tape (map deque_items c.args.kept.items)
    (out_ends c.args.ends.outs.items) (in_ends c.args.ends.ins.items)
    (known_rows c.of-shown.result.value.items)
    (producer_end c.args.ends.line) c.args.journal.floor c.args.journal.rounds)
    × (c.incarnation-incarnation.result ≡ incarnation_at v.processes c.args.me)
    × (c.len-reported.result
    ≡ length (tape_at v.processes c.args.me) + length (producer_end c.args.ends.line).items)
    × (c.args.journal.n ≡ length v.processes) × (c.args.journal.me ≡ c.args.me)
    × StillKnow (known_rows c.of-shown.result.value.items) c.args.ends.ins.items)
    (sym c.of-opening.ensures) (
      seen_free _ (known_rows c.of-shown.result.value.items)
          (opens _ o c.requires.fit c.tape-limits.ensures.limits.named),
      c.incarnation-incarnation.ensures,
      omega (arith, t, l, n),
      c.requires.count,
      c.requires.me,
      subst (λ (t : List (List Parcel)). StillKnow t c.args.ends.ins.items)
          (sym (ap (λ (v : Vec (Consumer Parcel Global AnyItems) Global). known_rows v.items)
          c.of-shown.ensures)) (knows_self c.args.ends.ins.items),
    )
