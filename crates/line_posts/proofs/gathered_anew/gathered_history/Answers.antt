-- One worker more is copied.
use Rattle.std.proofs.Common.{◌∙◌, length, refl, ap, arith}
use Rattle.std.proofs.lemmas.Result.{OkIff-at_ok}
use Rattle.line_names.specs.Sets.{is_member}
use Rattle.line_posts.specs.Ends.{in_ends, known_rows}
use Rattle.line_posts.proofs.AnewLemmas.{copied_all, copied_none, copied_one_more}
use Rattle.line_posts.proofs.EndLemmas.{knows_self, knows_then}
use Rattle.line_posts.proofs.MeetLemmas.{there, set_back}
use Rattle.line_posts.proofs.gathered_anew.gathered_history.Goals as goal

pub returns-in-Err-OutOfMemory-clause-seen : goal.returns-in-Err-OutOfMemory-clause-seen
returns-in-Err-OutOfMemory-clause-seen c = knows_self c.args.lines.now.items

pub loop-r-init : goal.loop-r-init
loop-r-init c = record {
  lines = refl;
  seen = knows_self c.args.lines.now.items;
  posts = refl;
  copied = copied_none c.args.n c.args.failed.now (in_ends c.args.lines.now.items)
      c.args.posts.now.items c.in-Ok.history.processes c.in-Ok.ensures.ok;
}

pub copy_gathered-requires-clause-at : goal.copy_gathered-requires-clause-at
copy_gathered-requires-clause-at c =
    let i = c.loop-r.invariant in
    let p = (OkIff-at_ok c.try_new.result _ _ _ c.try_new.ensures c.unwrap-p.ensures).1 in
    let t = c.loop-r-test.true in
    let k = c.requires.count in
    let l = ap length i.posts in
    let at = there c.loop-r.posts.items c.args.posts.now.items c.loop-r.r
    c.index_mut-post.result.now i.posts
    (omega (arith, t, k, l)) c.index_mut-post.ensures.value in
    rw (i.copied.count, i.lines, p) (c.requires.at c.loop-r.r c.index_mut-post.result.now at)

pub returns-in_err-copy_gathered-clause-seen : goal.returns-in_err-copy_gathered-clause-seen
returns-in_err-copy_gathered-clause-seen c =
    knows_then (known_rows c.args.lines.now.items) c.loop-r.lines.items
    c.copy_gathered.new.lines.items c.loop-r.invariant.seen c.copy_gathered.ensures.seen

pub loop-r-preserved : goal.loop-r-preserved
loop-r-preserved c =
    let i = c.loop-r.invariant in
    let e = c.in_ok-copy_gathered.ensures in
    let r = c.loop-r.r in
    let failed = c.args.failed.now in
    let lines = in_ends c.args.lines.now.items in
    let posts = c.args.posts.now.items in
    let p = (OkIff-at_ok c.try_new.result _ _ _ c.try_new.ensures c.unwrap-p.ensures).1 in
    let t = c.loop-r-test.true in
    let k = c.requires.count in
    let l = ap length i.posts in
    let post = c.index_mut-post.result.now in
    let at = there c.loop-r.posts.items posts r post i.posts
    (omega (arith, t, k, l)) c.index_mut-post.ensures.value in
    record {
      lines = e.lines ∙ i.lines;
      seen = knows_then (known_rows c.args.lines.now.items) c.loop-r.lines.items
          c.copy_gathered.new.lines.items i.seen e.seen;
      posts = set_back c.loop-r.posts.items posts r post c.copy_gathered.new.post i.posts
          c.index_mut-post.ensures.value e.post;
      copied = copied_one_more c.args.n failed lines posts r c.loop-r.history.processes
          c.copy_gathered.new.history.processes post i.copied at e.count
          c.unwrap-p.result c.has.result (in_ends c.loop-r.lines.items) p
          (c.has.ensures ∙ ap (is_member failed) p) i.lines e.copied e.begins e.others;
    }

pub returns-clause-gathered : goal.returns-clause-gathered
returns-clause-gathered c =
    copied_all c.args.n c.args.failed.now
    (in_ends c.args.lines.now.items) c.args.posts.now.items c.loop-r.r
    c.loop-r.history.processes c.requires.count c.loop-r-test.false c.loop-r.invariant.copied
