use Rattle.std.proofs.Common.{rules, refl, ◌≡◌, ◌∙◌, ◌++◌, ◌∷◌, [], ◌≤◌, length, get_or, sym, ap}
use Rattle.std.proofs.Common.{subst, arith}
use Rattle.std.specs.VecDeque.{deque_items}
use Rattle.std.proofs.lemmas.List.{length-map, map-append}
use Rattle.std.proofs.lemmas.Result.{OkIff-at_ok}
use Rattle.line_names.specs.Sets.{is_member}
use Rattle.line_tape.specs.History.{tape_at}
use Rattle.line_posts.specs.Gathered.{gathered_tape}
use Rattle.line_posts.specs.Gathering.{rows_of}
use Rattle.line_posts.specs.Ends.{known_rows}
use Rattle.line_posts.proofs.EndLemmas.{knows_self, knows_then}
use Rattle.line_posts.proofs.MeetLemmas.{there, set_back}
use Rattle.line_posts.proofs.GatheringLemmas.{further_more}
use Rattle.line_posts.proofs.further.further_of_all.Goals as goal

pub further_of-requires-clause-ready : goal.further_of-requires-clause-ready
further_of-requires-clause-ready c =
    let i = c.loop-r.invariant in
    let p = (OkIff-at_ok c.try_new.result _ _ _ c.try_new.ensures c.unwrap-p.ensures).1 in
    let t = c.loop-r-test.true in
    let n = c.n-n.ensures.value in
    let k = c.requires.count in
    let l = ap length i.posts in
    let at = there c.loop-r.posts.items c.args.posts.now.items c.loop-r.r
    c.index_mut-post.result.now i.posts
    (omega (arith, t, n, k, l)) c.index_mut-post.ensures.value in
    rw (i.processes, i.lines, p) (c.requires.ready c.loop-r.r c.index_mut-post.result.now at)

pub loop-r-preserved : goal.loop-r-preserved
loop-r-preserved c =
    let i = c.loop-r.invariant in
    let e = c.in_ok-events.ensures in
    let r = c.loop-r.r in
    let failed = c.args.failed.now in
    let p = (OkIff-at_ok c.try_new.result _ _ _ c.try_new.ensures c.unwrap-p.ensures).1 in
    let t = c.loop-r-test.true in
    let n = c.n-n.ensures.value in
    let k = c.requires.count in
    let l = ap length i.posts in
    let post = c.index_mut-post.result.now in
    let at = there c.loop-r.posts.items c.args.posts.now.items r post i.posts
    (omega (arith, t, n, k, l)) c.index_mut-post.ensures.value in
    let more = deque_items c.in_ok-events.events in
    let all : tape_at c.args.catalogue.now.processes r ++ more
    ≡ gathered_tape (is_member failed r) post =
    ap (λ h. tape_at h r ++ more) (sym i.processes) ∙
    (ap (λ v. tape_at c.loop-r.catalogue.processes v ++ more) (sym p) ∙
    (e.events ∙ ap (λ b. gathered_tape b post) (c.has.ensures ∙ ap (is_member failed) p))) in
    record {
      processes = e.processes ∙ i.processes;
      marks = e.marks ∙ i.marks;
      lines = e.lines ∙ i.lines;
      seen = knows_then (known_rows c.args.lines.now.items) c.loop-r.lines.items
          c.further_of.new.lines.items i.seen e.seen;
      posts = set_back c.loop-r.posts.items c.args.posts.now.items r post c.further_of.new.post
          i.posts c.index_mut-post.ensures.value e.post;
      further = further_more r failed c.args.catalogue.now.processes c.loop-r.catalogue.rooms
          c.further_of.new.catalogue.rooms c.args.posts.now.items (rows_of c.loop-r.further.items)
          (rows_of c.push_reserved.new.self.items) post more
          i.further at (ap rows_of c.push_reserved.ensures.items ∙ map-append deque_items
          c.loop-r.further.items (c.in_ok-events.events ∷ [])) all
          (subst (λ v. length more ≤ get_or c.further_of.new.catalogue.rooms v 0) p e.room)
          (λ q ne. e.others q (λ x. ne (x ∙ p)));
      room = (let r = i.room in let k = c.push_reserved.ensures.capacity in omega (arith, r, k));
    }

pub returns-in_err-further-clause-seen : goal.returns-in_err-further-clause-seen
returns-in_err-further-clause-seen c = knows_self c.args.lines.now.items

pub loop-r-init : goal.loop-r-init
loop-r-init c = record {
  processes = refl;
  marks = refl;
  lines = refl;
  seen = knows_self c.args.lines.now.items;
  posts = refl;
  further = search rules;
  room = (let r = c.in_ok-further.ensures.capacity in let n = c.n-n.ensures.value in omega
      (arith, r, n));
}

pub returns-in_err-events-clause-seen : goal.returns-in_err-events-clause-seen
returns-in_err-events-clause-seen c =
    knows_then (known_rows c.args.lines.now.items) c.loop-r.lines.items c.further_of.new.lines.items
    c.loop-r.invariant.seen c.further_of.ensures.seen

pub push_reserved-requires : goal.push_reserved-requires
push_reserved-requires c =
    let i = c.loop-r.invariant in
    let t = c.loop-r-test.true in
    let n = c.n-n.ensures.value in
    let count = i.further.count in
    let rows = length-map c.loop-r.further.items deque_items in
    let room = i.room in
    let own = c.loop-r.further.ok.0 in
    omega (arith, t, n, count, rows, room, own)
