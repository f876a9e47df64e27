use Rattle.std.proofs.Common.{◌≡◌, ◌∙◌, ◌++◌, ◌-◌, List, length, take, drop, sym, ap, subst, arith}
use Rattle.std.specs.VecDeque.{deque_items}
use Rattle.line_tape.specs.declared.events.Event.{Event}
use Rattle.line_tape.specs.History.{Process, tape_at}
use Rattle.line_posts.specs.Ends.{in_ends, items_at}
use Rattle.line_posts.specs.Posts.{opening_tape, PostView}
use Rattle.line_posts.specs.Gathered.{gathered_tape}
use Rattle.line_posts.proofs.GatheringLemmas.{seen_front, further_is}
use Rattle.line_posts.proofs.further.further_of.Goals as goal

pub returns-clause-events : goal.returns-clause-events
returns-clause-events c =
    let T : List Event = c.args.post.now.tape in
    let G = gathered_tape c.args.failed c.args.post.now in
    let S = tape_at c.args.catalogue.now.processes c.args.p in
    let F = deque_items c.in_ok-events.events in
    let same : c.tape-2.result.now.events ≡ T = c.tape-2.ensures.value ∙ ap
    (λ (v : PostView). v.tape) c.gathered_len-upto.ensures.post in
    let rest = c.gathered_len-upto.ensures.known.0 in
    let more : G
    ≡ S ++ rest = c.gathered_len-upto.ensures.known.1 ∙
    (ap (λ v. (opening_tape c.args.post.now ++ items_at (in_ends c.args.lines.now.items) v)
    ++ rest) c.get.ensures.value ∙ ap (λ t. t ++ rest) (sym c.requires.ready.seen)) in
    let from = c.len-from.ensures.value ∙ ap length (c.tape.ensures.events ∙ ap
    (λ (h : List Process). tape_at h c.args.p) c.history.ensures.processes) in
    let K = c.gathered_len-upto.result - c.len-from.result in
    let le = (seen_front T G S rest c.len-from.result c.gathered_len-upto.result
    c.gathered_len-upto.ensures.told c.gathered_len-upto.ensures.within more from).1 in
    let copied = subst
    (λ (t : List Event). F ≡ take K (drop c.len-from.result t)) same c.in_ok-events.ensures in
    (further_is T G S rest F c.len-from.result c.gathered_len-upto.result
    c.gathered_len-upto.ensures.told c.gathered_len-upto.ensures.within more from K
    (omega (arith, le)) copied).0
