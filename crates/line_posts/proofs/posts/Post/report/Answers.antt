use Rattle.std.proofs.Common.{◌≡◌, ◌∙◌, ◌+◌, List, length, take, drop, ap, arith}
use Rattle.std.proofs.lemmas.List.{length-append}
use Rattle.line_tape.specs.declared.events.Event.{Event}
use Rattle.line_tape.specs.History.{tape_at}
use Rattle.line_posts.specs.Ends.{End, producer_end, with_items}
use Rattle.line_posts.proofs.EndLemmas.{producer_kept}
use Rattle.line_posts.proofs.ManyLemmas.{reported_within, reported_more, report_all}
use Rattle.line_posts.proofs.posts.Post.report.Goals as goal

pub invariant_of-self-2 : goal.invariant_of-self-2
invariant_of-self-2 c =
    let (h, inc, told, n, me_is, know) = c.self.invariant in
    let J = c.self.inside.journal.tape in
    let k = c.min-k.result in
    let old = producer_end c.self.inside.line in
    let T = length
    (tape_at c.self.inside.opening.value.processes c.self.inside.me) + length old.items in
    let kept = producer_kept c.self.inside.line c.slots-room.new.self c.slots-room.ensures.looked.0
    c.slots-room.ensures.looked.1 in
    let events : take k (drop c.self.inside.reported c.tape-tape.result.now.events)
    ≡ take k (drop T J) = ap (λ (t : List Event). take k (drop c.self.inside.reported t))
    c.tape-tape.ensures ∙ ap (λ v. take k (drop v J)) told in
    let line = c.put_each.ensures ∙ (ap (λ e. with_items e (take k (drop c.self.inside.reported
    c.tape-tape.result.now.events))) kept ∙ ap (with_items old) events) in
    let within = reported_within _ h in
    let left = c.min-k.ensures in
    let len = c.len.ensures.value in
    let more = reported_more _ k h (omega (arith, within, left, len, told)) in
    let long = ap (λ (e : End Event). length e.items) line in
    let both = length-append old.items (take k (drop T J)) in
    (report_all _ k _ h line, inc, omega (arith, told, long, both, more), n, me_is, know)
