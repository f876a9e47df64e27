use Rattle.std.proofs.Common.{◌+◌, ◌∙◌, Some, ap, sym}
use Rattle.line_tape.specs.Shown.{event_of_ref}
use Rattle.line_posts.proofs.ManyLemmas.{copied_more}
use Rattle.line_posts.proofs.ReplayLemmas.{short_at}
use Rattle.line_posts.proofs.further.copies.Goals as goal

pub to_event-requires : goal.to_event-requires
to_event-requires c = short_at c.args.tape.now.events (c.args.from + c.loop-i.i)
    (event_of_ref c.event.result) c.len-limits.ensures.limits c.event.ensures

pub loop-i-preserved : goal.loop-i-preserved
loop-i-preserved c =
    copied_more c.args.tape.now.events _ _ c.args.from c.loop-i.i c.in_ok-event.event
    c.loop-i.invariant (c.event.ensures ∙ ap (λ e. Some e) (sym c.in_ok-event.ensures))
    c.in_ok-push_back.ensures.items
