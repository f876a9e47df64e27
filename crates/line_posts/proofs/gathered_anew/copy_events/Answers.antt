-- One event more is copied.
use Rattle.std.proofs.Common.{◌∙◌, List, Some, ap, sym}
use Rattle.line_tape.specs.History.{Process, with_event}
use Rattle.line_tape.specs.Shown.{event_of_ref}
use Rattle.line_posts.proofs.AnewLemmas.{copied_next}
use Rattle.line_posts.proofs.ReplayLemmas.{short_at}
use Rattle.line_posts.proofs.gathered_anew.copy_events.Goals as goal

pub to_event-requires : goal.to_event-requires
to_event-requires c = short_at c.args.tape.now.events c.loop-i.i
    (event_of_ref c.event.result) c.len-limits.ensures.limits c.event.ensures

pub loop-i-preserved : goal.loop-i-preserved
loop-i-preserved c =
    copied_next c.args.history.now.processes c.loop-i.history.processes c.append.new.self.processes
    c.args.p c.loop-i.i c.args.tape.now.events c.in_ok-event.event c.requires.within
    c.loop-i.invariant
    (c.event.ensures ∙ ap (λ e. Some e) (sym c.in_ok-event.ensures))
    (c.append.ensures.processes ∙ ap
    (λ (h : List Process). with_event h c.args.p c.in_ok-event.event) c.reserve.ensures.same)
