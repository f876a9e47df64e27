-- Each event of a tape is short.
use Rattle.std.proofs.Common.{subst}
use Rattle.std.proofs.lemmas.Option.{get_or_from_slice_get, slice_get_within}
use Rattle.line_tape.specs.Event.{IsShort}
use Rattle.line_tape.specs.Shown.{event_of_ref}
use Rattle.line_stress.proofs.texts.push_tape.Goals as goal

pub to_event-requires : goal.to_event-requires
to_event-requires c =
    let events = c.args.tape.now.events in
    let event = event_of_ref c.event.result in
    subst IsShort (get_or_from_slice_get events c.loop-i.i event event c.event.ensures)
    (c.len-i-end.ensures.limits.short c.loop-i.i event
    (slice_get_within events c.loop-i.i event c.event.ensures))
