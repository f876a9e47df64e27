-- A marker may come where its round has its check.
use Rattle.std.proofs.Common.{ap}
use Rattle.line_tape.specs.declared.events.EventRef.{EventRef}
use Rattle.line_tape.specs.Shown.{event_of_ref}
use Rattle.line_world.proofs.WalkLemmas.{mark_next}
use Rattle.line_world.proofs.idle.note_event.Goals as goal

pub returns-in-Mark-clause-next : goal.returns-in-Mark-clause-next
returns-in-Mark-clause-next c = λ last seen noted.
    mark_next last c.in-Mark.from c.in-Mark.round seen
    (event_of_ref c.args.event.now) c.args.flags.now.items c.has_flag.result
    (ap (λ (e : EventRef). event_of_ref e) c.in-Mark.is) c.has_flag.ensures noted
