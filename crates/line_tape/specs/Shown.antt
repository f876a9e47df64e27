-- The event that a tape shows.
use Rattle.line_tape.specs.declared.events.Event.{Event}
use Rattle.line_tape.specs.declared.events.Event.TheVariants.{Send, Recv, Check, Mark}
use Rattle.line_tape.specs.declared.events.EventRef.{EventRef}
use Rattle.line_tape.specs.declared.events.EventRef.TheVariants.{Send as SendRef, Recv as RecvRef}
use Rattle.line_tape.specs.declared.events.EventRef.TheVariants.{Check as CheckRef, Mark as MarkRef}

-- the event that is shown so, its bytes lent
abbrev pub event_of_ref : EventRef → Event
event_of_ref (SendRef to inc body) = Send to inc body.now
event_of_ref (RecvRef message) = Recv message
event_of_ref (CheckRef state round) = Check state.now round
event_of_ref (MarkRef from round) = Mark from round
