-- Histories that agree: no message was received under a name that its sender could not have given
-- it.
use Rattle.std.specs.Prelude.{◌≡◌, ℕ, ◌≤◌, ◌⊎◌, List, All, slice_index_or}
use Rattle.line_names.specs.declared.messages.MsgName.{MsgName}
use Rattle.line_tape.specs.declared.events.Event.{Event}
use Rattle.line_tape.specs.declared.events.Event.TheVariants.{Send, Recv, Check, Mark}
use Rattle.line_tape.specs.Event.{Holds, incarnations_sent, sends}
use Rattle.line_tape.specs.History.{Process, tape_at, incarnation_at, with_event}

-- the sender's send of that number has that incarnation, or it is still to come and the incarnation
-- is the present one
abbrev pub NameAgrees : List Process → MsgName → Type 0
NameAgrees history message =
    Holds (tape_at history message.from) message.inc message.number
    ⊎ ((sends (tape_at history message.from) ≤ message.number)
    × (message.inc ≡ incarnation_at history message.from))

-- the name of a message that the event receives agrees with its sender
abbrev pub EventAgrees : List Process → Event → Type 0
EventAgrees history (Send to inc body) = Unit {0}
EventAgrees history (Recv message) = NameAgrees history message
EventAgrees history (Check state round) = Unit {0}
EventAgrees history (Mark from round) = Unit {0}

-- the names of all messages that were received agree with their senders
pub record Agrees (history : List Process) : Type 0 where
  pub each : (q : ℕ) → All (EventAgrees history) (tape_at history q)

-- where the event is a send of process p, it has the present incarnation
abbrev pub IsSentAsNow : List Process → ℕ → Event → Type 0
IsSentAsNow history p (Send to inc body) = inc ≡ incarnation_at history p
IsSentAsNow history p (Recv message) = Unit {0}
IsSentAsNow history p (Check state round) = Unit {0}
IsSentAsNow history p (Mark from round) = Unit {0}

-- with the event at process p the history agrees too, and a send has the present incarnation
pub record AgreesNext (history : List Process) (p : ℕ) (event : Event) : Type 0 where
  pub agrees : Agrees (with_event history p event)
  pub present : IsSentAsNow history p event

-- the name of the message of process p with this number: under the incarnation of that send, and
-- where it is still to come under the present one
abbrev pub name_of_number : List Process → ℕ → ℕ → MsgName
name_of_number history p number =
    record {
      from = p;
      inc =
          slice_index_or (incarnations_sent (tape_at history p)) number (incarnation_at history p);
      number = number;
    }
