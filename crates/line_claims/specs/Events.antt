-- Which event one record of a history spells, among n processes.
use Rattle.std.specs.Prelude.{ℕ, List, nat_le, ◌||◌, Bool, length, Result, Ok, if◌then◌else◌, codes}
use Rattle.line_names.specs.declared.limits.TheConstants.{MOST_BODY}
use Rattle.line_fields.specs.declared.faults.Fault.{Fault}
use Rattle.line_fields.specs.declared.faults.Fault.TheVariants as faults
use Rattle.line_fields.specs.Fields.{◌>>=◌, want, hex}
use Rattle.line_fields.specs.Records.{Record}
use Rattle.line_fields.specs.Shapes.{two, three}
use Rattle.line_tape.specs.declared.events.Event.{Event}
use Rattle.line_tape.specs.declared.events.Event.TheVariants.{Send, Recv, Check, Mark}
use Rattle.line_tape.specs.declared.limits.TheConstants.{MOST_STATE}
use Rattle.line_claims.specs.declared.events.Kind.{Kind}
use Rattle.line_claims.specs.declared.events.Kind.TheVariants as kinds
use Rattle.line_claims.specs.Numbers.{plain, incarnation, round, round_or_none, process}
use Rattle.line_claims.specs.Parts.{is_named}

-- send,TO,INC,HEX
unfoldable pub send_event_of : ℕ → Record → Result Event Fault
send_event_of n = three plain incarnation hex (λ number inc body. do
  to ← process n number
  short ← want (nat_le (length body) MOST_BODY) faults.BodyTooLong
  Ok (Send to inc body))

-- recv,FROM,INC,NUMBER
unfoldable pub recv_event_of : ℕ → Record → Result Event Fault
recv_event_of n =
    three plain incarnation plain
    (λ sender inc number. process n sender >>= λ from. Ok
    (Recv (record { from = from; inc = inc; number = number })))

-- check,HEX,ROUND
unfoldable pub check_event_of : Record → Result Event Fault
check_event_of =
    two hex round_or_none
    (λ state round. want (nat_le (length state) MOST_STATE) faults.StateTooLong >>= λ short. Ok
    (Check state round))

-- mark,FROM,ROUND
unfoldable pub mark_event_of : ℕ → Record → Result Event Fault
mark_event_of n =
    two plain round (λ sender of_round. process n sender >>= λ from. Ok (Mark from of_round))

-- the records that spell events
abbrev pub is_event : Record → Bool
is_event r =
    is_named (codes "send") r
    || is_named (codes "recv") r
    || is_named (codes "check") r
    || is_named (codes "mark") r

-- the event of such a record
abbrev pub event_of : ℕ → Record → Result Event Fault
event_of n r =
    if is_named (codes "send") r then send_event_of n r
    else if is_named (codes "recv") r then recv_event_of n r
    else if is_named (codes "check") r then check_event_of r
    else mark_event_of n r

-- the name of the records of a kind
abbrev pub kind_text : Kind → List ℕ
kind_text kinds.Send = codes "send"
kind_text kinds.Recv = codes "recv"
kind_text kinds.Check = codes "check"
kind_text kinds.Mark = codes "mark"
