-- Messages in transit at a line (Elnozahy, Alvisi, Wang and Johnson, ACM Computing Surveys 34(3),
-- 2002).
use Rattle.std.specs.Prelude.{ℕ, suc, Bool, not, ◌==◌, ◌&&◌, List, [], ◌∷◌, length, map, filter}
use Rattle.std.specs.Prelude.{slice_get, Option, Some, None}
use Rattle.std.specs.List.{list_any, flat_map, filter_map, range_with_len}
use Rattle.std.specs.Option.{option_eq}
use Rattle.line_names.specs.declared.messages.MsgName.{MsgName}
use Rattle.line_names.specs.declared.choices.Choice.{Choice}
use Rattle.line_names.specs.Names.{is_name}
use Rattle.line_tape.specs.declared.events.Event.{Event}
use Rattle.line_tape.specs.declared.events.Event.TheVariants.{Send, Recv, Check, Mark}
use Rattle.line_tape.specs.History.{Process, tape_at}
use Rattle.line_tape.specs.Line.{events_before}

-- a message, and the process that its send names
pub record Letter : Type 0 where
  pub message : MsgName
  pub to : ℕ

-- the letters that process p sent among these events, the first of them with this number
abbrev pub letters : ℕ → ℕ → List Event → List Letter
letters p number [] = []
letters p number (Send to inc body ∷ rest) =
    record { message = record { from = p; inc = inc; number = number }; to = to }
    ∷ letters p (suc number) rest
letters p number (Recv message ∷ rest) = letters p number rest
letters p number (Check state round ∷ rest) = letters p number rest
letters p number (Mark from round ∷ rest) = letters p number rest

-- the message that an event receives
abbrev pub received_name : Event → Option MsgName
received_name (Send to inc body) = None
received_name (Recv message) = Some message
received_name (Check state round) = None
received_name (Mark from round) = None

-- the messages received among these events, in order
abbrev pub names_received : List Event → List MsgName
names_received events = filter_map received_name events

-- the message is received among these events
abbrev pub has_received : List Event → MsgName → Bool
has_received events message = list_any (is_name message) (names_received events)

-- the letter is not received before the choice of the process that it is for
abbrev pub is_open_letter : List Process → List Choice → Letter → Bool
is_open_letter history line letter =
    not (has_received (events_before history line letter.to) letter.message)

-- the letters of process p that are sent before the line and not received before it, by number
abbrev pub open_letters : List Process → List Choice → ℕ → List Letter
open_letters history line p =
    filter (is_open_letter history line) (letters p 0 (events_before history line p))

-- the messages in transit at a line, by sender, then number
abbrev pub in_transit : List Process → List Choice → List MsgName
in_transit history line =
    flat_map (λ p. map (λ (letter : Letter). letter.message) (open_letters history line p))
    (range_with_len 0 (length history))

-- those of them from process p to process q
abbrev pub in_transit_between : List Process → List Choice → ℕ → ℕ → List MsgName
in_transit_between history line p q =
    map (λ (letter : Letter). letter.message)
    (filter (λ (letter : Letter). letter.to == q) (open_letters history line p))

-- the process that an event sends to
abbrev pub addressee_of : Event → Option ℕ
addressee_of (Send to inc body) = Some to
addressee_of (Recv message) = None
addressee_of (Check state round) = None
addressee_of (Mark from round) = None

-- the processes that a tape sent to, send by send
abbrev pub addressees : List Event → List ℕ
addressees tape = filter_map addressee_of tape

-- the process that the message's send names
abbrev pub addressee : List Process → MsgName → Option ℕ
addressee history message = slice_get (addressees (tape_at history message.from)) message.number

-- the message goes from process p to process q
abbrev pub goes_between : List Process → ℕ → ℕ → MsgName → Bool
goes_between history p q message =
    (message.from == p) && option_eq ◌==◌ (addressee history message) (Some q)
