-- What is left of a history once what stands before a line of checks is let go: the messages that
-- were sent and received before it, the checks before it, and the rounds begun so far. What is left
-- is a history of its own, whose numbers begin anew. The literature calls this garbage collection
-- (Elnozahy, Alvisi, Wang and Johnson, ACM Computing Surveys 34(3), 2002).
use Rattle.std.specs.Prelude.{◌-◌, ◌+◌, ◌<◌, ◌≤◌, ℕ, zero, suc, max, nat_le, nat_lt, Bool}
use Rattle.std.specs.Prelude.{if◌then◌else◌, IsTrue, All, List, [], ◌∷◌, length, map, filter}
use Rattle.std.specs.Prelude.{slice_index_or, Option, Some, None}
use Rattle.std.specs.List.{range_with_len}
use Rattle.line_names.specs.declared.certificates.Passed.{Passed}
use Rattle.line_names.specs.declared.choices.Choice.{Choice}
use Rattle.line_names.specs.declared.choices.Choice.TheVariants.{Check as AtCheck, Now}
use Rattle.line_names.specs.declared.messages.MsgName.{MsgName}
use Rattle.line_names.specs.Lines.{choice_at}
use Rattle.line_tape.specs.declared.events.Event.{Event}
use Rattle.line_tape.specs.declared.events.Event.TheVariants.{Send, Recv, Check, Mark}
use Rattle.line_tape.specs.declared.items.Item.{Item}
use Rattle.line_tape.specs.declared.items.Item.TheVariants.{Message, Marker}
use Rattle.line_tape.specs.Event.{sends}
use Rattle.line_tape.specs.Fit.{IsSentTo}
use Rattle.line_tape.specs.History.{Process, process_at, tape_at}
use Rattle.line_tape.specs.Line.{events_before, IsLine, IsConsistent, IsReceivedBefore}
use Rattle.line_tape.specs.Rounds.{check_line, rounds_checked}
use Rattle.line_tape.specs.Survival.{survives}
use Rattle.line_tape.specs.Views.{MarksView, damaged_at, bar_at}

-- where a history is cut: the check of each process that it begins with from then on, or 0 where
-- that is its initial state; how many of its first sends each process lets go; and the last round
-- begun
pub record Floor : Type 0 where
  pub checks : List ℕ
  pub sends : List ℕ
  pub round : ℕ

-- the check that process p begins with
abbrev pub floor_check : Floor → ℕ → ℕ
floor_check floor p = slice_index_or floor.checks p 0

-- how many sends of process p are let go
abbrev pub lost_sends : Floor → ℕ → ℕ
lost_sends floor p = slice_index_or floor.sends p 0

-- the floor as a line
abbrev pub floor_line : Floor → List Choice
floor_line floor = check_line floor.checks

-- the message is not let go
abbrev pub is_left : Floor → MsgName → Bool
is_left floor message = nat_le (lost_sends floor message.from) message.number

-- the name of a message in what is left
abbrev pub cut_name : Floor → MsgName → MsgName
cut_name floor message = record {
  from = message.from;
  inc = message.inc;
  number = message.number - lost_sends floor message.from;
}

-- and back: the name of a message of what is left, in the whole
abbrev pub whole_name : Floor → MsgName → MsgName
whole_name floor message = record {
  from = message.from;
  inc = message.inc;
  number = message.number + lost_sends floor message.from;
}

-- the round of a check that is left: rounds up to the last one are taken off
abbrev pub cut_round : ℕ → Option ℕ → Option ℕ
cut_round last None = None
cut_round last (Some round) = if nat_lt last round then Some round else None

-- what is left of events of process p, of which the first send has that number and the floor is the
-- check of index `skip` among them
abbrev pub cut_events : Floor → ℕ → ℕ → ℕ → List Event → List Event
cut_events floor p number skip [] = []
cut_events floor p number skip (Send to inc body ∷ rest) =
    if nat_le (lost_sends floor p) number
    then Send to inc body ∷ cut_events floor p (suc number) skip rest
    else cut_events floor p (suc number) skip rest
cut_events floor p number skip (Recv message ∷ rest) =
    if is_left floor message
    then Recv (cut_name floor message) ∷ cut_events floor p number skip rest
    else cut_events floor p number skip rest
cut_events floor p number zero (Check state round ∷ rest) =
    Check state (cut_round floor.round round) ∷ cut_events floor p number zero rest
cut_events floor p number (suc zero) (Check state round ∷ rest) =
    Check state (cut_round floor.round round) ∷ cut_events floor p number zero rest
cut_events floor p number (suc (suc skip)) (Check state round ∷ rest) =
    cut_events floor p number (suc skip) rest
cut_events floor p number skip (Mark from round ∷ rest) =
    if nat_lt floor.round round
    then Mark from round ∷ cut_events floor p number skip rest
    else cut_events floor p number skip rest

-- what is left of the tape of process p
abbrev pub cut_tape : Floor → ℕ → List Event → List Event
cut_tape floor p tape = cut_events floor p 0 (floor_check floor p) tape

-- what is left of an event that process p adds
abbrev pub cut_event : Floor → List Process → ℕ → Event → List Event
cut_event floor history p event =
    cut_events floor p (sends (tape_at history p)) 0 (event ∷ [])

-- and of each process: its incarnation stays
abbrev pub cut_history : Floor → List Process → List Process
cut_history floor history =
    map (λ p. record (process_at history p) {
      tape = cut_tape floor p (process_at history p).tape;
    })
    (range_with_len 0 (length history))

-- how much lower the index of a check of process p is in what is left
abbrev pub lost_checks : Floor → ℕ → ℕ
lost_checks floor p = floor_check floor p - 1

-- the indices of some checks, one of each process, in what is left
abbrev pub cut_checks : Floor → List ℕ → List ℕ
cut_checks floor indices =
    map (λ p. slice_index_or indices p 0 - lost_checks floor p)
    (range_with_len 0 (length indices))

-- a choice of process p in what is left
abbrev pub cut_choice : Floor → ℕ → Choice → Choice
cut_choice floor p (AtCheck c) = AtCheck (c - lost_checks floor p)
cut_choice floor p Now = Now

-- a choice of process p of what is left, in the whole: none is before the floor
abbrev pub whole_choice : Floor → ℕ → Choice → Choice
whole_choice floor p (AtCheck c) = AtCheck (max (c + lost_checks floor p) (floor_check floor p))
whole_choice floor p Now = Now

abbrev pub cut_line : Floor → List Choice → List Choice
cut_line floor line =
    map (λ p. cut_choice floor p (choice_at line p)) (range_with_len 0 (length line))

-- a line of what is left, in the whole
abbrev pub whole_line : Floor → List Choice → List Choice
whole_line floor line =
    map (λ p. whole_choice floor p (choice_at line p)) (range_with_len 0 (length line))

-- an entry of a certificate, in the whole
abbrev pub whole_entry : Floor → Passed → Passed
whole_entry floor entry = record {
  at = entry.at;
  choice = whole_choice floor entry.at entry.choice;
  message = whole_name floor entry.message;
}

-- what is left of an item of a link
abbrev pub cut_item : Floor → Item → Option Item
cut_item floor (Message message) =
    if is_left floor message then Some (Message (cut_name floor message)) else None
cut_item floor (Marker round) = if nat_lt floor.round round then Some (Marker round) else None

-- a bar in what is left, of a process whose checks are that much lower there
abbrev pub cut_bar : ℕ → Option ℕ → Option ℕ
cut_bar lost None = None
cut_bar lost (Some bar) = Some (bar - lost)

-- what is left of marks and bars: those of the checks after the floor, and each bar
abbrev pub cut_marks : Floor → MarksView → MarksView
cut_marks floor marks = record {
  damaged = map (λ p. map (λ c. c - lost_checks floor p)
      (filter (λ c. nat_lt (floor_check floor p) c) (damaged_at marks p)))
      (range_with_len 0 (length marks.damaged));
  bars = map (λ p. cut_bar (lost_checks floor p) (bar_at marks p))
      (range_with_len 0 (length marks.bars));
}

-- a history may be cut there: the floor is a consistent line, all sends that are let go stand
-- before it, and so do the receipts of their messages
pub record IsFloor (history : List Process) (floor : Floor) : Type 0 where
  pub line : IsLine history (floor_line floor)
  pub consistent : IsConsistent history (floor_line floor)
  pub sent : (p : ℕ) → lost_sends floor p ≤ sends (events_before history (floor_line floor) p)
  pub received : (q : ℕ) (message : MsgName) → IsSentTo history q message
      → message.number < lost_sends floor message.from
      → IsReceivedBefore history (floor_line floor) q message

-- the rounds of the checks before it are no later than the last one begun
abbrev pub HasOldRounds : List Process → Floor → Type 0
HasOldRounds history floor =
    (p : ℕ) → All (λ round. round ≤ floor.round)
    (rounds_checked (events_before history (floor_line floor) p))

-- it survives, whoever failed: no check of it is damaged, and no process is barred below it
abbrev pub FloorSurvives : List Process → MarksView → Floor → Type 0
FloorSurvives history marks floor =
    (p : ℕ) → p < length history
    → IsTrue (survives history marks [] p (AtCheck (floor_check floor p)))

-- a floor of what is left, in the whole: what is let go first and then is let go at once
abbrev pub whole_floor : Floor → Floor → Floor
whole_floor floor later = record {
  checks = map (λ p. floor_check later p + lost_checks floor p)
      (range_with_len 0 (length later.checks));
  sends = map (λ p. lost_sends floor p + lost_sends later p)
      (range_with_len 0 (length later.sends));
  round = later.round;
}
