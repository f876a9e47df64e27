-- What is right to do after a recovery: where each process goes on, and which messages are sent
-- again (Elnozahy, Alvisi, Wang and Johnson, ACM Computing Surveys 34(3), 2002).
use Rattle.std.specs.Prelude.{◌≡◌, ℕ, ◌+◌, ◌-◌, Bool, not, List, [], ◌∷◌, ◌++◌, length, map, filter}
use Rattle.std.specs.Prelude.{drop, Option, Some, None}
use Rattle.std.specs.List.{flat_map, range_with_len}
use Rattle.line_names.specs.declared.certificates.Passed.{Passed}
use Rattle.line_names.specs.declared.choices.Choice.{Choice}
use Rattle.line_names.specs.declared.choices.Choice.TheVariants.{Check as AtCheck, Now}
use Rattle.line_names.specs.Lines.{choice_at}
use Rattle.line_tape.specs.declared.events.Event.{Event}
use Rattle.line_tape.specs.declared.events.Event.TheVariants.{Send, Recv, Check, Mark}
use Rattle.line_tape.specs.Chain.{IsChain}
use Rattle.line_tape.specs.Event.{stored_state}
use Rattle.line_tape.specs.History.{Process, tape_at, incarnation_at}
use Rattle.line_tape.specs.Line.{events_before}
use Rattle.line_tape.specs.Restart.{restarted_incarnation}
use Rattle.line_tape.specs.Transit.{has_received}
use Rattle.line_tape.specs.Views.{MarksView}
use Rattle.line_check.specs.declared.answers.AnswerRef as made
use Rattle.line_check.specs.declared.answers.Replay.{Replay}
use Rattle.line_check.specs.declared.answers.ReplayRef as lent
use Rattle.line_check.specs.declared.answers.Start.{Start}
use Rattle.line_check.specs.declared.cursors.ReplayCursor.{ReplayCursor}
use Rattle.line_check.specs.Shape.{HasShape}

-- the state that a process goes on from at a choice; none where it goes on from where it stands
abbrev pub state_at : List Event → Choice → Option (List ℕ)
state_at tape (AtCheck c) = Some (stored_state tape c)
state_at tape Now = None

-- where process p goes on from its choice of the line
abbrev pub start_due : List Process → List Choice → ℕ → Start
start_due history line p =
    record {
      inc = restarted_incarnation (choice_at line p) (incarnation_at history p);
      state = state_at (tape_at history p) (choice_at line p);
    }

-- where each process goes on
abbrev pub starts_due : List Process → List Choice → List Start
starts_due history line = map (start_due history line) (range_with_len 0 (length history))

-- the messages that process p sent among these events, the first event of which stands at this
-- place, and the first of the messages has this number
abbrev pub messages_sent : ℕ → ℕ → ℕ → List Event → List Replay
messages_sent p number place [] = []
messages_sent p number place (Send to inc body ∷ rest) =
    record {
      message = record { from = p; inc = inc; number = number };
      to = to;
      place = place;
      body = body;
    } ∷ messages_sent p (number + 1) (place + 1) rest
messages_sent p number place (Recv message ∷ rest) = messages_sent p number (place + 1) rest
messages_sent p number place (Check state round ∷ rest) = messages_sent p number (place + 1) rest
messages_sent p number place (Mark from round ∷ rest) = messages_sent p number (place + 1) rest

-- the message is not received before the line by the process that it is for
abbrev pub is_unreceived : List Process → List Choice → Replay → Bool
is_unreceived history line replay =
    not (has_received (events_before history line replay.to) replay.message)

-- the messages of process p that are sent before the line and not received before it, by number
abbrev pub replays_of : List Process → List Choice → ℕ → List Replay
replays_of history line p =
    filter (is_unreceived history line) (messages_sent p 0 0 (events_before history line p))

-- the messages in transit at the line, as they are sent again: by sender, then number
abbrev pub replays_due : List Process → List Choice → List Replay
replays_due history line = flat_map (replays_of history line) (range_with_len 0 (length history))

-- those of them that a walk has not come to yet
abbrev pub still_due : List Process → List Choice → ReplayCursor → List Replay
still_due history line cursor =
    filter (is_unreceived history line)
    (messages_sent cursor.p cursor.number cursor.place
    (drop cursor.place (events_before history line cursor.p)))
    ++ flat_map (replays_of history line)
    (range_with_len (cursor.p + 1) (length history - (cursor.p + 1)))

-- a message that is lent
abbrev pub replay_of_ref : lent.ReplayRef → Replay
replay_of_ref replay =
    record {
      message = replay.message;
      to = replay.to;
      place = replay.place;
      body = replay.body.now;
    }

-- an answer: a line and its certificate, where each process goes on, and what is sent again
pub record WholeAnswer : Type 0 where
  pub line : List Choice
  pub certificate : List Passed
  pub starts : List Start
  pub replays : List Replay

-- an answer that is lent
abbrev pub answer_of_ref : made.AnswerRef → WholeAnswer
answer_of_ref answer =
    record {
      line = answer.line.now;
      certificate = answer.certificate.now;
      starts = answer.starts.now;
      replays = answer.replays.now;
    }

-- the line of the answer is shown to be the latest, each process goes on from its choice of the
-- line, and what is in transit at the line is sent again
pub record IsRightAnswer (history : List Process) (marks : MarksView) (failed : List Bool)
    (answer : WholeAnswer) : Type 0 where
  pub shape : HasShape history marks failed answer.certificate answer.line
  pub chain : IsChain history marks failed answer.certificate answer.line
  pub starts_are : answer.starts ≡ starts_due history answer.line
  pub replays_are : answer.replays ≡ replays_due history answer.line
