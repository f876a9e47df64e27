-- What a restart at a line leaves of a history, of its damage marks and of its bars.
use Rattle.std.specs.Prelude.{◌≢◌, ℕ, ◌+◌, ◌<◌, Bool, true, nat_le, List, [], ◌∷◌, length, filter}
use Rattle.std.specs.Prelude.{replicate, Option, Some, None}
use Rattle.std.specs.List.{filter_map}
use Rattle.line_names.specs.declared.choices.Choice.{Choice}
use Rattle.line_names.specs.declared.choices.Choice.TheVariants.{Check as AtCheck, Now}
use Rattle.line_names.specs.Lines.{choice_at}
use Rattle.line_tape.specs.declared.events.Event.{Event}
use Rattle.line_tape.specs.declared.events.Event.TheVariants.{Send, Recv, Check, Mark}
use Rattle.line_tape.specs.declared.limits.TheConstants.{LAST_INCARNATION}
use Rattle.line_tape.specs.Front.{front}
use Rattle.line_tape.specs.History.{Process, process_at}
use Rattle.line_tape.specs.Views.{MarksView}

-- what is left of an event: marks go, and checks lose their round
abbrev pub restarted_event : Event → Option Event
restarted_event (Send to inc body) = Some (Send to inc body)
restarted_event (Recv message) = Some (Recv message)
restarted_event (Check state round) = Some (Check state None)
restarted_event (Mark from round) = None

-- the incarnation rises where a process goes back
abbrev pub restarted_incarnation : Choice → ℕ → ℕ
restarted_incarnation (AtCheck c) inc = inc + 1
restarted_incarnation Now inc = inc

-- a process that goes back has a further incarnation
abbrev pub HasFurther : Process → Choice → Type 0
HasFurther process (AtCheck c) = process.incarnation ≢ LAST_INCARNATION
HasFurther process Now = Unit {0}

-- each process that goes back has a further incarnation
abbrev pub HaveFurther : List Process → List Choice → Type 0
HaveFurther history line =
    (p : ℕ) → p < length history → HasFurther (process_at history p) (choice_at line p)

-- a process that goes on from a choice: its tape is cut to the choice's front
abbrev pub restarted_process : Process → Choice → Process
restarted_process process choice =
    record {
      incarnation = restarted_incarnation choice process.incarnation;
      tape = filter_map restarted_event (front process.tape choice);
    }

-- each process goes on from its choice of the line
abbrev pub restarted_history : List Process → List Choice → List Process
restarted_history [] line = []
restarted_history (process ∷ rest) [] = []
restarted_history (process ∷ rest) (choice ∷ line) =
    restarted_process process choice ∷ restarted_history rest line

-- check c stands before the choice, or is it
abbrev pub is_kept : Choice → ℕ → Bool
is_kept (AtCheck k) c = nat_le c k
is_kept Now c = true

-- the damaged checks of each process that are kept
abbrev pub restarted_damage : List (List ℕ) → List Choice → List (List ℕ)
restarted_damage [] line = []
restarted_damage (checks ∷ rest) [] = []
restarted_damage (checks ∷ rest) (choice ∷ line) =
    filter (is_kept choice) checks ∷ restarted_damage rest line

-- the marks of damage that are kept; all bars go
abbrev pub restarted_marks : MarksView → List Choice → MarksView
restarted_marks marks line =
    record {
      damaged = restarted_damage marks.damaged line;
      bars = replicate (length marks.bars) None;
    }
