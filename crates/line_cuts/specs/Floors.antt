-- The floor at a line of checks: what is never needed again once no process goes back before it.
-- The literature calls the line a recovery line (Elnozahy, Alvisi, Wang and Johnson, ACM Computing
-- Surveys 34(3), 2002).
use Rattle.std.specs.Prelude.{◌≢◌, ◌≤◌, ◌<◌, ◌⊎◌, ◌^◌, ℕ, List, All, length, map, replicate}
use Rattle.std.specs.Prelude.{slice_index_or}
use Rattle.std.specs.List.{range_with_len}
use Rattle.line_names.specs.declared.choices.Choice.{Choice}
use Rattle.line_names.specs.declared.choices.Choice.TheVariants.{Check as AtCheck, Now}
use Rattle.line_names.specs.declared.messages.MsgName.{MsgName}
use Rattle.line_tape.specs.Event.{sends}
use Rattle.line_tape.specs.History.{Process}
use Rattle.line_tape.specs.Line.{events_before}
use Rattle.line_tape.specs.Rounds.{names_from}
use Rattle.line_tape.specs.Transit.{in_transit}
use Rattle.line_cuts.specs.declared.floors.TheConstants.{MOST_LET_GO}
use Rattle.line_cuts.specs.Cuts.{Floor, floor_check, lost_checks, lost_sends}

-- each choice of the line is a check, or an initial state
abbrev pub IsOfChecks : List Choice → Type 0
IsOfChecks line = All (λ choice. choice ≢ Now) line

-- the check that a choice is
abbrev pub check_index_of : Choice → ℕ
check_index_of (AtCheck c) = c
check_index_of Now = 0

-- how many sends of process p stand before the first of these messages that it sent; so many as are
-- given where it sent none of them
abbrev pub sends_up_to : ℕ → List MsgName → ℕ → ℕ
sends_up_to p messages given =
    slice_index_or (map (λ (message : MsgName). message.number) (names_from p messages)) 0 given

-- how many first sends of process p are received before the line: those before its first message
-- that is in transit there, or all before the line where none is
abbrev pub settled_sends : List Process → List Choice → ℕ → ℕ
settled_sends history line p =
    sends_up_to p (in_transit history line) (sends (events_before history line p))

-- the floor at a line of checks, with the last round begun
abbrev pub floor_of_line : List Process → List Choice → ℕ → Floor
floor_of_line history line round = record {
  checks = map check_index_of line;
  sends = map (settled_sends history line) (range_with_len 0 (length history));
  round = round;
}

-- a number of it is too great to be kept
abbrev pub IsTooGreat : Floor → Type 0
IsTooGreat floor =
    (p : ℕ) × ((2 ^ 32 ≤ floor_check floor p) ⊎ (2 ^ 32 ≤ lost_sends floor p))

-- the floor of n processes before which nothing stands
abbrev pub first_floor : ℕ → Floor
first_floor n = record { checks = replicate n 0; sends = replicate n 0; round = 0 }

-- no more is let go of any process than numbers are kept for
abbrev pub HasNumbers : Floor → Type 0
HasNumbers floor =
    (p : ℕ) → (lost_checks floor p ≤ MOST_LET_GO) × (lost_sends floor p ≤ MOST_LET_GO)

-- more is
abbrev pub LacksNumbers : Floor → Type 0
LacksNumbers floor =
    (p : ℕ) × ((MOST_LET_GO < lost_checks floor p) ⊎ (MOST_LET_GO < lost_sends floor p))
