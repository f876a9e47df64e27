-- Rounds: which of them are completed, and what is listed of one that is.
use Rattle.std.specs.Prelude.{ℕ, ◌<◌, Bool, not, ◌&&◌, IsTrue, ◌==◌, if◌then◌else◌, List, [], ◌∷◌}
use Rattle.std.specs.Prelude.{length, slice_index_or}
use Rattle.std.specs.List.{list_all, list_any, range_with_len}
use Rattle.line_names.specs.declared.choices.Choice.{Choice}
use Rattle.line_names.specs.declared.messages.MsgName.{MsgName}
use Rattle.line_names.specs.declared.choices.Choice.TheVariants.{Check as AtCheck}
use Rattle.line_names.specs.Lines.{choice_at, IsNowhereLater}
use Rattle.line_tape.specs.Colours.{is_completed_unordered, channel_unordered}
use Rattle.line_tape.specs.History.{Process, tape_at}
use Rattle.line_tape.specs.Restart.{is_kept}
use Rattle.line_tape.specs.Survival.{survives}
use Rattle.line_tape.specs.Views.{MarksView}
use Rattle.line_tape.specs.Rounds.{has_check_of, checks_of, is_completed_fifo, channel_fifo}
use Rattle.line_tape.specs.Rounds.{check_line, IsSnapshot}
use Rattle.line_rounds.specs.Tables.{between, table_of}
use Rattle.line_tape.specs.declared.modes.Mode.{Mode}
use Rattle.line_tape.specs.declared.modes.Mode.TheVariants.{Fifo, Unordered}

-- a round, with its check of each process and its channel from each process to each; the channel
-- from a process to itself is empty
pub record ListedRound : Type 0 where
  pub number : ℕ
  pub checks : List ℕ
  pub channels : List (List (List MsgName))

-- round r is completed: by markers on links in order (Chandy and Lamport), by colours on others
-- (Lai and Yang)
abbrev pub is_completed : Mode → List Process → ℕ → Bool
is_completed Fifo history r = is_completed_fifo history r
is_completed Unordered history r = is_completed_unordered history r

-- the channel of round r from process p to q
abbrev pub channel : Mode → List Process → ℕ → ℕ → ℕ → List MsgName
channel Fifo history r p q = channel_fifo history r p q
channel Unordered history r p q = channel_unordered history r p q

-- the channels between n processes, from each to each other
abbrev pub channel_table : ℕ → (ℕ → ℕ → List MsgName) → List (List (List MsgName))
channel_table n channels = table_of n (λ p q. if p == q then [] else channels p q)

-- round r with its checks and its channels
abbrev pub listed_round : Mode → List Process → ℕ → ListedRound
listed_round mode history r = record {
  number = r;
  checks = checks_of history r;
  channels = channel_table (length history) (channel mode history r);
}

-- the last round begun, if a change of the history completes it: no other can be, since each
-- earlier one is completed or given up
abbrev pub newly_listed : Mode → List Process → List Process → ℕ → List ListedRound
newly_listed mode old new last =
    if is_completed mode new last && not (is_completed mode old last)
    then listed_round mode new last ∷ []
    else []

-- the check of process p in a listed round
abbrev pub check_in : ListedRound → ℕ → ℕ
check_in round p = slice_index_or round.checks p 0

-- the channel of a listed round from process p to q
abbrev pub channel_in : ListedRound → ℕ → ℕ → List MsgName
channel_in round p q = between round.channels p q

-- the listed round is a snapshot of the history: its checks make a consistent line, and its
-- channels are what is in transit there
abbrev pub IsSnapshotOf : List Process → ListedRound → Type 0
IsSnapshotOf history round = IsSnapshot history round.checks (channel_in round)

-- a restart at the line cuts no check of the round
abbrev pub stays : List Choice → ListedRound → Bool
stays line round =
    list_all (λ p. is_kept (choice_at line p) (check_in round p)) (range_with_len 0 (length line))

-- some tape has a check of round r
abbrev pub is_begun : List Process → ℕ → Bool
is_begun history r =
    list_any (λ p. has_check_of r (tape_at history p)) (range_with_len 0 (length history))

-- where the checks of the round all survive, the line is at every process that check or later
abbrev pub IsReached : List Process → MarksView → List Bool → List Choice → ListedRound → Type 0
IsReached history marks failed line round =
    ((p : ℕ) → p < length history
    → IsTrue (survives history marks failed p (AtCheck (check_in round p))))
    → IsNowhereLater (check_line round.checks) line
