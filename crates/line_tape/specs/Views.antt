-- What callers see of tapes, histories and marks.
use Rattle.std.specs.Prelude.{ℕ, List, replicate, slice_index_or, slice_set, ◌++◌, ◌∷◌, [], Option}
use Rattle.std.specs.Prelude.{Some, None}
use Rattle.line_tape.specs.declared.events.Event.{Event}
use Rattle.line_tape.specs.History.{Process}

-- the events of a tape, and how many further ones it takes with no more memory
pub record TapeView : Type 0 where
  pub events : List Event
  pub room : ℕ

-- the events of a log, for how many further ones there is room beside their bodies and states, and
-- for how many further bodies and states
pub record LogView : Type 0 where
  pub events : List Event
  pub room : ℕ
  pub bodies : ℕ
  pub states : ℕ

-- the processes of a history, and the room of each tape
pub record HistoryView : Type 0 where
  pub processes : List Process
  pub rooms : List ℕ

-- how many further events the tape of process p takes with no more memory
abbrev pub room_at : HistoryView → ℕ → ℕ
room_at history p = slice_index_or history.rooms p 0

-- the damaged checks of each process, and the check that it is barred at, if there is one
pub record MarksView : Type 0 where
  pub damaged : List (List ℕ)
  pub bars : List (Option ℕ)

-- no marks and no bars of n processes
abbrev pub no_marks : ℕ → MarksView
no_marks n = record { damaged = replicate n []; bars = replicate n None }

-- the damaged checks of process p
abbrev pub damaged_at : MarksView → ℕ → List ℕ
damaged_at marks p = slice_index_or marks.damaged p []

-- the marks with one more, on check c of process p
abbrev pub with_mark : MarksView → ℕ → ℕ → MarksView
with_mark marks p c =
    record marks { damaged = slice_set marks.damaged p (damaged_at marks p ++ c ∷ []) }

-- the check that process p is barred at
abbrev pub bar_at : MarksView → ℕ → Option ℕ
bar_at marks p = slice_index_or marks.bars p None

-- the marks with process p barred at check c
abbrev pub with_bar : MarksView → ℕ → ℕ → MarksView
with_bar marks p c = record marks { bars = slice_set marks.bars p (Some c) }
