-- The machine's state: what each process did, which checks are damaged, where it is barred, and
-- which rounds were completed. What the links hold is read off it where they keep their order
-- (Chandy and Lamport, ACM TOCS 3(1), 1985); else they deliver in any order, as Lai and Yang allow
-- (Information Processing Letters 25(3), 1987), and then each holds copies.
use Rattle.std.specs.Prelude.{ℕ, Bool, not, ◌&&◌, List, [], ◌∷◌, ◌++◌, replicate}
use Rattle.line_tape.specs.declared.events.Event.{Event}
use Rattle.line_names.specs.declared.messages.MsgName.{MsgName}
use Rattle.line_tape.specs.declared.items.Item.{Item}
use Rattle.line_tape.specs.History.{Process, fresh}
use Rattle.line_tape.specs.Views.{MarksView, no_marks}
use Rattle.line_tape.specs.declared.modes.Mode.{Mode}
use Rattle.line_moves.specs.Listed.{ListedRound, is_begun, is_completed, newly_listed}
use Rattle.line_moves.specs.Modes.{copies_in, items_in, IsFitIn}
use Rattle.line_moves.specs.Moves.{with_events}
use Rattle.line_rounds.specs.Tables.{between, with_list}

-- a state of the machine
pub record Machine : Type 0 where
  pub mode : Mode
  pub history : List Process
  pub marks : MarksView
  -- the number of the last round begun; 0 where none was
  pub last_round : ℕ
  -- the completed rounds, the oldest first
  pub rounds : List ListedRound
  -- of messages, from each process to each, the oldest first; none are kept in `Fifo`
  pub copies : List (List (List MsgName))

-- the empty state of n processes
abbrev pub start : ℕ → Mode → Machine
start n mode = record {
  mode = mode;
  history = replicate n fresh;
  marks = no_marks n;
  last_round = 0;
  rounds = [];
  copies = copies_in mode (replicate n (replicate n []));
}

-- what the link from process p to q holds, the oldest first
abbrev pub items_on : Machine → ℕ → ℕ → List Item
items_on machine p q = items_in machine.mode machine.history machine.copies p q

-- the machine's history is one that its links can lead to
abbrev pub IsFit : Machine → Type 0
IsFit machine = IsFitIn machine.mode machine.history

-- the machine with more events of process p, where `last` is then the last round begun; it is
-- listed if these events complete it
abbrev pub with_step : Machine → ℕ → List Event → ℕ → Machine
with_step machine p events last =
    let new = with_events machine.history p events in
    record machine {
      history = new;
      last_round = last;
      rounds = machine.rounds ++ newly_listed machine.mode machine.history new last;
    }

-- a round is open: the last one was begun since the last restart, and isn't completed
abbrev pub is_open : Machine → Bool
is_open machine =
    is_begun machine.history machine.last_round
    && not (is_completed machine.mode machine.history machine.last_round)

-- the machine with one more copy from process p to q, which isn't kept in `Fifo`
abbrev pub with_copy : Machine → ℕ → ℕ → MsgName → Machine
with_copy machine p q message =
    record machine {
      copies = copies_in machine.mode
          (with_list machine.copies p q (between machine.copies p q ++ message ∷ []));
    }
