-- Histories worked by hand.
use Rattle.std.specs.Prelude.{ℕ, Bool, true, false, List, [], ◌∷◌, Some, None}
use Rattle.line_names.specs.declared.messages.MsgName.{MsgName}
use Rattle.line_tape.specs.declared.events.Event.{Event}
use Rattle.line_tape.specs.declared.events.Event.TheVariants.{Send, Recv, Check, Mark}
use Rattle.line_tape.specs.History.{Process}
use Rattle.line_tape.specs.Views.{MarksView, no_marks, with_bar, with_mark}

-- message number k of process p, from its first incarnation
abbrev pub first_life : ℕ → ℕ → MsgName
first_life p k = record { from = p; inc = 0; number = k }

-- a process in its first incarnation
abbrev pub living : List Event → Process
living tape = record { incarnation = 0; tape = tape }

-- a was sent to 1 and received there, b to 0 and received there, c to 1 and received there, with
-- checks between
abbrev pub domino_history : List Process
domino_history =
    living
    (Send 1 0 (0x61 ∷ []) ∷ Recv (first_life 1 0) ∷ Check (0xa1 ∷ []) None
    ∷ Send 1 0 (0x63 ∷ []) ∷ [])
    ∷
    living
    (Recv (first_life 0 0) ∷ Check (0xb1 ∷ []) None ∷ Send 0 0 (0x62 ∷ [])
    ∷ Recv (first_life 0 1) ∷ Check (0xb2 ∷ []) None ∷ [])
    ∷ []

-- each sent to the other, both received, both took a check
abbrev pub crossed_history : List Process
crossed_history =
    living (Send 1 0 (0x61 ∷ []) ∷ Recv (first_life 1 0) ∷ Check (0xa1 ∷ []) None ∷ []) ∷
    living (Send 0 0 (0x62 ∷ []) ∷ Recv (first_life 0 0) ∷ Check (0xb1 ∷ []) None ∷ []) ∷ []

-- both processes failed
abbrev pub both_failed : List Bool
both_failed = true ∷ true ∷ []

-- 0 sent a message to 1 and took a check; 1 has not received it
abbrev pub replay_history : List Process
replay_history = living (Send 1 0 (0x61 ∷ []) ∷ Check (0xa1 ∷ []) None ∷ []) ∷ living [] ∷ []

-- 1 has received it
abbrev pub received_history : List Process
received_history =
    living (Send 1 0 (0x61 ∷ []) ∷ Check (0xa1 ∷ []) None ∷ [])
    ∷ living (Recv (first_life 0 0) ∷ []) ∷ []

-- a round of checks, and then the domino
abbrev pub round_history : List Process
round_history =
    living
    (Check (0xa1 ∷ []) (Some 1) ∷ Mark 1 1 ∷ Send 1 0 (0x61 ∷ []) ∷ Recv (first_life 1 0)
    ∷ Check (0xa2 ∷ []) None ∷ Send 1 0 (0x63 ∷ []) ∷ [])
    ∷
    living
    (Check (0xb1 ∷ []) (Some 1) ∷ Mark 0 1 ∷ Recv (first_life 0 0) ∷ Check (0xb2 ∷ []) None
    ∷ Send 0 0 (0x62 ∷ []) ∷ Recv (first_life 0 1) ∷ Check (0xb3 ∷ []) None ∷ [])
    ∷ []

-- no check is damaged, and no process is barred
abbrev pub clean_marks : MarksView
clean_marks = no_marks 2

-- check 1 of process 1 is damaged
abbrev pub second_marked : MarksView
second_marked = with_mark clean_marks 1 1

-- process 1 is barred at its check 1
abbrev pub second_barred : MarksView
second_barred = with_bar clean_marks 1 1

-- nobody failed
abbrev pub none_failed : List Bool
none_failed = false ∷ false ∷ []

-- process 0 failed
abbrev pub first_failed : List Bool
first_failed = true ∷ false ∷ []
