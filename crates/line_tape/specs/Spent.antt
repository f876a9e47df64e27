-- Names of messages that were sent: no later message may have one of them (Elnozahy, Alvisi, Wang
-- and Johnson, ACM Computing Surveys 34(3), 2002).
use Rattle.std.specs.Prelude.{ℕ, ◌<◌, ◌≤◌, List, All, ◌⊎◌}
use Rattle.line_names.specs.declared.messages.MsgName.{MsgName}
use Rattle.line_tape.specs.Event.{sends, incarnations_sent, Holds}
use Rattle.line_tape.specs.History.{Process, tape_at, incarnation_at}

-- the name of the next message of process p
abbrev pub next_name : List Process → ℕ → MsgName
next_name history p =
    record { from = p; inc = incarnation_at history p; number = sends (tape_at history p) }

-- the sender's tape holds the message, or its sender has gone on to a later incarnation
abbrev pub IsSpentName : List Process → MsgName → Type 0
IsSpentName history message =
    Holds (tape_at history message.from) message.inc message.number
    ⊎ (message.inc < incarnation_at history message.from)

-- no tape has a send of a later incarnation than the present one of its process
abbrev pub HasNoLaterSend : List Process → Type 0
HasNoLaterSend history =
    (p : ℕ) → All (λ inc. inc ≤ incarnation_at history p) (incarnations_sent (tape_at history p))
