-- How histories and claims are written, record by record.
use Rattle.std.specs.Prelude.{ℕ, ◌+◌, Bool, if◌then◌else◌, List, [], ◌∷◌, ◌++◌, length, map, filter}
use Rattle.std.specs.Prelude.{Option, Some, None, codes, decimal, slice_index_or}
use Rattle.std.specs.List.{list_any, range_with_len}
use Rattle.std.specs.Option.{is_some}
use Rattle.line_names.specs.declared.certificates.Passed.{Passed}
use Rattle.line_names.specs.declared.choices.Choice.{Choice}
use Rattle.line_names.specs.declared.choices.Choice.TheVariants.{Check as AtCheck, Now}
use Rattle.line_names.specs.declared.messages.MsgName.{MsgName}
use Rattle.line_names.specs.Sets.{is_member}
use Rattle.line_check.specs.declared.answers.Replay.{Replay}
use Rattle.line_check.specs.declared.answers.Start.{Start}
use Rattle.line_check.specs.Answers.{replays_due, starts_due}
use Rattle.line_fields.specs.Records.{Record}
use Rattle.line_fields.specs.Texts.{hex_text}
use Rattle.line_tape.specs.declared.events.Event.{Event}
use Rattle.line_tape.specs.declared.events.Event.TheVariants.{Send, Recv, Check, Mark}
use Rattle.line_tape.specs.Event.{checks}
use Rattle.line_tape.specs.History.{Process, tape_at}
use Rattle.line_tape.specs.Survival.{is_damaged}
use Rattle.line_tape.specs.Views.{MarksView, bar_at}
use Rattle.line_claims.specs.Claims.{Claim}
use Rattle.line_claims.specs.Numbers.{none_text, now_text}
use Rattle.line_claims.specs.Versions.{earliest_version}

-- a number, or `-` where there is none
abbrev pub number_text : Option ℕ → List ℕ
number_text None = none_text
number_text (Some number) = decimal number

-- a choice: the number of a check, or now
abbrev pub choice_text : Choice → List ℕ
choice_text (AtCheck check) = decimal check
choice_text Now = now_text

-- the three fields that name a message
abbrev pub name_fields : MsgName → List (List ℕ)
name_fields m = decimal m.from ∷ decimal m.inc ∷ decimal m.number ∷ []

-- send,TO,INC,HEX, recv,FROM,INC,NUMBER, check,HEX,ROUND or mark,FROM,ROUND
abbrev pub event_record : Event → Record
event_record (Send to inc body) = codes "send" ∷ decimal to ∷ decimal inc ∷ hex_text body ∷ []
event_record (Recv message) = codes "recv" ∷ name_fields message
event_record (Check state round) = codes "check" ∷ hex_text state ∷ number_text round ∷ []
event_record (Mark from round) = codes "mark" ∷ decimal from ∷ decimal round ∷ []

-- tape,P,INC
abbrev pub tape_record : ℕ → ℕ → Record
tape_record p inc = codes "tape" ∷ decimal p ∷ decimal inc ∷ []

-- a tape and its events
abbrev pub tape_records : ℕ → Process → List Record
tape_records p process = tape_record p process.incarnation ∷ map event_record process.tape

-- the tapes of processes, the first of which has that number
abbrev pub tapes_records : ℕ → List Process → List Record
tapes_records p [] = []
tapes_records p (process ∷ others) = tape_records p process ++ tapes_records (p + 1) others

-- history,V,N
abbrev pub history_record : ℕ → ℕ → Record
history_record version n = codes "history" ∷ decimal version ∷ decimal n ∷ []

-- history,V,N with any text for N, and the records after it
abbrev pub in_version : ℕ → List ℕ → List Record → List Record
in_version version number rest = (codes "history" ∷ decimal version ∷ number ∷ []) ∷ rest

-- floor,P,C,SENDS
abbrev pub floor_record : ℕ → ℕ × ℕ → Record
floor_record p floor = codes "floor" ∷ decimal p ∷ decimal floor.0 ∷ decimal floor.1 ∷ []

-- what was let go of processes, the first of which has that number
abbrev pub floors_records : ℕ → List (ℕ × ℕ) → List Record
floors_records p [] = []
floors_records p (floor ∷ others) = floor_record p floor ∷ floors_records (p + 1) others

-- a history, in a text of that version, and what was let go of each process before it
abbrev pub front_records : ℕ → List (ℕ × ℕ) → List Process → List Record
front_records version floors history =
    history_record version (length history) ∷ (floors_records 0 floors ++ tapes_records 0 history)

-- a history alone, in the earliest version that may have so many processes
abbrev pub history_records : List Process → List Record
history_records history = front_records (earliest_version (length history)) [] history

-- what was let go of each of n processes, by the checks that they begin with and their first sends
-- that were let go, with 0 where these have no number for a process
abbrev pub floors_at : ℕ → List ℕ → List ℕ → List (ℕ × ℕ)
floors_at n checks sends =
    map (λ p. (slice_index_or checks p 0, slice_index_or sends p 0)) (range_with_len 0 n)

-- damage,P,C
abbrev pub damage_record : ℕ → ℕ → Record
damage_record p check = codes "damage" ∷ decimal p ∷ decimal check ∷ []

-- the marks of processes, the first of which has that number
abbrev pub damages_records : ℕ → List (List ℕ) → List Record
damages_records p [] = []
damages_records p (checks ∷ others) = map (damage_record p) checks ++ damages_records (p + 1) others

-- bar,P,C
abbrev pub bar_record : ℕ → ℕ → Record
bar_record p check = codes "bar" ∷ decimal p ∷ decimal check ∷ []

-- the bar of a process, where it has one
abbrev pub bar_records : ℕ → Option ℕ → List Record
bar_records p None = []
bar_records p (Some check) = bar_record p check ∷ []

-- the bars of processes, the first of which has that number
abbrev pub bars_records : ℕ → List (Option ℕ) → List Record
bars_records p [] = []
bars_records p (bar ∷ others) = bar_records p bar ++ bars_records (p + 1) others

-- the marks of damage, and the bars
abbrev pub marks_records : MarksView → List Record
marks_records marks = damages_records 0 marks.damaged ++ bars_records 0 marks.bars

-- the version of a text that tells of the marks of processes: 2 where one is barred, and else the
-- earliest that may have so many
abbrev pub version_of : MarksView → ℕ
version_of marks =
    if list_any is_some marks.bars then 2 else earliest_version (length marks.damaged)

-- the processes of a set, of the first n
abbrev pub members : ℕ → List Bool → List ℕ
members n set = filter (λ p. is_member set p) (range_with_len 0 n)

-- failed,P,..: each once, in order
abbrev pub failed_record : ℕ → List Bool → Record
failed_record n set = codes "failed" ∷ map decimal (members n set)

-- line,CHOICE,..
abbrev pub line_record : List Choice → Record
line_record line = codes "line" ∷ map choice_text line

-- pass,P,CHOICE,FROM,INC,NUMBER
abbrev pub pass_record : Passed → Record
pass_record entry =
    codes "pass" ∷ decimal entry.at ∷ choice_text entry.choice ∷ name_fields entry.message

-- a state, or `-` where there is none
abbrev pub stored_text : Option (List ℕ) → List ℕ
stored_text None = none_text
stored_text (Some state) = hex_text state

-- start,P,INC,HEX
abbrev pub start_record : ℕ → Start → Record
start_record p start =
    codes "start" ∷ decimal p ∷ decimal start.inc ∷ stored_text start.state ∷ []

-- where processes go on, the first of which has that number
abbrev pub starts_records : ℕ → List Start → List Record
starts_records p [] = []
starts_records p (start ∷ others) = start_record p start ∷ starts_records (p + 1) others

-- replay,FROM,INC,NUMBER,TO,PLACE,HEX
abbrev pub full_replay_record : Replay → Record
full_replay_record replay =
    codes "replay" ∷ decimal replay.message.from ∷ decimal replay.message.inc
    ∷ decimal replay.message.number ∷ decimal replay.to ∷ decimal replay.place
    ∷ hex_text replay.body ∷ []

-- end
abbrev pub end_record : Record
end_record = codes "end" ∷ []

-- where the processes go on, what is sent again, and the end
abbrev pub rest_records : List Start → List Replay → List Record
rest_records starts replays =
    starts_records 0 starts ++ (map full_replay_record replays ++ end_record ∷ [])

-- what stands after the marks of a claim
abbrev pub judged_records : ℕ → List Bool → List Choice → List Passed → List Start → List Replay
    → List Record
judged_records n failed line certificate starts replays =
    failed_record n failed ∷ line_record line
    ∷ (map pass_record certificate ++ rest_records starts replays)

-- a claim
abbrev pub claim_records : Claim → List Record
claim_records claim =
    marks_records claim.marks
    ++ judged_records (length claim.marks.damaged) claim.failed claim.line claim.certificate
    claim.starts claim.replays

-- the damaged checks of process p, of its checks up to the last one, in order
abbrev pub damaged_checks : MarksView → ℕ → ℕ → List ℕ
damaged_checks marks p last = filter (λ check. is_damaged marks p check) (range_with_len 1 last)

-- the damaged checks of process p of a history, in order
abbrev pub damaged_of : List Process → MarksView → ℕ → List ℕ
damaged_of history marks p = damaged_checks marks p (checks (tape_at history p))

-- the marks on a history's checks, by process and then check, and the bars of its processes
abbrev pub in_order : List Process → MarksView → MarksView
in_order history marks = record {
  damaged = map (damaged_of history marks) (range_with_len 0 (length history));
  bars = map (bar_at marks) (range_with_len 0 (length history));
}

-- a history, what was let go before it, and a claim on it, in a text of that version
abbrev pub check_records_in : ℕ → List (ℕ × ℕ) → List Process → Claim → List Record
check_records_in version floors history claim =
    front_records version floors history
    ++ (marks_records claim.marks
    ++ judged_records (length history) claim.failed claim.line claim.certificate claim.starts
    claim.replays)

-- a history, and a claim on it, in the version that its marks ask for
abbrev pub check_records : List Process → Claim → List Record
check_records history claim = check_records_in (version_of claim.marks) [] history claim

-- the claim that a line is the latest one, which says nothing of where processes go on
abbrev pub line_claim : MarksView → List Bool → List Choice → List Passed → Claim
line_claim marks failed line certificate =
    record {
      marks = marks;
      failed = failed;
      line = line;
      certificate = certificate;
      starts = [];
      replays = [];
    }

-- the claim of the right answer to a recovery of a history that goes back to this line
abbrev pub whole_claim : List Process → MarksView → List Bool → List Choice → List Passed → Claim
whole_claim history marks failed line certificate =
    record {
      marks = marks;
      failed = failed;
      line = line;
      certificate = certificate;
      starts = starts_due history line;
      replays = replays_due history line;
    }

-- a history, and that answer
abbrev pub whole_answer_records : List Process → MarksView → List Bool → List Choice → List Passed
    → List Record
whole_answer_records history marks failed line certificate =
    check_records_in 3 [] history (whole_claim history marks failed line certificate)
