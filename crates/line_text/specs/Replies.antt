-- The records that are written for what the machine answers.
use Rattle.std.specs.Prelude.{ℕ, Bool, if◌then◌else◌, List, [], ◌∷◌, ◌++◌, length, map, Option}
use Rattle.std.specs.Prelude.{Some, None, codes, decimal, slice_index_or}
use Rattle.std.specs.List.{range_with_len}
use Rattle.line_names.specs.declared.certificates.Passed.{Passed}
use Rattle.line_names.specs.declared.choices.Choice.{Choice}
use Rattle.line_names.specs.declared.messages.MsgName.{MsgName}
use Rattle.line_names.specs.Lines.{choice_at}
use Rattle.line_fields.specs.Records.{Record}
use Rattle.line_fields.specs.Texts.{hex_text}
use Rattle.line_world.specs.declared.replies.Reply.{Reply}
use Rattle.line_world.specs.declared.replies.Reply.TheVariants.{Sent, Took, Marked, Stale, Repeated}
use Rattle.line_world.specs.declared.replies.Reply.TheVariants.{Checked, Begun, Turned, Damaged}
use Rattle.line_world.specs.declared.replies.Reply.TheVariants.{Barred, Recovered}
use Rattle.line_world.specs.declared.replies.Answer.{Answer}
use Rattle.line_world.specs.declared.replies.Answer.TheVariants as answers
use Rattle.line_world.specs.Codes.{refusal_code}
use Rattle.line_claims.specs.Faults.{name_of}
use Rattle.line_claims.specs.Numbers.{none_text}
use Rattle.line_claims.specs.Records.{choice_text, name_fields, number_text, pass_record}

-- sent,FROM,INC,NUMBER
abbrev pub sent_record : MsgName → Record
sent_record m = codes "sent" ∷ name_fields m

-- stale,FROM,INC,NUMBER
abbrev pub stale_record : MsgName → Record
stale_record m = codes "stale" ∷ name_fields m

-- repeated,FROM,INC,NUMBER
abbrev pub repeated_record : MsgName → Record
repeated_record m = codes "repeated" ∷ name_fields m

-- took,FROM,INC,NUMBER,ROUND: the round of a forced check, where one was taken
abbrev pub took_record : MsgName → Option ℕ → Record
took_record m forced = codes "took" ∷ name_fields m ++ number_text forced ∷ []

-- marked,ROUND,forced or marked,ROUND,closed
abbrev pub marked_record : ℕ → Bool → Record
marked_record round forced =
    codes "marked" ∷ decimal round ∷ (if forced then codes "forced" else codes "closed") ∷ []

-- begun,P,C,ROUND
abbrev pub begun_record : ℕ → ℕ → ℕ → Record
begun_record p check round = codes "begun" ∷ decimal p ∷ decimal check ∷ decimal round ∷ []

-- turned,P,C,ROUND
abbrev pub turned_record : ℕ → ℕ → ℕ → Record
turned_record p check round = codes "turned" ∷ decimal p ∷ decimal check ∷ decimal round ∷ []

-- checked,P,C
abbrev pub checked_record : ℕ → ℕ → Record
checked_record p check = codes "checked" ∷ decimal p ∷ decimal check ∷ []

-- damaged,P,C
abbrev pub damaged_record : ℕ → ℕ → Record
damaged_record p check = codes "damaged" ∷ decimal p ∷ decimal check ∷ []

-- barred,P,C
abbrev pub barred_record : ℕ → ℕ → Record
barred_record p check = codes "barred" ∷ decimal p ∷ decimal check ∷ []

-- WORD,SWEEPS,ENTRIES,REPLAYS: `recovered` of a recovery, and `planned` of one that is only told of
abbrev pub recovered_record : List ℕ → ℕ → ℕ → ℕ → Record
recovered_record word sweeps entries replays =
    word ∷ decimal sweeps ∷ decimal entries ∷ decimal replays ∷ []

-- the state that a process goes on from, where it is a stored one
abbrev pub state_text : Option (List ℕ) → List ℕ
state_text None = none_text
state_text (Some bytes) = hex_text bytes

-- line,P,CHOICE,INC,HEX
abbrev pub process_record : ℕ → Choice → ℕ → Option (List ℕ) → Record
process_record p choice inc state =
    codes "line" ∷ decimal p ∷ choice_text choice ∷ decimal inc ∷ state_text state ∷ []

-- the line record of process p
abbrev pub process_of : List Choice → List ℕ → List (Option (List ℕ)) → ℕ → Record
process_of choices incarnations states p =
    process_record p (choice_at choices p) (slice_index_or incarnations p 0)
    (slice_index_or states p None)

-- the line records of the processes in their order
abbrev pub process_records : List Choice → List ℕ → List (Option (List ℕ)) → List Record
process_records choices incarnations states =
    map (process_of choices incarnations states) (range_with_len 0 (length choices))

-- the records of a certificate, in its order
abbrev pub pass_records : List Passed → List Record
pass_records entries = map pass_record entries

-- replay,FROM,INC,NUMBER
abbrev pub replay_record : MsgName → Record
replay_record m = codes "replay" ∷ name_fields m

-- the records of the messages that are replayed, in their order
abbrev pub replay_records : List MsgName → List Record
replay_records replays = map replay_record replays

-- the records of a recovery, the first of which begins with this word
abbrev pub recovery_records : List ℕ → ℕ → List Passed → List MsgName → List Choice → List ℕ
    → List (Option (List ℕ))
    → List Record
recovery_records word sweeps entries replays choices incarnations states =
    recovered_record word sweeps (length entries) (length replays)
    ∷ (process_records choices incarnations states
    ++ (pass_records entries ++ replay_records replays))

-- refused,CODE,NAME
abbrev pub refusal_record : ℕ → Record
refusal_record code = codes "refused" ∷ decimal code ∷ name_of code ∷ []

-- the records of a reply
abbrev pub reply_records : Reply → List Record
reply_records (Sent message) = sent_record message ∷ []
reply_records (Took message forced) = took_record message forced ∷ []
reply_records (Marked round forced) = marked_record round forced ∷ []
reply_records (Stale message) = stale_record message ∷ []
reply_records (Repeated message) = repeated_record message ∷ []
reply_records (Checked at check) = checked_record at check ∷ []
reply_records (Begun at check round) = begun_record at check round ∷ []
reply_records (Turned at check round) = turned_record at check round ∷ []
reply_records (Damaged at check) = damaged_record at check ∷ []
reply_records (Barred at check) = barred_record at check ∷ []
reply_records (Recovered plan states incarnations) =
    recovery_records (codes "recovered") plan.value.sweeps plan.value.certificate.items
    plan.value.replays.items
    plan.value.line incarnations.items states.items

-- the records of an answer
abbrev pub answer_records : Answer → List Record
answer_records (answers.Done reply) = reply_records reply
answer_records (answers.Refused error) = refusal_record (refusal_code error) ∷ []

-- the records of what a recovery would be answered
abbrev pub planned_records : Answer → List Record
planned_records (answers.Done (Recovered plan states incarnations)) =
    recovery_records (codes "planned") plan.value.sweeps plan.value.certificate.items
    plan.value.replays.items
    plan.value.line incarnations.items states.items
planned_records (answers.Done other) = []
planned_records (answers.Refused error) = refusal_record (refusal_code error) ∷ []
