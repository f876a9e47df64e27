-- A fault of a history or of a claim is one of the text.
use Rattle.std.proofs.Common.{cond, inl, inr, ◌≡◌, ◌⊎◌, ℕ, zero, suc, ◌+◌, List, [], ◌∷◌, drop}
use Rattle.std.proofs.Common.{Result, Ok, Err, true, false, refl, subst, arith}
use Rattle.std.specs.Prelude.{Bool, IfErr, codes, replicate}
use Rattle.line_fields.specs.declared.faults.Fault.{Fault}
use Rattle.line_fields.specs.declared.faults.Fault.TheVariants as faults
use Rattle.line_fields.specs.Bytes.{is_input_text}
use Rattle.line_fields.specs.Fields.{◌>>=◌, want}
use Rattle.line_fields.specs.Records.{Record, records_of_text}
use Rattle.line_tape.specs.History.{Process, fresh}
use Rattle.line_tape.specs.Views.{no_marks}
use Rattle.line_claims.specs.declared.faults.TextFault.{TextFault}
use Rattle.line_claims.specs.declared.faults.TextError.{TextError}
use Rattle.line_claims.specs.declared.faults.TextError.TheVariants as errors
use Rattle.line_claims.specs.Claims.{answer_version, claim_from, is_bar, is_none, is_replay}
use Rattle.line_claims.specs.Entries.{bar_of, damage_of, end_of, entry_of, failed_of, line_of}
use Rattle.line_claims.specs.Entries.{replay_of, start_of}
use Rattle.line_claims.specs.Versions.{floors_in, starts_in}
use Rattle.line_claims.specs.Events.{is_event}
use Rattle.line_claims.specs.Histories.{event_at, floors_of, front_of, head_in, head_of}
use Rattle.line_claims.specs.Histories.{one_floor_more, tape_from, tape_of, tapes_from}
use Rattle.line_claims.specs.Parts.{Part, begins, first, many, is_named, one, several}
use Rattle.line_claims.specs.Reads.{FailsText, IsOfText, Reads, fault_of_record, no_memory}
use Rattle.line_claims.specs.Reads.{at_record, fault_of_error}
use Rattle.line_claims.specs.Texts.{certificate_of, certificate_of_text, check_text_of}
use Rattle.line_claims.specs.Texts.{check_of_text, history_of, history_of_text, records_in}

-- each fault that is read is one of the text
abbrev pub OnlyOfText : {A : Type 0} → Result A TextFault → Type 0
OnlyOfText read = IfErr read IsOfText

pub code_is_of_text : (i : ℕ) (fault : Fault) → IsOfText (fault_of_record i fault)
code_is_of_text i faults.NoSuchProcess = inl (omega arith, omega arith)
code_is_of_text i faults.BodyTooLong = inl (omega arith, omega arith)
code_is_of_text i faults.TapeFull = inl (omega arith, omega arith)
code_is_of_text i faults.StateTooLong = inl (omega arith, omega arith)
code_is_of_text i faults.BadCount = inl (omega arith, omega arith)
code_is_of_text i faults.InitialDamage = inl (omega arith, omega arith)
code_is_of_text i faults.AlreadyDamaged = inl (omega arith, omega arith)
code_is_of_text i faults.BarNotLower = inr refl
code_is_of_text i faults.BadRecord = inl (omega arith, omega arith)
code_is_of_text i faults.BadNumber = inl (omega arith, omega arith)
code_is_of_text i faults.NoWorld = inl (omega arith, omega arith)
code_is_of_text i faults.BadVersion = inl (omega arith, omega arith)

pub numbered_faults : {A : Type 0} (i : ℕ) (read : Result A Fault) → OnlyOfText (at_record i read)
numbered_faults i (Ok x) = tt
numbered_faults i (Err fault) = code_is_of_text i fault

-- one read after another
pub both_faults : {A B : Type 0} (read : Result A TextFault) (next : A → Result B TextFault)
    → OnlyOfText read → ((x : A) → OnlyOfText (next x)) → OnlyOfText (read >>= next)
both_faults (Ok x) next h k = k x
both_faults (Err fault) next h k = h

-- so is the fault of a call that read it
pub fault_is_of_text : {A : Type 0} (read : Result A TextFault) (fault : TextFault)
    → OnlyOfText read → read ≡ Err fault → IsOfText fault
fault_is_of_text {A} read fault all h = subst (λ (r : Result A TextFault). IfErr r IsOfText) h all

-- what a caller is told is want of memory, or a fault of the text
pub told_codes : {A : Type 0} (error : TextError) (read : Result A TextFault) → OnlyOfText read
    → FailsText error read → (fault_of_error error ≡ no_memory) ⊎ IsOfText (fault_of_error error)
told_codes errors.OutOfMemory read all h = inl refl
told_codes (errors.Fault fault) read all h = inr (fault_is_of_text read fault all h)

-- so it is of what was read
pub reads_codes : {A B : Type 0} (seen : A → B) (result : Result A TextFault)
    (read : Result B TextFault) → OnlyOfText read → Reads seen result read
    → IfErr result (λ fault. (fault ≡ no_memory) ⊎ IsOfText fault)
reads_codes seen (Ok x) read all h = tt
reads_codes seen (Err fault) read all (inl none) = inl none
reads_codes seen (Err fault) read all (inr is) = inr (fault_is_of_text read fault all is)

pub head_faults : (records : List Record) → OnlyOfText (head_in records)
head_faults records = numbered_faults 1 (want
    (begins (is_named (codes "history")) records) faults.NoWorld >>= λ it. head_of (first records))

pub one_faults : {A : Type 0} (name : List ℕ) (read : Record → Result A Fault) (i : ℕ)
    (records : List Record) → OnlyOfText (one name read i records)
unfolding one
one_faults name read i records =
    let next = want (begins (is_named name) records) faults.BadRecord >>= λ it. read
    (first records) in
    both_faults (at_record i next) _ (numbered_faults i next) (λ x. tt)

pub many_faults : {A : Type 0} (is : Record → Bool) (read : A → Record → Result A Fault)
    (before : A) (i : ℕ) (records : List Record) → OnlyOfText (many is read before i records)
unfolding many
many_faults is read before i [] = tt
many_faults {A} is read before i (r ∷ rest) =
    let stop : Result (Part A) TextFault = Ok
    (record { value = before; number = i; left = r ∷ rest }) in
    elim (is r) as (λ b. OnlyOfText
    (cond b (at_record i (read before r) >>= λ more. many is read more (i + 1) rest) stop)) [
      | true ↦ both_faults (at_record i (read before r)) _ (numbered_faults i (read before r))
          (λ more. many_faults is read more (i + 1) rest)
      | false ↦ tt
    ]

tape_faults : (p : ℕ) (history : List Process) (i : ℕ) (records : List Record)
    → OnlyOfText (tape_from p history i records)
unfolding tape_from
tape_faults p history i records =
    both_faults (one (codes "tape") (tape_of p history) i records) _
    (one_faults (codes "tape") (tape_of p history) i records)
    (λ tape. many_faults is_event (event_at p) tape.value tape.number tape.left)

pub tapes_faults : (p k : ℕ) (history : List Process) (i : ℕ) (records : List Record)
    → OnlyOfText (tapes_from p k history i records)
unfolding tapes_from
tapes_faults p zero history i records = tt
tapes_faults p (suc others) history i records =
    both_faults (tape_from p history i records) _ (tape_faults p history i records)
    (λ tape. tapes_faults (p + 1) others tape.value tape.number tape.left)

front_of_faults : (n i : ℕ) (records : List Record) → OnlyOfText (front_of n i records)
unfolding front_of
front_of_faults n i records = tapes_faults 0 n (replicate n fresh) i records

pub several_faults : {A : Type 0} (name : List ℕ) (read : A → Record → Result A Fault) (k : ℕ)
    (before : A) (i : ℕ) (records : List Record) → OnlyOfText (several name read k before i records)
unfolding several
several_faults name read zero before i records = tt
several_faults name read (suc others) before i records =
    both_faults (one name (read before) i records) _ (one_faults name (read before) i records)
    (λ more. several_faults name read others more.value more.number more.left)

floors_faults : (version n : ℕ) (records : List Record) → OnlyOfText (floors_of version n records)
floors_faults version n records =
    several_faults (codes "floor") one_floor_more (floors_in version n) [] 2 (drop 1 records)

claim_faults : (version n i : ℕ) (records : List Record)
    → OnlyOfText (claim_from version n i records)
unfolding claim_from
claim_faults version n i records =
    both_faults (many (is_named (codes "damage")) (damage_of n) (no_marks n) i records) _
    (many_faults (is_named (codes "damage")) (damage_of n) (no_marks n) i records)
    (λ damage. both_faults (many (is_bar version) (bar_of n) damage.value damage.number damage.left)
    _ (many_faults (is_bar version) (bar_of n) damage.value damage.number damage.left)
    (λ marks. both_faults (one (codes "failed") (failed_of n) marks.number marks.left) _
    (one_faults (codes "failed") (failed_of n) marks.number marks.left)
    (λ failed. both_faults (one (codes "line") (line_of version) failed.number failed.left) _
    (one_faults (codes "line") (line_of version) failed.number failed.left)
    (λ line. both_faults (many (is_named (codes "pass")) (entry_of n) [] line.number line.left) _
    (many_faults (is_named (codes "pass")) (entry_of n) [] line.number line.left)
    (λ entries. both_faults
    (several (codes "start") (start_of n)
    (starts_in (answer_version version entries.left) n) [] entries.number entries.left) _
    (several_faults (codes "start") (start_of n)
    (starts_in (answer_version version entries.left) n) [] entries.number entries.left)
    (λ starts. both_faults
    (many (is_replay (answer_version version entries.left))
    (replay_of n) [] starts.number starts.left) _ (many_faults (is_replay
    (answer_version version entries.left)) (replay_of n) [] starts.number starts.left)
    (λ replays. both_faults (one (codes "end") end_of replays.number replays.left) _
    (one_faults (codes "end") end_of replays.number replays.left)
    (λ end. both_faults (at_record end.number (want (is_none end.left) faults.BadRecord)) _
    (numbered_faults end.number (want (is_none end.left) faults.BadRecord)) (λ last. tt)))))))))

history_faults : (records : List Record) → OnlyOfText (history_of records)
unfolding history_of
history_faults records =
    both_faults (head_in records) _ (head_faults records)
    (λ head. both_faults (floors_of head.0 head.1 records) _ (floors_faults head.0 head.1 records)
    (λ floors. both_faults (front_of head.1 floors.number floors.left) _
    (front_of_faults head.1 floors.number floors.left)
    (λ front. both_faults (at_record front.number (want (is_none front.left) faults.BadRecord)) _
    (numbered_faults front.number (want (is_none front.left) faults.BadRecord)) (λ ended. tt))))

certificate_faults : (version n : ℕ) (records : List Record)
    → OnlyOfText (certificate_of version n records)
unfolding certificate_of
certificate_faults version n records = claim_faults version n 1 records

check_faults : (records : List Record) → OnlyOfText (check_text_of records)
unfolding check_text_of
check_faults records =
    both_faults (head_in records) _ (head_faults records)
    (λ head. both_faults (floors_of head.0 head.1 records) _ (floors_faults head.0 head.1 records)
    (λ floors. both_faults (front_of head.1 floors.number floors.left) _
    (front_of_faults head.1 floors.number floors.left)
    (λ front. both_faults (claim_from head.0 head.1 front.number front.left) _
    (claim_faults head.0 head.1 front.number front.left) (λ claim. tt))))

-- of the records of a text
pub records_faults : (text : List ℕ) → OnlyOfText (records_in text)
records_faults text = elim (is_input_text text) as (λ b. OnlyOfText
    (cond b (Ok (records_of_text text)) (Err (fault_of_record 0 faults.BadRecord)))) [
      | true ↦ tt
      | false ↦ code_is_of_text 0 faults.BadRecord
    ]

pub history_text_faults : (text : List ℕ) → OnlyOfText (history_of_text text)
history_text_faults text =
    both_faults (records_in text) history_of (records_faults text) history_faults

pub certificate_text_faults : (version n : ℕ) (text : List ℕ)
    → OnlyOfText (certificate_of_text version n text)
certificate_text_faults version n text = both_faults (records_in text) (certificate_of version n)
    (records_faults text) (certificate_faults version n)

pub check_text_faults : (text : List ℕ) → OnlyOfText (check_of_text text)
check_text_faults text =
    both_faults (records_in text) check_text_of (records_faults text) check_faults
