-- The parts of a text, taken record by record.
use Rattle.std.proofs.Common.{cond, ◌≡◌, ◌<◌, ◌≤◌, ℕ, zero, suc, ◌+◌, ◌-◌, Bool, true, false, List}
use Rattle.std.proofs.Common.{[], ◌∷◌, length, Result, Ok, Err, ◌⊎◌, inl, inr, refl, sym, subst, ap}
use Rattle.std.proofs.Common.{◌∙◌, arith, le-leb}
use Rattle.std.specs.Prelude.{◌++◌, codes}
use Rattle.std.proofs.lemmas.Bool.{cases_lt}
use Rattle.std.proofs.lemmas.List.{append-nil}
use Rattle.line_check.specs.declared.answers.Replay.{Replay}
use Rattle.line_check.specs.declared.answers.Start.{Start}
use Rattle.line_fields.specs.declared.faults.Fault.{Fault}
use Rattle.line_fields.specs.declared.faults.Fault.TheVariants as faults
use Rattle.line_fields.specs.declared.faults.ReadError.{ReadError}
use Rattle.line_fields.specs.declared.faults.ReadError.TheVariants as errors
use Rattle.line_fields.specs.Fields.{◌>>=◌, Fails}
use Rattle.line_fields.specs.Records.{Record}
use Rattle.line_tape.specs.History.{Process}
use Rattle.line_claims.specs.declared.claims.ClaimStage.{ClaimStage}
use Rattle.line_claims.specs.declared.claims.ClaimStage.TheVariants as stages
use Rattle.line_claims.specs.declared.faults.TextError.{TextError}
use Rattle.line_claims.specs.declared.faults.TextError.TheVariants as text_errors
use Rattle.line_claims.specs.declared.faults.TextFault.{TextFault}
use Rattle.line_claims.specs.Claims.{Claim, answer_version, is_line_alone, is_replay}
use Rattle.line_claims.specs.Entries.{replay_of, start_of}
use Rattle.line_claims.specs.Events.{is_event}
use Rattle.line_claims.specs.Histories.{event_at, one_floor_more, tape_from, tape_of, tapes_from}
use Rattle.line_claims.specs.Parts.{Part, begins, is_named, many, one, several}
use Rattle.line_claims.specs.Reads.{FailsText, error_at, fault_of_record}
use Rattle.line_claims.specs.Stages.{Goes, answer_left, claim_left, end_left, floors_left}
use Rattle.line_claims.specs.Stages.{open_tape, part_end, replays_left, starts_left, starts_to_come}
use Rattle.line_claims.specs.Stages.{tapes_left, whole_front}
use Rattle.line_claims.specs.Versions.{starts_in}

pub first_more : {A : Type 0} (is : Record → Bool) (read : A → Record → Result A Fault)
    (before more : A) (i : ℕ) (r : Record) (rest : List Record)
    → is r ≡ true → read before r ≡ Ok more
    → many is read before i (r ∷ rest) ≡ many is read more (i + 1) rest
unfolding many
first_more is read before more i r rest it h = rw (it, h) refl

-- the next record, if there is one, is of another kind
pub many_end : {A : Type 0} (is : Record → Bool) (read : A → Record → Result A Fault) (before : A)
    (i : ℕ) (left : List Record)
    → begins is left ≡ false
    → many is read before i left ≡ Ok (record { value = before; number = i; left = left })
unfolding many
many_end is read before i [] h = refl
many_end is read before i (r ∷ rest) h = rw h refl

-- ---- a record, and what is read behind it

-- a record of many was read
pub then_more : {A B : Type 0} (is : Record → Bool) (read : A → Record → Result A Fault)
    (before more : A) (i : ℕ) (r : Record) (rest : List Record) (next : Part A → Result B TextFault)
    → is r ≡ true → read before r ≡ Ok more
    → (many is read before i (r ∷ rest) >>= next) ≡ (many is read more (i + 1) rest >>= next)
unfolding many
then_more is read before more i r rest next it h = rw (it, h) refl

-- it has a fault
pub then_fault : {A B : Type 0} (is : Record → Bool) (read : A → Record → Result A Fault)
    (before : A) (i : ℕ) (r : Record) (rest : List Record) (e : ReadError)
    (next : Part A → Result B TextFault)
    → is r ≡ true → Fails e (read before r)
    → FailsText (error_at i e) (many is read before i (r ∷ rest) >>= next)
unfolding many
then_fault is read before i r rest errors.OutOfMemory next it h = tt
then_fault is read before i r rest (errors.Fault f) next it h = rw (it, h) refl

-- the same of a reader that takes no memory
pub then_refused : {A B : Type 0} (is : Record → Bool) (read : A → Record → Result A Fault) (before
    : A) (i : ℕ) (r : Record) (rest : List Record) (f : Fault) (next : Part A → Result B TextFault)
    → is r ≡ true → read before r ≡ Err f
    → (many is read before i (r ∷ rest) >>= next) ≡ Err (fault_of_record i f)
unfolding many
then_refused is read before i r rest f next it h = rw (it, h) refl

-- the next record is of another kind
pub then_end : {A B : Type 0} (is : Record → Bool) (read : A → Record → Result A Fault) (before : A)
    (i : ℕ) (r : Record) (rest : List Record) (next : Part A → Result B TextFault)
    → is r ≡ false → (many is read before i (r ∷ rest) >>= next)
    ≡ next (record { value = before; number = i; left = r ∷ rest })
unfolding many
then_end is read before i r rest next it = rw it refl

-- there is no next record
pub then_none : {A B : Type 0} (is : Record → Bool) (read : A → Record → Result A Fault)
    (before : A) (i : ℕ) (next : Part A → Result B TextFault)
    → (many is read before i [] >>= next) ≡ next (record { value = before; number = i; left = [] })
unfolding many
then_none is read before i next = refl

-- the one record with a name was read
pub one_read : {A B : Type 0} (name : List ℕ) (read : Record → Result A Fault) (x : A) (i : ℕ)
    (r : Record) (rest : List Record) (next : Part A → Result B TextFault)
    → is_named name r ≡ true → read r ≡ Ok x → (one name read i (r ∷ rest) >>= next)
    ≡ next (record { value = x; number = i + 1; left = rest })
unfolding one
one_read name read x i r rest next it h = rw (it, h) refl

-- it has a fault
pub one_refused : {A B : Type 0} (name : List ℕ) (read : Record → Result A Fault) (i : ℕ)
    (r : Record) (rest : List Record) (f : Fault) (next : Part A → Result B TextFault)
    → is_named name r ≡ true → read r ≡ Err f
    → (one name read i (r ∷ rest) >>= next) ≡ Err (fault_of_record i f)
unfolding one
one_refused name read i r rest f next it h = rw (it, h) refl

-- another one stands in its place
pub one_missing : {A B : Type 0} (name : List ℕ) (read : Record → Result A Fault) (i : ℕ)
    (r : Record) (rest : List Record) (next : Part A → Result B TextFault)
    → is_named name r ≡ false
    → (one name read i (r ∷ rest) >>= next) ≡ Err (fault_of_record i faults.BadRecord)
unfolding one
one_missing name read i r rest next it = rw it refl

-- none stands there
pub one_none : {A B : Type 0} (name : List ℕ) (read : Record → Result A Fault) (i : ℕ)
    (next : Part A → Result B TextFault)
    → (one name read i [] >>= next) ≡ Err (fault_of_record i faults.BadRecord)
unfolding one
one_none name read i next = refl

-- what is to be read of a record may be said otherwise
pub goes_by : {A B : Type 0} (result : Result B TextError) (old mid : List Record
    → Result A TextFault) (new : B → List Record → Result A TextFault) (r : Record)
    → ((rest : List Record) → old (r ∷ rest) ≡ mid (r ∷ rest)) → Goes result mid new r
    → Goes result old new r
goes_by (Ok x) old mid new r same h = λ rest. same rest ∙ h rest
goes_by {A} (Err e) old mid new r same h = λ rest. subst
    (λ (read : Result A TextFault). FailsText e read) (sym (same rest)) (h rest)

-- ---- where the processes go on

next_of : {A B C : Type 0} (read : Result A TextFault) (more : A → Result B TextFault)
    (next : B → Result C TextFault) → ((read >>= more) >>= next) ≡ (read >>= λ x. (more x >>= next))
next_of (Ok x) more next = refl
next_of (Err fault) more next = refl

pub several_next : {A : Type 0} (name : List ℕ) (read : A → Record → Result A Fault) (others : ℕ)
    (before : A) (i : ℕ) (left : List Record)
    → several name read (suc others) before i left ≡ (one name
    (read before) i left >>= λ more. several name read others more.value more.number more.left)
unfolding several
several_next name read others before i left = refl

-- none is to come
pub several_none : {A : Type 0} (name : List ℕ) (read : A → Record → Result A Fault) (k : ℕ)
    (before : A) (i : ℕ) (left : List Record) → k ≡ 0
    → several name read k before i left ≡ Ok (record { value = before; number = i; left = left })
unfolding several
several_none name read k before i left none = ap (λ (m : ℕ). several name read m before i left) none

several_end : {A B : Type 0} (name : List ℕ) (read : A → Record → Result A Fault) (k : ℕ)
    (before : A) (i : ℕ) (left : List Record) (next : Part A → Result B TextFault) → k ≡ 0
    → (several name read k before i left >>= next)
    ≡ next (record { value = before; number = i; left = left })
several_end {A} name read k before i left next none = ap (λ
    (read : Result (Part A) TextFault). read >>= next) (several_none name read k before i left none)

-- one more is to come
several_first : {A B : Type 0} (name : List ℕ) (read : A → Record → Result A Fault) (k others : ℕ)
    (before : A) (i : ℕ) (left : List Record) (next : Part A → Result B TextFault) → k ≡ suc others
    → (several name read k before i left >>= next) ≡ (one name (read before) i left >>= λ more.
    (several name read others more.value more.number more.left >>= next))
several_first {A} name read k others before i left next more =
    ap (λ (m : ℕ). several name read m before i left >>= next) more
    ∙ ap (λ (r : Result (Part A) TextFault). r >>= next)
    (several_next name read others before i left)
    ∙ next_of (one name (read before) i left)
    (λ more. several name read others more.value more.number more.left) next

-- how many that are
to_come : (count : ℕ) (starts : List Start) → starts_to_come count starts ≡ count - length starts
to_come count [] = omega arith
to_come count (start ∷ others) = refl

-- that of all was taken
pub starts_taken : (version n : ℕ) (claim : Claim) (i : ℕ) (left : List Record)
    → starts_in version n ≤ length claim.starts
    → starts_left version n claim i left ≡ replays_left version n claim i left
starts_taken version n claim i left all =
    several_end (codes "start") (start_of n) (starts_to_come (starts_in version n) claim.starts)
    claim.starts i left _ (to_come (starts_in version n) claim.starts ∙ omega (arith, all))

-- the next is another record
pub start_missing : (version n : ℕ) (claim : Claim) (i : ℕ) (r : Record) (rest : List Record)
    → length claim.starts < starts_in version n → is_named (codes "start") r ≡ false
    → starts_left version n claim i (r ∷ rest) ≡ Err (fault_of_record i faults.BadRecord)
start_missing version n claim i r rest more other =
    let one_more : starts_to_come (starts_in version n) claim.starts
    ≡ suc (starts_in version n - (length claim.starts + 1)) =
    to_come (starts_in version n) claim.starts ∙ omega (arith, more) in
    several_first (codes "start") (start_of n)
    (starts_to_come (starts_in version n) claim.starts) _ claim.starts i (r ∷ rest) _ one_more ∙
    one_missing (codes "start") (start_of n claim.starts) i r rest _ other

-- it has a fault
pub start_fault : (version n : ℕ) (claim : Claim) (i : ℕ) (r : Record) (rest : List Record)
    (e : ReadError) → length claim.starts < starts_in version n → is_named (codes "start") r ≡ true
    → Fails e (start_of n claim.starts r)
    → FailsText (error_at i e) (starts_left version n claim i (r ∷ rest))
start_fault version n claim i r rest errors.OutOfMemory more it h = tt
start_fault version n claim i r rest (errors.Fault f) more it h =
    let one_more : starts_to_come (starts_in version n) claim.starts
    ≡ suc (starts_in version n - (length claim.starts + 1)) =
    to_come (starts_in version n) claim.starts ∙ omega (arith, more) in
    several_first (codes "start") (start_of n)
    (starts_to_come (starts_in version n) claim.starts) _ claim.starts i (r ∷ rest) _ one_more ∙
    one_refused (codes "start") (start_of n claim.starts) i r rest f _ it h

-- it was read
pub start_read : (version n : ℕ) (claim : Claim) (more : List Start) (i : ℕ) (r : Record) (rest :
    List Record) → length claim.starts < starts_in version n → is_named (codes "start") r ≡ true
    → start_of n claim.starts r ≡ Ok more → length more ≡ length claim.starts + 1
    → starts_left version n claim i (r ∷ rest)
    ≡ starts_left version n (record claim { starts = more }) (i + 1) rest
start_read version n claim more i r rest further it h longer =
    let others : ℕ = starts_in version n - (length claim.starts + 1) in
    let one_more : starts_to_come (starts_in version n) claim.starts
    ≡ suc others = to_come (starts_in version n) claim.starts ∙ omega (arith, further) in
    let left : starts_to_come (starts_in version n) more
    ≡ others = to_come (starts_in version n) more ∙ omega (arith, longer) in
    several_first (codes "start") (start_of n) (starts_to_come (starts_in version n) claim.starts)
    others claim.starts i (r ∷ rest) _ one_more
    ∙ one_read (codes "start") (start_of n claim.starts) more i r rest _ it h
    ∙ ap (λ (k : ℕ). several (codes "start") (start_of n) k more
    (i + 1) rest >>= λ starts. replays_left version n
    (record claim { starts = starts.value }) starts.number starts.left) (sym left)

-- ---- the messages that are sent again

replay_named : (version : ℕ) (r : Record) → 3 ≤ version → is_named (codes "replay") r ≡ true
    → is_replay version r ≡ true
replay_named version r known it = rw (le-leb 3 version known, it) refl

-- the next was read
pub replay_taken : (version n : ℕ) (claim : Claim) (more : List Replay) (i : ℕ) (r : Record)
    (rest : List Record) → 3 ≤ version → is_named (codes "replay") r ≡ true
    → replay_of n claim.replays r ≡ Ok more
    → replays_left version n claim i (r ∷ rest)
    ≡ replays_left version n (record claim { replays = more }) (i + 1) rest
replay_taken version n claim more i r rest known it h = then_more (is_replay version)
    (replay_of n) claim.replays more i r rest _ (replay_named version r known it) h

-- it has a fault
pub replay_fault : (version n : ℕ) (claim : Claim) (i : ℕ) (r : Record) (rest : List Record)
    (e : ReadError) → 3 ≤ version → is_named (codes "replay") r ≡ true
    → Fails e (replay_of n claim.replays r)
    → FailsText (error_at i e) (replays_left version n claim i (r ∷ rest))
replay_fault version n claim i r rest e known it h = then_fault (is_replay version)
    (replay_of n) claim.replays i r rest e _ (replay_named version r known it) h

-- ---- what stands behind the entries

-- the claim says of no process where it goes on
pub alone_ends : (version n : ℕ) (claim : Claim) (i : ℕ) (r : Record) (rest : List Record)
    → is_line_alone version (r ∷ rest) ≡ true
    → answer_left version n claim i (r ∷ rest) ≡ end_left claim i (r ∷ rest)
alone_ends version n claim i r rest alone =
    let none : starts_in 2 n ≤ length claim.starts = omega arith in
    ap (λ (b : Bool). starts_left (cond b 2 version) n claim i (r ∷ rest)) alone ∙ starts_taken 2 n
    claim i (r ∷ rest) none ∙ then_end _ _ claim.replays i r rest _ refl

-- it may say it of them
pub answer_goes_on : (version n : ℕ) (claim : Claim) (i : ℕ) (r : Record) (rest : List Record)
    → is_line_alone version (r ∷ rest) ≡ false
    → answer_left version n claim i (r ∷ rest) ≡ starts_left version n claim i (r ∷ rest)
answer_goes_on version n claim i r rest other =
    ap (λ (b : Bool). starts_left (cond b 2 version) n claim i (r ∷ rest)) other

-- ---- what was let go

-- the next is another record
pub floor_missing : (others : ℕ) (floors : List (ℕ × ℕ)) (i : ℕ) (r : Record) (rest : List Record)
    → is_named (codes "floor") r ≡ false
    → floors_left (suc others) floors i (r ∷ rest) ≡ Err (fault_of_record i faults.BadRecord)
floor_missing others floors i r rest other = several_next (codes "floor") one_floor_more others
    floors i (r ∷ rest) ∙ one_missing (codes "floor") (one_floor_more floors) i r rest _ other

-- it has a fault
pub floor_fault : (others : ℕ) (floors : List (ℕ × ℕ)) (i : ℕ) (r : Record) (rest : List Record)
    (e : ReadError) → is_named (codes "floor") r ≡ true → Fails e (one_floor_more floors r)
    → FailsText (error_at i e) (floors_left (suc others) floors i (r ∷ rest))
floor_fault others floors i r rest errors.OutOfMemory it h = tt
floor_fault others floors i r rest (errors.Fault f) it h = several_next
    (codes "floor") one_floor_more others floors i (r ∷ rest) ∙ one_refused (codes "floor")
    (one_floor_more floors) i r rest f _ it h

-- it was read
pub floor_taken : (others : ℕ) (floors more : List (ℕ × ℕ)) (i : ℕ) (r : Record)
    (rest : List Record) → is_named (codes "floor") r ≡ true → one_floor_more floors r ≡ Ok more
    → floors_left (suc others) floors i (r ∷ rest) ≡ floors_left others more (i + 1) rest
floor_taken others floors more i r rest it h = several_next (codes "floor") one_floor_more others
    floors i (r ∷ rest) ∙ one_read (codes "floor") (one_floor_more floors) more i r rest _ it h

-- there is none
pub floor_none : (others : ℕ) (floors : List (ℕ × ℕ)) (i : ℕ)
    → floors_left (suc others) floors i [] ≡ Err (fault_of_record i faults.BadRecord)
floor_none others floors i = several_next (codes "floor") one_floor_more others floors i [] ∙
    one_none (codes "floor") (one_floor_more floors) i _

-- that of all was taken
pub floors_taken : (k : ℕ) (floors : List (ℕ × ℕ)) (i : ℕ) (left : List Record) → k ≡ 0
    → floors_left k floors i left ≡ Ok (record { value = floors; number = i; left = left })
floors_taken k floors i left none = several_none (codes "floor") one_floor_more k floors i left none

-- a fault of it is one of its place
pub place_fails : {A : Type 0} (e : TextError) (read : Result (Part A) TextFault) → FailsText e read
    → FailsText e (part_end read)
place_fails text_errors.OutOfMemory read h = tt
place_fails (text_errors.Fault f) read h = rw h refl

-- a step of one part is a step of what goes on with it
pub goes_before : {A B C : Type 0} (result : Result C TextError)
    (old : List Record → Result A TextFault) (new : C → List Record → Result A TextFault)
    (next : A → Result B TextFault) (r : Record)
    → Goes result old new r
    → Goes result (λ left. old left >>= next) (λ x left. new x left >>= next) r
goes_before {A} (Ok x) old new next r h = λ rest. ap (λ (read : Result A TextFault). read >>= next)
    (h rest)
goes_before (Err text_errors.OutOfMemory) old new next r h = λ rest. tt
goes_before (Err (text_errors.Fault f)) old new next r h = λ rest. rw (h rest) refl

-- ---- a claim that ends too soon

replays_open : (version n : ℕ) (claim : Claim) (i : ℕ)
    → replays_left version n claim i [] ≡ Err (fault_of_record i faults.BadRecord)
unfolding many one
replays_open version n claim i = refl

starts_open : (version n : ℕ) (claim : Claim) (i : ℕ)
    → starts_left version n claim i [] ≡ Err (fault_of_record i faults.BadRecord)
starts_open version n claim i = elim (cases_lt (length claim.starts) (starts_in version n)) [
  | inl more ↦
      let one_more : starts_to_come (starts_in version n) claim.starts
      ≡ suc (starts_in version n - (length claim.starts + 1)) =
      to_come (starts_in version n) claim.starts ∙ omega (arith, more) in
      several_first (codes "start") (start_of n) (starts_to_come (starts_in version n) claim.starts)
      _ claim.starts i [] _ one_more ∙ one_none (codes "start") (start_of n claim.starts) i _
  | inr all ↦ starts_taken version n claim i [] all ∙ replays_open version n claim i
]

pub claim_open : (stage : ClaimStage) (version n : ℕ) (claim : Claim) (i : ℕ)
    → (stage ≡ stages.Nothing → ⊥)
    → claim_left stage version n claim i [] ≡ Err (fault_of_record i faults.BadRecord)
unfolding many one
claim_open stages.Damage version n claim i other = refl
claim_open stages.Bars version n claim i other = refl
claim_open stages.Line version n claim i other = refl
claim_open stages.Entries version n claim i other =
    starts_open (answer_version version []) n claim i
claim_open stages.Starts version n claim i other = starts_open version n claim i
claim_open stages.Replays version n claim i other = refl
claim_open stages.Nothing version n claim i other = absurd (other refl)

-- ---- the first record of a text

-- ---- tapes

-- the tapes from one on are that one and those behind it
tapes_next : (p others : ℕ) (history : List Process) (i : ℕ) (left : List Record)
    → tapes_from p (suc others) history i left ≡ (tape_from p history i left >>= λ tape. tapes_from
    (p + 1) others tape.value tape.number tape.left)
unfolding tapes_from
tapes_next p others history i left = refl

next_apart : {A B C : Type 0} (read : Result A TextFault) (more : A → Result B TextFault)
    (next : B → Result C TextFault) → ((read >>= more) >>= next) ≡ (read >>= λ x. (more x >>= next))
next_apart (Ok x) more next = refl
next_apart (Err fault) more next = refl

-- the first of them, and its events
tape_apart : {B : Type 0} (p : ℕ) (history : List Process) (i : ℕ) (left : List Record)
    (next : Part (List Process) → Result B TextFault)
    → (tape_from p history i left >>= next) ≡ (one (codes "tape") (tape_of p history) i left >>= λ
    tape. (many is_event (event_at p) tape.value tape.number tape.left >>= next))
unfolding tape_from
tape_apart p history i left next = next_apart (one (codes "tape") (tape_of p history) i left)
    (λ tape. many is_event (event_at p) tape.value tape.number tape.left) next

tapes_next_of : (n p : ℕ) (history : List Process) (i : ℕ) (left : List Record) → p < n
    → tapes_from p (n - p) history i left ≡ (tape_from p history i left >>= λ tape. tapes_from
    (p + 1) (n - (p + 1)) tape.value tape.number tape.left)
tapes_next_of n p history i left lt =
    let count : n - p ≡ suc (n - (p + 1)) = omega (arith, lt) in
    ap (λ (k : ℕ). tapes_from p k history i left) count ∙ tapes_next p (n - (p + 1)) history i left

-- by their first record
tapes_first : (n p : ℕ) (history : List Process) (i : ℕ) (left : List Record) → p < n
    → tapes_from p (n - p) history i left
    ≡ (one (codes "tape") (tape_of p history) i left >>= λ head.
    (many is_event (event_at p) head.value head.number head.left >>= λ tape. tapes_from (p + 1)
    (n - (p + 1)) tape.value tape.number tape.left))
tapes_first n p history i left lt = tapes_next_of n p history i left lt ∙ tape_apart p history i
    left (λ tape. tapes_from (p + 1) (n - (p + 1)) tape.value tape.number tape.left)

-- the tape that was begun last
open_next : (p : ℕ) (history : List Process) (i : ℕ) (left : List Record)
    → open_tape (p + 1) history i left ≡ many is_event (event_at p) history i left
open_next p history i left =
    let same : p + 1 ≡ suc p = omega arith in
    ap (λ (b : ℕ). open_tape b history i left) same

-- the first record of a tape was taken
pub tape_begun : (n p : ℕ) (history more : List Process) (i : ℕ) (r : Record) (rest : List Record)
    → p < n → is_named (codes "tape") r ≡ true → tape_of p history r ≡ Ok more
    → tapes_from p (n - p) history i (r ∷ rest) ≡ tapes_left n (p + 1) more (i + 1) rest
tape_begun n p history more i r rest lt it h =
    tapes_first n p history i (r ∷ rest) lt ∙ one_read (codes "tape")
    (tape_of p history) more i r rest _ it h
    ∙ sym (ap (λ (tape : Result (Part (List Process)) TextFault). tape >>= λ tape. tapes_from
    (p + 1) (n - (p + 1)) tape.value tape.number tape.left) (open_next p more (i + 1) rest))

pub tape_refused : (n p : ℕ) (history : List Process) (i : ℕ) (r : Record) (rest : List Record)
    (f : Fault) → p < n → is_named (codes "tape") r ≡ true → tape_of p history r ≡ Err f
    → tapes_from p (n - p) history i (r ∷ rest) ≡ Err (fault_of_record i f)
tape_refused n p history i r rest f lt it h = tapes_first n p history i (r ∷ rest) lt ∙ one_refused
    (codes "tape") (tape_of p history) i r rest f _ it h

pub tape_missing : (n p : ℕ) (history : List Process) (i : ℕ) (r : Record) (rest : List Record)
    → p < n → is_named (codes "tape") r ≡ false
    → tapes_from p (n - p) history i (r ∷ rest) ≡ Err (fault_of_record i faults.BadRecord)
tape_missing n p history i r rest lt it = tapes_first n p history i (r ∷ rest) lt ∙ one_missing
    (codes "tape") (tape_of p history) i r rest _ it

-- all tapes were read
pub tapes_end : (p k : ℕ) (history : List Process) (i : ℕ) (left : List Record) → k ≡ 0
    → tapes_from p k history i left ≡ Ok (record { value = history; number = i; left = left })
unfolding tapes_from
tapes_end p k history i left none = ap (λ (m : ℕ). tapes_from p m history i left) none

-- ---- the tape that was begun last, and those that were not

-- an event of it was taken
pub event_taken : (n b : ℕ) (history more : List Process) (i : ℕ) (r : Record) (rest : List Record)
    → 0 < b → is_event r ≡ true → event_at (b - 1) history r ≡ Ok more
    → tapes_left n b history i (r ∷ rest) ≡ tapes_left n b more (i + 1) rest
event_taken n zero history more i r rest some it h = absurd (omega (arith, some))
event_taken n (suc p) history more i r rest some it h =
    let same : suc p - 1 ≡ p = omega arith in
    then_more is_event (event_at p) history more i r rest _ it
    (ap (λ (q : ℕ). event_at q history r) (sym same) ∙ h)

pub event_fault : (n b : ℕ) (history : List Process) (i : ℕ) (r : Record) (rest : List Record)
    (e : ReadError) → 0 < b → is_event r ≡ true → Fails e (event_at (b - 1) history r)
    → FailsText (error_at i e) (tapes_left n b history i (r ∷ rest))
event_fault n zero history i r rest e some it h = absurd (omega (arith, some))
event_fault n (suc p) history i r rest e some it h =
    let same : suc p - 1 ≡ p = omega arith in
    then_fault is_event (event_at p) history i r rest e _ it
    (subst (λ (q : ℕ). Fails e (event_at q history r)) same h)

-- there is none, or it has ended
pub tape_closed : (n b : ℕ) (history : List Process) (i : ℕ) (r : Record) (rest : List Record)
    → (b ≡ 0) ⊎ (is_event r ≡ false)
    → tapes_left n b history i (r ∷ rest) ≡ tapes_from b (n - b) history i (r ∷ rest)
tape_closed n zero history i r rest h = refl
tape_closed n (suc p) history i r rest (inl none) = absurd (omega (arith, none))
tape_closed n (suc p) history i r rest (inr it) =
    then_end is_event (event_at p) history i r rest _ it

-- there are no more records
nothing_open : (n b : ℕ) (history : List Process) (i : ℕ)
    → tapes_left n b history i [] ≡ tapes_from b (n - b) history i []
nothing_open n zero history i = refl
nothing_open n (suc p) history i = then_none is_event (event_at p) history i _

pub tapes_whole : (n b : ℕ) (history : List Process) (i : ℕ) → n ≤ b
    → tapes_left n b history i [] ≡ Ok (record { value = history; number = i; left = [] })
tapes_whole n b history i le =
    let none : n - b ≡ 0 = omega (arith, le) in
    nothing_open n b history i ∙ tapes_end b (n - b) history i [] none

pub tape_none : (n b : ℕ) (history : List Process) (i : ℕ) → b < n
    → tapes_left n b history i [] ≡ Err (fault_of_record i faults.BadRecord)
tape_none n b history i lt = nothing_open n b history i ∙ tapes_first n b history i [] lt ∙ one_none
    (codes "tape") (tape_of b history) i _

-- ---- records behind which nothing stands

pub nothing_behind : {A : Type 0} (old more : List Record → A) (front left : List Record)
    → ((rest : List Record) → old (front ++ rest) ≡ more (left ++ rest)) → old front ≡ more left
nothing_behind old more front left same =
    sym (ap old (append-nil front)) ∙ same [] ∙ ap more (append-nil left)

-- a history that ends here has the fault of its tapes
pub front_fails : (e : TextError) (read : Result (Part (List Process)) TextFault) → FailsText e read
    → FailsText e (whole_front read)
front_fails text_errors.OutOfMemory read h = tt
front_fails (text_errors.Fault fault) read h = rw h refl

-- a record that stands behind the last tape
pub front_left : (read : Result (Part (List Process)) TextFault) (history : List Process) (i : ℕ)
    (r : Record) (rest : List Record)
    → read ≡ Ok (record { value = history; number = i; left = r ∷ rest })
    → whole_front read ≡ Err (fault_of_record i faults.BadRecord)
front_left read history i r rest is = rw is refl
