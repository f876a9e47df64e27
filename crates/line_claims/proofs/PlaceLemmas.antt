-- A check text that was read so far, and one piece further.
use Rattle.std.proofs.Common.{cond, ◌≡◌, ◌<◌, ◌≤◌, ℕ, suc, ◌+◌, ◌-◌, ◌&&◌, Bool, true, false, List}
use Rattle.std.proofs.Common.{[], ◌∷◌, ◌++◌, drop, length, Option, Some, None, Result, Ok, Err}
use Rattle.std.proofs.Common.{refl, sym, ap, ◌∙◌, inl, inr, arith}
use Rattle.std.specs.Prelude.{is_some, nat_le, replicate}
use Rattle.std.proofs.lemmas.Bool.{cases_Bool, cases_lt}
use Rattle.std.proofs.lemmas.List.{length-replicate}
use Rattle.line_fields.specs.declared.faults.Fault.TheVariants as faults
use Rattle.line_fields.specs.Bytes.{is_input_text}
use Rattle.line_fields.specs.Fields.{◌>>=◌}
use Rattle.line_fields.specs.Records.{Record, records_of_text}
use Rattle.line_fields.proofs.TextLemmas.{empty_is_input, records_of_nothing}
use Rattle.line_tape.specs.History.{Process, fresh}
use Rattle.line_claims.specs.declared.claims.ClaimStage.TheVariants as parts
use Rattle.line_claims.specs.declared.faults.TextError.{TextError}
use Rattle.line_claims.specs.declared.faults.TextError.TheVariants as errors
use Rattle.line_claims.specs.declared.faults.TextFault.{TextFault}
use Rattle.line_claims.specs.Claims.{Claim, claim_from}
use Rattle.line_claims.specs.Histories.{front_of, head_in}
use Rattle.line_claims.specs.declared.readers.CheckStage.{CheckStage}
use Rattle.line_claims.specs.declared.readers.CheckStage.TheVariants as stages
use Rattle.line_claims.specs.Parts.{Part, several}
use Rattle.line_claims.specs.Readings.{CheckPlace, EndsBefore, first_stage, place_left, stage_left}
use Rattle.line_claims.specs.Readings.{text_left, unless_fault}
use Rattle.line_claims.specs.Reads.{FailsText, Reads, Yields, fault_of_error, fault_of_record}
use Rattle.line_claims.specs.Stages.{PartEnd, claim_left, damage_left, floors_left, no_claim}
use Rattle.line_claims.specs.Stages.{part_end, tapes_left, whole_front}
use Rattle.line_claims.specs.Texts.{Check, certificate_of, certificate_of_text, check_of_text}
use Rattle.line_claims.specs.Texts.{check_text_of, history_of, history_of_text, records_in}
use Rattle.line_claims.specs.Versions.{floors_in}
use Rattle.line_claims.proofs.ApartLemmas.{input_before, records_before}
use Rattle.line_claims.proofs.ReadingLemmas.{claim_open, floor_none, floors_taken, tape_none}
use Rattle.line_claims.proofs.ReadingLemmas.{tapes_whole}

-- ---- where a text begins

-- the first record has a fault
pub check_headless : (e : TextError) (records : List Record) → FailsText e (head_in records)
    → FailsText e (check_text_of records)
unfolding check_text_of
check_headless errors.OutOfMemory records h = tt
check_headless (errors.Fault f) records h = rw h refl

-- nothing behind it was taken
abbrev of_stage : CheckStage → ℕ → ℕ → Check → List Record → Result Check TextFault
of_stage stage version n check rest = stage_left stage version n 0 check 2 rest

-- by whether it tells what was let go
begun_by : (b : Bool) (version n : ℕ) (rest : List Record) (check : Check) → nat_le 4 version ≡ b
    → check.history ≡ replicate n fresh → check.floors ≡ [] → check.claim ≡ no_claim n
    → (floors_left
    (cond b n 0) [] 2 rest >>= λ floors. front_of n floors.number floors.left >>= λ front.
    claim_from version n front.number front.left >>= λ claim. Ok
    (record { history = front.value; floors = floors.value; claim = claim }))
    ≡ of_stage (cond b stages.Floors stages.Tapes) version n check rest
unfolding front_of claim_from several
begun_by true version n rest check is history floors claim =
    let none : n - 0 ≡ n = omega arith in
    rw (history, floors, claim, none) refl
begun_by false version n rest check is history floors claim =
    let none : n - 0 ≡ n = omega arith in
    rw (history, floors, claim, none) refl

pub check_begun : (version n : ℕ) (r : Record) (rest : List Record) (check : Check)
    → head_in (r ∷ rest) ≡ Ok (version, n) → check.history ≡ replicate n fresh → check.floors ≡ []
    → check.claim ≡ no_claim n
    → check_text_of (r ∷ rest)
    ≡ stage_left (first_stage version) version (length check.history) 0 check 2 rest
unfolding check_text_of
check_begun version n r rest check head history floors claim =
    let long : length check.history ≡ n = ap length history ∙ length-replicate n fresh in
    rw (head, long) (begun_by (nat_le 4 version) version n rest check refl history floors claim)

-- a history, behind what was let go
abbrev pub history_behind : ℕ → List Process → PartEnd → Result (List Process) TextFault
history_behind n history place = whole_front (tapes_left n 0 history place.number place.left)

by_place : {A : Type 0} (read : Result (Part A) TextFault)
    (next : PartEnd → Result (List Process) TextFault) → (read >>= λ part. next
    (record { number = part.number; left = part.left })) ≡ (part_end read >>= next)
by_place (Ok part) next = refl
by_place (Err fault) next = refl

pub history_begun : (version n : ℕ) (text : List ℕ) (records rest : List Record)
    (history : List Process) → records_in text ≡ Ok records → head_in records ≡ Ok (version, n)
    → rest ≡ drop 1 records
    → history ≡ replicate n fresh → history_of_text text ≡ (part_end
    (floors_left (floors_in version n) [] 2 rest) >>= history_behind (length history) history)
unfolding history_of front_of
history_begun version n text records rest history is head behind same =
    let none : n - 0 ≡ n = omega arith in
    let long : length (replicate n fresh) ≡ n = length-replicate n fresh in
    let parted = by_place (floors_left (floors_in version n) [] 2 (drop 1 records))
    (history_behind n (replicate n fresh)) in
    rw (is, head, behind, same, long) (rw none at parted)

-- a fault of what was let go is one of the history
pub floors_fail : {B : Type 0} (e : TextError) (read : Result PartEnd TextFault)
    (next : PartEnd → Result B TextFault) → FailsText e read → FailsText e (read >>= next)
floors_fail errors.OutOfMemory read next h = tt
floors_fail (errors.Fault f) read next h = rw h refl

pub certificate_begun : (version n : ℕ) (text : List ℕ) (records : List Record) (claim : Claim)
    → records_in text ≡ Ok records → claim ≡ no_claim n
    → certificate_of_text version n text ≡ claim_left parts.Damage version n claim 1 records
unfolding certificate_of claim_from
certificate_begun version n text records claim is none = rw (is, none) refl

-- ---- what was let go, and what stands behind it

-- what a check text spells behind what was let go
abbrev behind_floors : ℕ → ℕ → Check → Part (List (ℕ × ℕ)) → Result Check TextFault
behind_floors version n check floors = do
  front ← tapes_left n 0 check.history floors.number floors.left
  claim ← damage_left version n check.claim front.number front.left
  Ok (record { history = front.value; floors = floors.value; claim = claim })

-- of one process more it was taken
pub floor_behind : (version n tapes : ℕ) (old new : Check) (i : ℕ) (r : Record) (rest : List Record)
    → length old.floors < n → length new.floors ≡ length old.floors + 1 → new.history ≡ old.history
    → new.claim ≡ old.claim
    → ((others : ℕ) → floors_left (suc others) old.floors i (r ∷ rest)
    ≡ floors_left others new.floors (i + 1) rest)
    → stage_left stages.Floors version n tapes old i (r ∷ rest)
    ≡ stage_left stages.Floors version n tapes new (i + 1) rest
floor_behind version n tapes old new i r rest lt longer history claim taken =
    let others : ℕ = n - (length old.floors + 1) in
    let before : n - length old.floors ≡ suc others = omega (arith, lt) in
    let after : n - length new.floors ≡ others = omega (arith, longer) in
    let next : Part (List (ℕ × ℕ)) → Result Check TextFault = behind_floors version n old in
    let one : (floors_left (n - length old.floors) old.floors i (r ∷ rest) >>= next)
    ≡ (floors_left (n - length new.floors) new.floors (i + 1) rest >>= next)
    = ap (λ (k : ℕ). floors_left k old.floors i (r ∷ rest) >>= next) before ∙ ap
    (λ (read : Result (Part (List (ℕ × ℕ))) TextFault). read >>= next) (taken others)
    ∙ ap (λ (k : ℕ). floors_left k new.floors (i + 1) rest >>= next) (sym after) in
    one ∙ rw (history, claim) refl

-- it has a fault
pub floor_fails : (e : TextError) (version n tapes : ℕ) (check : Check) (i : ℕ) (r : Record)
    (rest : List Record) → length check.floors < n
    → ((others : ℕ) → FailsText e (floors_left (suc others) check.floors i (r ∷ rest)))
    → FailsText e (stage_left stages.Floors version n tapes check i (r ∷ rest))
floor_fails errors.OutOfMemory version n tapes check i r rest lt failed = tt
floor_fails (errors.Fault f) version n tapes check i r rest lt failed =
    let others : ℕ = n - (length check.floors + 1) in
    let before : n - length check.floors ≡ suc others = omega (arith, lt) in
    let next : Part (List (ℕ × ℕ)) → Result Check TextFault = behind_floors version n check in
    ap (λ (k : ℕ). floors_left k check.floors i (r ∷ rest) >>= next) before ∙ ap
    (λ (read : Result (Part (List (ℕ × ℕ))) TextFault). read >>= next) (failed others)

-- of all it was taken
pub floors_behind : (version n tapes : ℕ) (check : Check) (i : ℕ) (left : List Record)
    → n ≤ length check.floors → stage_left stages.Floors version n tapes check i left
    ≡ stage_left stages.Tapes version n 0 check i left
floors_behind version n tapes check i left all =
    let none : n - length check.floors ≡ 0 = omega (arith, all) in
    ap (λ (read : Result (Part (List (ℕ × ℕ))) TextFault). read >>= behind_floors version n check)
    (floors_taken (n - length check.floors) check.floors i left none)

-- ---- where it ends

-- before the claim
tapes_open : (version n : ℕ) (check : Check) (i : ℕ)
    → stage_left stages.Tapes version n 0 check i [] ≡ Err (fault_of_record i faults.BadRecord)
tapes_open version n check i =
    let next : Part (List Process)
    → Result Check TextFault = λ front. damage_left version n check.claim front.number
    front.left >>= λ claim. Ok
    (record { history = front.value; floors = check.floors; claim = claim }) in
    elim (cases_lt 0 n) [
      | inl some ↦ ap (λ (read : Result (Part (List Process)) TextFault). read >>= next)
          (tape_none n 0 check.history i some)
      | inr none ↦
          ap (λ (read : Result (Part (List Process)) TextFault). read >>= next)
          (tapes_whole n 0 check.history i none)
          ∙ ap (λ (read : Result Claim TextFault). read >>= λ claim. Ok
          (record { history = check.history; floors = check.floors; claim = claim }))
          (claim_open parts.Damage version n check.claim i (λ e. cc e))
    ]

pub floors_open : (version n tapes : ℕ) (check : Check) (i : ℕ)
    → stage_left stages.Floors version n tapes check i [] ≡ Err (fault_of_record i faults.BadRecord)
floors_open version n tapes check i =
    elim (cases_lt (length check.floors) n) [
      | inl more ↦
          let some : n - length check.floors
          ≡ suc (n - (length check.floors + 1)) = omega (arith, more) in
          ap (λ (k : ℕ). floors_left k check.floors i [] >>= behind_floors version n check) some
          ∙ ap (λ (read : Result (Part (List (ℕ × ℕ))) TextFault). read >>= behind_floors version n
          check) (floor_none (n - (length check.floors + 1)) check.floors i)
      | inr all ↦ floors_behind version n tapes check i [] all ∙ tapes_open version n check i
    ]

-- a claim that was read, and the history before it
pub claim_closed : {A : Type 0} (result : Result A TextError) (check : Check)
    (read : Result Claim TextFault) → Yields (λ x. check.claim) result read
    → Yields (λ x. check) result (read >>= λ claim. Ok
    (record { history = check.history; floors = check.floors; claim = claim }))
claim_closed (Ok x) check read h = rw h refl
claim_closed (Err errors.OutOfMemory) check read h = tt
claim_closed (Err (errors.Fault f)) check read h = rw h refl

-- what a caller is told of an error
pub told_error : {A B : Type 0} (seen : A → B) (e : TextError) (read : Result B TextFault)
    → FailsText e read → Reads seen (Err (fault_of_error e)) read
told_error seen errors.OutOfMemory read h = inl refl
told_error seen (errors.Fault f) read h = inr h

text_ended : (place : CheckPlace)
    → text_left place [] ≡ unless_fault place.fault (place_left place.begun place.number [])
unfolding text_left
text_ended place = rw (empty_is_input, records_of_nothing) refl

pub told_fault : (place : CheckPlace) (fault : TextFault) → place.fault ≡ Some fault
    → text_left place [] ≡ Err fault
told_fault place fault is = text_ended place ∙ ap
    (λ (f : Option TextFault). unless_fault f (place_left place.begun place.number [])) is

pub told_rest : (place : CheckPlace) → place.fault ≡ None
    → text_left place [] ≡ place_left place.begun place.number []
told_rest place none = text_ended place ∙ ap
    (λ (f : Option TextFault). unless_fault f (place_left place.begun place.number [])) none

pub nothing_there : check_text_of [] ≡ Err (fault_of_record 1 faults.NoWorld)
unfolding check_text_of
nothing_there = refl

-- nothing was taken
pub nothing_taken : (number : ℕ) (text : List ℕ)
    → text_left (record { begun = None; number = number; fault = None }) text ≡ check_of_text text
unfolding text_left
nothing_taken number text = refl

-- ---- a piece

-- a byte that no text has
abbrev pub bad_byte : TextFault
bad_byte = fault_of_record 0 faults.BadRecord

-- that fault comes before all else
bad_stays : (place : CheckPlace) (text : List ℕ) → place.fault ≡ Some bad_byte
    → text_left place text ≡ Err bad_byte
unfolding text_left
bad_stays place text is =
    elim (cases_Bool (is_input_text text)) [ inl e ↦ rw (e, is) refl | inr e ↦ rw e refl ]

bad_text : (place : CheckPlace) (text : List ℕ) → is_input_text text ≡ false
    → text_left place text ≡ Err bad_byte
unfolding text_left
bad_text place text bad = rw bad refl

pub bad_piece : (old new : CheckPlace) (piece rest : List ℕ) → EndsBefore piece rest → is_input_text
    piece ≡ false → new.fault ≡ Some bad_byte → text_left old (piece ++ rest) ≡ text_left new rest
bad_piece old new piece rest ends bad is =
    bad_text old (piece ++ rest) (input_before piece rest ends ∙ ap
    (λ (b : Bool). b && is_input_text rest) bad) ∙ sym (bad_stays new rest is)

-- the records of a piece stand before those behind it
behind_piece : (place : CheckPlace) (piece rest : List ℕ) → EndsBefore piece rest
    → is_input_text piece ≡ true
    → text_left place (piece ++ rest) ≡ (records_in rest >>= λ records. unless_fault place.fault
    (place_left place.begun place.number (records_of_text piece ++ records)))
unfolding text_left
behind_piece place piece rest ends plain =
    let both : is_input_text (piece ++ rest) ≡ is_input_text rest = input_before piece rest ends ∙
    ap (λ (b : Bool). b && is_input_text rest) plain in
    let joined : records_of_text (piece ++ rest)
    ≡ records_of_text piece ++ records_of_text rest = records_before piece rest ends in
    elim (cases_Bool (is_input_text rest))
    [ inl e ↦ rw (both, e, joined) refl | inr e ↦ rw (both, e) refl ]

next_same : (read : Result (List Record) TextFault) (old new : List Record → Result Check TextFault)
    → ((records : List Record) → old records ≡ new records) → (read >>= old) ≡ (read >>= new)
next_same (Ok records) old new same = same records
next_same (Err fault) old new same = refl

pub none_of : (fault : Option TextFault) → is_some fault ≡ false → fault ≡ None
none_of None off = refl
none_of (Some fault) off = cc off

-- a piece without fault was taken
pub piece_taken : (old new : CheckPlace) (piece rest : List ℕ) → EndsBefore piece rest
    → is_input_text piece ≡ true → old.fault ≡ None → new.fault ≡ None
    → ((records : List Record) → place_left old.begun old.number (records_of_text piece ++ records)
    ≡ place_left new.begun new.number records)
    → text_left old (piece ++ rest) ≡ text_left new rest
unfolding text_left
piece_taken old new piece rest ends plain none still taken =
    behind_piece old piece rest ends plain
    ∙ next_same (records_in rest) _ _ (λ records. rw (none, still) (taken records))

-- it had the first fault
pub piece_refused : (old new : CheckPlace) (fault : TextFault) (piece rest : List ℕ)
    → EndsBefore piece rest → is_input_text piece ≡ true → old.fault ≡ None → new.fault ≡ Some fault
    → ((records : List Record)
    → place_left old.begun old.number (records_of_text piece ++ records) ≡ Err fault)
    → text_left old (piece ++ rest) ≡ text_left new rest
unfolding text_left
piece_refused old new fault piece rest ends plain none is refused =
    behind_piece old piece rest ends plain
    ∙ next_same (records_in rest) _ _ (λ records. rw (none, is) (refused records))

either_way : (fault : Option TextFault) (read other : Result Check TextFault) → is_some fault ≡ true
    → unless_fault fault read ≡ unless_fault fault other
either_way (Some fault) read other some = refl
either_way None read other some = cc some

-- there was a fault before
pub fault_stays : (place : CheckPlace) (piece rest : List ℕ) → EndsBefore piece rest
    → is_input_text piece ≡ true → is_some place.fault ≡ true
    → text_left place (piece ++ rest) ≡ text_left place rest
unfolding text_left
fault_stays place piece rest ends plain some =
    behind_piece place piece rest ends plain
    ∙ next_same (records_in rest) _ _ (λ records. either_way place.fault _ _ some)
