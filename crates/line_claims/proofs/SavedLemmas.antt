-- The text of a saved machine that was read so far, and one record further.
use Rattle.std.proofs.Common.{◌≡◌, ◌<◌, ◌≤◌, ℕ, suc, ◌+◌, ◌-◌, ◌==◌, true, false, List, [], ◌∷◌}
use Rattle.std.proofs.Common.{length, Result, Ok, Err, refl, sym, ap, ◌∙◌, inl, inr, arith}
use Rattle.std.specs.Prelude.{replicate}
use Rattle.std.proofs.lemmas.Bool.{cases_Bool, cases_lt}
use Rattle.std.proofs.lemmas.List.{length-replicate}
use Rattle.line_fields.specs.declared.faults.Fault.TheVariants as faults
use Rattle.line_fields.specs.Fields.{◌>>=◌}
use Rattle.line_fields.specs.Records.{Record}
use Rattle.line_tape.specs.History.{Process, fresh}
use Rattle.line_tape.specs.Views.{no_marks}
use Rattle.line_claims.specs.declared.faults.TextError.{TextError}
use Rattle.line_claims.specs.declared.faults.TextError.TheVariants as errors
use Rattle.line_claims.specs.declared.faults.TextFault.{TextFault}
use Rattle.line_claims.specs.declared.saved_readers.SavedStage.{SavedStage}
use Rattle.line_claims.specs.declared.saved_readers.SavedStage.TheVariants as stages
use Rattle.line_claims.specs.declared.versions.TheConstants.{LAST_CHECK_VERSION}
use Rattle.line_claims.specs.Histories.{front_of, head_in}
use Rattle.line_claims.specs.Parts.{Part, many, one}
use Rattle.line_claims.specs.Reads.{FailsText, fault_of_record}
use Rattle.line_claims.specs.Saved.{SavedParts, saved_alone, saved_of}
use Rattle.line_claims.specs.SavedReadings.{SavedPlace, damaged_left, is_last, is_whole, part_left}
use Rattle.line_claims.specs.SavedReadings.{saved_left, taped_left}
use Rattle.line_claims.specs.Stages.{floors_left, tapes_left}
use Rattle.line_claims.proofs.ReadingLemmas.{floor_none, floors_taken, tape_none, tapes_whole}

-- ---- the first record

-- it has a fault
pub saved_headless : (e : TextError) (records : List Record) → FailsText e (head_in records)
    → FailsText e (saved_of records)
unfolding saved_of
saved_headless errors.OutOfMemory records h = tt
saved_headless (errors.Fault f) records h = rw h refl

-- it is of another version
pub saved_early : (version n : ℕ) (records : List Record) → head_in records ≡ Ok (version, n)
    → (version == LAST_CHECK_VERSION) ≡ false
    → saved_of records ≡ Err (fault_of_record 1 faults.BadVersion)
unfolding saved_of
saved_early version n records head other = rw (head, other) refl

pub saved_begun : (version n : ℕ) (r : Record) (rest : List Record) (parts : SavedParts)
    → head_in (r ∷ rest) ≡ Ok (version, n) → (version == LAST_CHECK_VERSION) ≡ true
    → parts.history ≡ replicate n fresh → parts.floors ≡ [] → parts.marks ≡ no_marks n
    → parts.rounds ≡ [] → parts.last ≡ 0
    → saved_of (r ∷ rest)
    ≡ saved_left (record { stage = stages.Floors; tapes = 0; parts = parts }) 2 rest
unfolding saved_of front_of
saved_begun version n r rest parts head known history floors marks rounds last =
    let long : length parts.history ≡ n = ap length history ∙ length-replicate n fresh in
    let none : n - 0 ≡ n = omega arith in
    rw (head, known, long, history, floors, marks, rounds, none) refl

-- ---- what was let go, and what stands behind it

-- what the text spells behind what was let go
abbrev behind_let_go : ℕ → SavedParts → Part (List (ℕ × ℕ)) → Result (Part SavedParts) TextFault
behind_let_go n parts floors =
    taped_left n 0 (record parts { floors = floors.value }) floors.number floors.left

-- of one process more it was taken
pub let_go_behind : (n tapes : ℕ) (old : SavedParts) (floors : List (ℕ × ℕ)) (i : ℕ) (r : Record)
    (rest : List Record) → length old.floors < n → length floors ≡ length old.floors + 1
    → ((others : ℕ)
    → floors_left (suc others) old.floors i (r ∷ rest) ≡ floors_left others floors (i + 1) rest)
    → part_left stages.Floors n tapes old i (r ∷ rest)
    ≡ part_left stages.Floors n tapes (record old { floors = floors }) (i + 1) rest
let_go_behind n tapes old floors i r rest lt longer taken =
    let others : ℕ = n - (length old.floors + 1) in
    let before : n - length old.floors ≡ suc others = omega (arith, lt) in
    let after : n - length floors ≡ others = omega (arith, longer) in
    let next : Part (List (ℕ × ℕ)) → Result (Part SavedParts) TextFault = behind_let_go n old in
    ap (λ (k : ℕ). floors_left k old.floors i (r ∷ rest) >>= next) before ∙ ap
    (λ (read : Result (Part (List (ℕ × ℕ))) TextFault). read >>= next) (taken others)
    ∙ ap (λ (k : ℕ). floors_left k floors (i + 1) rest >>= next) (sym after)

-- it has a fault
pub let_go_fails : (e : TextError) (n tapes : ℕ) (parts : SavedParts) (i : ℕ) (r : Record)
    (rest : List Record) → length parts.floors < n
    → ((others : ℕ) → FailsText e (floors_left (suc others) parts.floors i (r ∷ rest)))
    → FailsText e (part_left stages.Floors n tapes parts i (r ∷ rest))
let_go_fails errors.OutOfMemory n tapes parts i r rest lt failed = tt
let_go_fails (errors.Fault f) n tapes parts i r rest lt failed =
    let others : ℕ = n - (length parts.floors + 1) in
    let before : n - length parts.floors ≡ suc others = omega (arith, lt) in
    let next : Part (List (ℕ × ℕ)) → Result (Part SavedParts) TextFault = behind_let_go n parts in
    ap (λ (k : ℕ). floors_left k parts.floors i (r ∷ rest) >>= next) before ∙ ap
    (λ (read : Result (Part (List (ℕ × ℕ))) TextFault). read >>= next) (failed others)

-- of all it was taken
pub let_go_ends : (n tapes : ℕ) (parts : SavedParts) (i : ℕ) (left : List Record) → n ≤ length
    parts.floors → part_left stages.Floors n tapes parts i left ≡ taped_left n 0 parts i left
let_go_ends n tapes parts i left all =
    let none : n - length parts.floors ≡ 0 = omega (arith, all) in
    ap (λ (read : Result (Part (List (ℕ × ℕ))) TextFault). read >>= behind_let_go n parts)
    (floors_taken (n - length parts.floors) parts.floors i left none)

-- ---- the tapes

-- what the text spells behind its tapes
abbrev behind_tapes : ℕ → SavedParts → Part (List Process) → Result (Part SavedParts) TextFault
behind_tapes n parts front =
    damaged_left n (record parts { history = front.value }) front.number front.left

-- a record of a tape was taken
pub tape_behind : (n tapes more : ℕ) (old : SavedParts) (history : List Process) (i : ℕ)
    (r : Record) (rest : List Record)
    → tapes_left n tapes old.history i (r ∷ rest) ≡ tapes_left n more history (i + 1) rest
    → taped_left n tapes old i (r ∷ rest)
    ≡ taped_left n more (record old { history = history }) (i + 1) rest
tape_behind n tapes more old history i r rest taken =
    ap (λ (read : Result (Part (List Process)) TextFault). read >>= behind_tapes n old) taken

-- it has a fault
pub tape_fails : (e : TextError) (n tapes : ℕ) (parts : SavedParts) (i : ℕ) (left : List Record)
    → FailsText e (tapes_left n tapes parts.history i left)
    → FailsText e (taped_left n tapes parts i left)
tape_fails errors.OutOfMemory n tapes parts i left failed = tt
tape_fails (errors.Fault f) n tapes parts i left failed =
    ap (λ (read : Result (Part (List Process)) TextFault). read >>= behind_tapes n parts) failed

-- they have ended
pub tapes_behind : (n tapes : ℕ) (old : SavedParts) (history : List Process) (i : ℕ)
    (left : List Record) → tapes_left n tapes old.history i left
    ≡ Ok (record { value = history; number = i; left = left })
    → taped_left n tapes old i left ≡ damaged_left n (record old { history = history }) i left
tapes_behind n tapes old history i left ended =
    ap (λ (read : Result (Part (List Process)) TextFault). read >>= behind_tapes n old) ended

-- ---- a text that ends too soon

damage_missing : (n : ℕ) (parts : SavedParts) (i : ℕ)
    → damaged_left n parts i [] ≡ Err (fault_of_record i faults.BadRecord)
unfolding many one
damage_missing n parts i = refl

tapes_missing : (n tapes : ℕ) (parts : SavedParts) (i : ℕ)
    → taped_left n tapes parts i [] ≡ Err (fault_of_record i faults.BadRecord)
tapes_missing n tapes parts i = elim (cases_lt tapes n) [
  | inl some ↦ ap (λ (read : Result (Part (List Process)) TextFault). read >>= behind_tapes n parts)
      (tape_none n tapes parts.history i some)
  | inr none ↦ ap (λ (read : Result (Part (List Process)) TextFault). read >>= behind_tapes n parts)
      (tapes_whole n tapes parts.history i none) ∙ damage_missing n parts i
]

pub part_missing : (stage : SavedStage) (n tapes : ℕ) (parts : SavedParts) (i : ℕ) → is_last stage
    ≡ false → part_left stage n tapes parts i [] ≡ Err (fault_of_record i faults.BadRecord)
unfolding many one
part_missing stages.Floors n tapes parts i open' = elim (cases_lt (length parts.floors) n) [
  | inl more ↦
      let some : n - length parts.floors
      ≡ suc (n - (length parts.floors + 1)) = omega (arith, more) in
      ap (λ (k : ℕ). floors_left k parts.floors i [] >>= behind_let_go n parts) some
      ∙ ap (λ (read : Result (Part (List (ℕ × ℕ))) TextFault). read >>= behind_let_go n parts)
      (floor_none (n - (length parts.floors + 1)) parts.floors i)
  | inr all ↦ let_go_ends n tapes parts i [] all ∙ tapes_missing n 0 parts i
]
part_missing stages.Tapes n tapes parts i open' = tapes_missing n tapes parts i
part_missing stages.Damage n tapes parts i open' = refl
part_missing stages.Bars n tapes parts i open' = refl
part_missing stages.Rounds n tapes parts i open' = refl
part_missing stages.Nothing n tapes parts i open' = cc open'

-- ---- a text after which nothing stands

whole_left : (stage : SavedStage) (n tapes : ℕ) (parts : SavedParts) (i : ℕ) (left : List Record)
    → is_last stage ≡ true
    → part_left stage n tapes parts i left ≡ Ok (record { value = parts; number = i; left = left })
whole_left stages.Floors n tapes parts i left whole = cc whole
whole_left stages.Tapes n tapes parts i left whole = cc whole
whole_left stages.Damage n tapes parts i left whole = cc whole
whole_left stages.Bars n tapes parts i left whole = cc whole
whole_left stages.Rounds n tapes parts i left whole = cc whole
whole_left stages.Nothing n tapes parts i left whole = refl

-- a record was taken
pub alone_goes : (old new : SavedPlace) (i : ℕ) (r : Record) (rest : List Record) → (is_whole old
    ≡ true → ⊥) → (is_whole old ≡ false → saved_left old i (r ∷ rest) ≡ saved_left new (i + 1) rest)
    → saved_alone (saved_left old i (r ∷ rest)) ≡ saved_alone (saved_left new (i + 1) rest)
alone_goes old new i r rest ended goes = elim (cases_Bool (is_whole old)) [
  | inl whole ↦ absurd (ended whole)
  | inr open' ↦ ap saved_alone (goes open')
]

-- it has a fault, or none is to come
pub alone_fails : (e : TextError) (old : SavedPlace) (i : ℕ) (r : Record) (rest : List Record)
    → (is_whole old ≡ true → e ≡ errors.Fault (fault_of_record i faults.BadRecord))
    → (is_whole old ≡ false → FailsText e (saved_left old i (r ∷ rest)))
    → FailsText e (saved_alone (saved_left old i (r ∷ rest)))
alone_fails errors.OutOfMemory old i r rest ended goes = tt
alone_fails (errors.Fault f) old i r rest ended goes = elim (cases_Bool (is_whole old)) [
  | inl whole ↦
      let is : errors.Fault f ≡ errors.Fault (fault_of_record i faults.BadRecord) = ended whole in
      let same : fault_of_record i faults.BadRecord ≡ f = cc is in
      let bad : TextFault → Result SavedParts TextFault = λ fault. Err fault in
      ap saved_alone (whole_left old.stage (length old.parts.history) old.tapes old.parts i
      (r ∷ rest) whole) ∙ ap bad same
  | inr open' ↦ ap saved_alone (goes open')
]
