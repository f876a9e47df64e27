-- The text of a saved machine that is read, one record further.
use Rattle.std.proofs.Common.{◌≡◌, ◌≢◌, ℕ, Bool, true, false, cond, List, [], ◌∷◌, ◌++◌}
use Rattle.std.proofs.Common.{append_assoc, refl, sym, ap, ◌∙◌, subst, inl, inr}
use Rattle.std.specs.Prelude.{Option, None, Some, Result, Ok, Err, IfErr, codes}
use Rattle.std.specs.Str.{bytes_eq}
use Rattle.std.proofs.lemmas.Bool.{cases_Bool}
use Rattle.std.proofs.lemmas.List.{append-nil}
use Rattle.std.proofs.lemmas.Slice.Eq.{bytes_eq-Decides}
use Rattle.line_text.specs.declared.openings.OpenError.{OpenError}
use Rattle.line_text.specs.Openings.{IsUnopened}
use Rattle.line_claims.specs.declared.faults.TextError.{TextError}
use Rattle.line_claims.specs.declared.faults.TextFault.{TextFault}
use Rattle.line_claims.specs.Parts.{Part, is_named}
use Rattle.line_text.specs.Answerers.{PutsAnswersFront}
use Rattle.line_text.specs.Rules.{fault_record}
use Rattle.line_text.proofs.HeardLemmas.{one_front}
use Rattle.line_devices.specs.Devices.{PutsFront}
use Rattle.line_devices.proofs.PutLemmas.{front_of_front}
use Rattle.line_fields.specs.declared.faults.Fault.{Fault}
use Rattle.line_fields.specs.declared.faults.Fault.TheVariants as faults
use Rattle.line_fields.specs.Fields.{◌>>=◌, want}
use Rattle.line_fields.specs.Records.{Record, field}
use Rattle.line_fields.specs.Texts.{record_text, records_text}
use Rattle.line_scripts.specs.Scripts.{world_of}
use Rattle.line_tape.specs.declared.modes.Mode.{Mode}
use Rattle.line_claims.specs.declared.saved_readers.SavedStage.{SavedStage}
use Rattle.line_claims.specs.declared.saved_readers.SavedStage.TheVariants as stages
use Rattle.line_claims.specs.Saved.{SavedParts}
use Rattle.line_claims.specs.SavedReadings.{SavedPlace, is_last, is_whole, part_left, saved_left}
use Rattle.line_service.specs.Services.{ServiceState, Empty, Dropped, Hears, start_in}
use Rattle.line_service.specs.Services.{service_answer_records, service_rules, text_error_code}

-- ---- a text that has ended

-- the part that a text is, with what stands after it
abbrev whole_part : SavedParts → ℕ → List Record → Result (Part SavedParts) TextFault
whole_part parts i rest = Ok (record { value = parts; number = i; left = rest })

part_whole : (stage : SavedStage) (n tapes : ℕ) (parts : SavedParts) (i : ℕ) (rest : List Record)
    → is_last stage ≡ true → part_left stage n tapes parts i rest ≡ whole_part parts i rest
part_whole stages.Floors n tapes parts i rest h = absurd cc
part_whole stages.Tapes n tapes parts i rest h = absurd cc
part_whole stages.Damage n tapes parts i rest h = absurd cc
part_whole stages.Bars n tapes parts i rest h = absurd cc
part_whole stages.Rounds n tapes parts i rest h = absurd cc
part_whole stages.Nothing n tapes parts i rest h = refl

pub whole_left : (place : SavedPlace) (i : ℕ) (rest : List Record) → is_whole place ≡ true
    → saved_left place i rest ≡ whole_part place.parts i rest
whole_left place i rest h = part_whole place.stage _ place.tapes place.parts i rest h

-- what it spells is what was taken
-- what a text spells, where it spells something
abbrev parts_or : SavedParts → Result (Part SavedParts) TextFault → SavedParts
parts_or given (Ok part) = part.value
parts_or given (Err fault) = given

same_parts : (one other : SavedParts) (i : ℕ) → whole_part one i [] ≡ whole_part other i []
    → one ≡ other
same_parts one other i h = ap (parts_or one) h

pub spelt_whole : (place : SavedPlace) (i : ℕ) (saved : SavedParts) → is_whole place ≡ true
    → saved_left place i [] ≡ whole_part saved i [] → saved ≡ place.parts
spelt_whole place i saved whole spelt =
    same_parts saved place.parts i (sym spelt ∙ whole_left place i [] whole)

-- and why no machine is opened of it says so of what was taken
pub unopened_whole : {T : Type 0} (told : Result T OpenError) (place : SavedPlace) (i : ℕ)
    (saved : SavedParts) → is_whole place ≡ true → saved_left place i [] ≡ whole_part saved i []
    → IfErr told (λ error. IsUnopened saved error)
    → IfErr told (λ error. IsUnopened place.parts error)
unopened_whole told place i saved whole spelt unopened = subst (λ (parts : SavedParts). IfErr told
    (λ error. IsUnopened parts error)) (spelt_whole place i saved whole spelt) unopened

pub no_fault : (place : SavedPlace) (i : ℕ) (fault : TextFault) → is_whole place ≡ true
    → saved_left place i [] ≡ Err fault → ⊥
no_fault place i fault whole missing = let there = whole_left place i [] whole in cc

-- ---- the first record

world_named : (b : Bool) (fault : Fault) (more : Unit → Result (ℕ × Mode) Fault) (world : ℕ × Mode)
    → (want b fault >>= more) ≡ Ok world → b ≡ true
world_named true fault more world h = refl
world_named false fault more world h = absurd cc

world_first : (r : Record) (world : ℕ × Mode) → world_of r ≡ Ok world
    → bytes_eq (field r 0) (codes "world") ≡ true
unfolding world_of
world_first r world h = world_named (bytes_eq (field r 0) (codes "world")) faults.NoWorld _ world h

two_names : codes "world" ≢ codes "history"
two_names e = cc

other_named : (r : Record) (world : ℕ × Mode) → world_of r ≡ Ok world
    → is_named (codes "history") r ≡ false
other_named r world h = elim (cases_Bool (is_named (codes "history") r)) [
  | inl e ↦ absurd (two_names (sym ((bytes_eq-Decides (field r 0) (codes "world")).0
      (world_first r world h)) ∙ (bytes_eq-Decides (field r 0) (codes "history")).0 e))
  | inr e ↦ e
]

-- where it begins no text of a saved machine, it may begin a world
start_by : (b : Bool) (r : Record) → is_named (codes "history") r ≡ b
    → start_in r ≡ cond b (Ok None) (world_of r >>= λ world. Ok (Some world))
start_by true r h = rw h refl
start_by false r h = rw h refl

pub start_text : (r : Record) → is_named (codes "history") r ≡ true → start_in r ≡ Ok None
start_text r named = start_by true r named

pub start_other : (r : Record) → is_named (codes "history") r ≡ false
    → start_in r ≡ (world_of r >>= λ world. Ok (Some world))
start_other r other = start_by false r other

pub start_world : (r : Record) (world : ℕ × Mode) → world_of r ≡ Ok world
    → start_in r ≡ Ok (Some world)
start_world r world h = start_other r (other_named r world h) ∙ ap
    (λ (read : Result (ℕ × Mode) Fault). read >>= λ w. Ok (Some w)) h

pub start_fault : (r : Record) (fault : Fault) → is_named (codes "history") r ≡ false
    → world_of r ≡ Err fault → start_in r ≡ Err fault
start_fault r fault other h =
    start_other r other ∙ ap (λ (read : Result (ℕ × Mode) Fault). read >>= λ w. Ok (Some w)) h

-- ---- a text that is dropped

-- the text of what is told of it
pub dropped_text : (error : TextError) → records_text (fault_record (text_error_code error) ∷ [])
    ≡ record_text (fault_record (text_error_code error))
dropped_text error = append-nil (record_text (fault_record (text_error_code error)))

-- of what is told of it a front was put
pub dropped_front : (old : ServiceState) (one : Result Record Fault) (error : TextError)
    (taken now : Option (List ℕ)) (held : List ℕ) → Hears old one (Dropped error) Empty
    → PutsFront taken now (held ++ records_text (fault_record (text_error_code error) ∷ []))
    → PutsAnswersFront service_rules old held (one ∷ []) taken now
dropped_front old one error taken now held heard put =
    one_front service_rules old Empty held one (Dropped error) taken now heard
    (subst (λ (t : List ℕ). PutsFront taken now t)
    (append_assoc held (records_text (service_answer_records (Dropped error))) (10 ∷ []))
    (front_of_front taken now (held ++ records_text (service_answer_records (Dropped error)))
    (10 ∷ []) put))
