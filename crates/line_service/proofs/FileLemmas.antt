-- The text of a saved machine that is read line by line.
use Rattle.std.proofs.Common.{◌≡◌, ◌⊎◌, ◌∙◌, ℕ, true, List, [], ◌∷◌, sym, ap, inl, inr, refl, subst}
use Rattle.std.specs.Prelude.{map, Result, Ok, Err}
use Rattle.line_text.specs.declared.openings.OpenError.{OpenError}
use Rattle.line_text.specs.declared.openings.OpenError.TheVariants as causes
use Rattle.line_text.specs.Openings.{open_code, open_fault, IsUnopened}
use Rattle.line_claims.specs.declared.faults.TextError.TheVariants as text_errors
use Rattle.line_claims.specs.declared.faults.TextFault.{TextFault}
use Rattle.line_claims.specs.Reads.{fault_of_error, fault_of_record, no_memory}
use Rattle.line_claims.specs.Saved.{SavedParts, saved_alone, saved_of, saved_of_text}
use Rattle.line_text.specs.Conversations.{records_of}
use Rattle.line_text.specs.Rules.{HearsAll}
use Rattle.line_fields.specs.declared.faults.Fault.{Fault}
use Rattle.line_fields.specs.declared.faults.Fault.TheVariants as faults
use Rattle.line_fields.specs.Bytes.{is_input_text}
use Rattle.line_fields.specs.Records.{Record, records_of_text}
use Rattle.line_service.specs.declared.file_reads.FileRead.{FileRead}
use Rattle.line_service.specs.declared.file_reads.FileRead.TheVariants as reads
use Rattle.line_service.specs.Files.{file_rules, record_or_none, saved_of_lines, spelt_with}
use Rattle.line_service.specs.Files.{FileAnswer, IsReadOf, IsUnopenedText, ReadsLine}
use Rattle.line_service.proofs.LawLemmas.{heard_records}

-- ---- what is told of a machine that is not opened

told_code : (number : ℕ) (cause : OpenError)
    → (fault_of_error (open_fault number cause)).code ≡ open_code cause
told_code number causes.OutOfMemory = refl
told_code number causes.NoSuchCheck = refl
told_code number causes.NamesDisagree = refl
told_code number causes.BadShape = refl

pub refused_unopened : (read : Result SavedParts TextFault) (parts : SavedParts) (cause : OpenError)
    (number : ℕ) (fault : TextFault) → read ≡ Ok parts → IsUnopened parts cause
    → fault ≡ fault_of_error (open_fault number cause)
    → (fault ≡ no_memory) ⊎ IsUnopenedText read fault
refused_unopened read parts cause number fault spelt unopened is = inr (inr
    (parts, spelt, (cause, unopened, ap (λ (f : TextFault). f.code) is ∙ told_code number cause)))

-- ---- line by line

-- of no line there is none
pub nothing_spelt : saved_of_lines [] ≡ Err (fault_of_record 1 faults.NoWorld)
unfolding saved_of
nothing_spelt = refl

-- memory is out, or what these lines spell after what was read is what is spelled so
abbrev IsStill : FileRead → List (Result Record Fault) → FileRead → Type 0
IsStill old lines new =
    (spelt_with new [] ≡ Err no_memory) ⊎ (spelt_with old lines ≡ spelt_with new [])

-- of one line more
one_more_read : (old mid new : FileRead) (one : Result Record Fault)
    (lines : List (Result Record Fault)) (answer : FileAnswer) → ReadsLine old one answer mid
    → IsStill mid lines new → IsStill old (one ∷ lines) new
one_more_read old mid new one lines answer h (inl out) = inl out
one_more_read old reads.Nothing new one lines answer h (inr same) = inr (h lines ∙ same)
one_more_read old (reads.Text text) new one lines answer h (inr same) = inr (h lines ∙ same)
one_more_read old (reads.Stopped text_errors.OutOfMemory) new one lines answer h (inr same) =
    inl (sym same)
one_more_read old (reads.Stopped (text_errors.Fault fault)) new one lines answer h (inr same) =
    inr (h lines ∙ same)

read_still : (old new : FileRead) (lines : List (Result Record Fault)) (answers : List FileAnswer)
    → HearsAll file_rules old lines answers new → IsStill old lines new
read_still old new [] [] h = inr (ap (λ (s : FileRead). spelt_with s []) (sym h))
read_still old new [] (answer ∷ answers) h = absurd h
read_still old new (one ∷ lines) [] h = absurd h
read_still old new (one ∷ lines) (answer ∷ answers) (mid, first, others) =
    one_more_read old mid new one lines answer first (read_still mid new lines answers others)

pub read_whole : (new : FileRead) (lines : List (Result Record Fault)) (answers : List FileAnswer)
    → HearsAll file_rules reads.Nothing lines answers new → IsReadOf lines new
read_whole new lines answers h = read_still reads.Nothing new lines answers h

-- a machine is opened of what the lines spell
pub opened_of : (lines : Result SavedParts TextFault) (read : FileRead) (parts : SavedParts)
    → (spelt_with read [] ≡ Err no_memory) ⊎ (lines ≡ spelt_with read [])
    → spelt_with read [] ≡ Ok parts → lines ≡ Ok parts
opened_of lines read parts (inl out) spelt = absurd cc
opened_of lines read parts (inr same) spelt = same ∙ spelt

-- and none is, for its fault
pub unopened_of : (lines : Result SavedParts TextFault) (read : FileRead) (fault : TextFault)
    → (spelt_with read [] ≡ Err no_memory) ⊎ (lines ≡ spelt_with read [])
    → (fault ≡ no_memory) ⊎ IsUnopenedText (spelt_with read []) fault
    → (fault ≡ no_memory) ⊎ IsUnopenedText lines fault
unopened_of lines read fault is (inl none) = inl none
unopened_of lines read fault (inl out) (inr (inl has)) = inl cc
unopened_of lines read fault (inl out) (inr (inr (parts, spelt, cause))) = absurd cc
unopened_of lines read fault (inr same) (inr unopened) =
    inr (subst (λ (r : Result SavedParts TextFault). IsUnopenedText r fault) (sym same) unopened)

-- ---- a text whose lines are all records

all_records : (records : List Record) → map record_or_none (heard_records records) ≡ records
all_records [] = refl
all_records (r ∷ records) = ap (λ (rs : List Record). r ∷ rs) (all_records records)

pub read_by_lines : (text : List ℕ) → is_input_text text ≡ true → records_of text
    ≡ heard_records (records_of_text text) → saved_of_lines (records_of text) ≡ saved_of_text text
read_by_lines text allowed heard =
    let records = ap (λ (lines : List (Result Record Fault)). map record_or_none lines) heard ∙
    all_records (records_of_text text) in
    ap (λ (rs : List Record). saved_alone (saved_of rs)) records ∙ sym (rw allowed refl)
