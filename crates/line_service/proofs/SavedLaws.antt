-- The text of a saved machine that is served.
use Rattle.std.proofs.Common.{◌≡◌, ◌≢◌, ℕ, Bool, true, false, List, [], ◌∷◌, length, refl, sym, ap}
use Rattle.std.proofs.Common.{◌∙◌, subst}
use Rattle.std.specs.Prelude.{None, Some, Result, Ok, Err, codes}
use Rattle.line_claims.specs.declared.faults.TextFault.{TextFault}
use Rattle.line_claims.specs.Parts.{Part, is_named}
use Rattle.line_claims.specs.Reads.{at_record, fault_of_record}
use Rattle.line_text.specs.declared.outcomes.Outcome.{Outcome}
use Rattle.line_text.specs.declared.outcomes.Outcome.TheVariants as outcomes
use Rattle.line_text.specs.Rules.{HearsAll, worse, worst}
use Rattle.line_fields.specs.declared.faults.Fault.{Fault}
use Rattle.line_fields.specs.declared.faults.Fault.TheVariants as faults
use Rattle.line_fields.specs.Fields.{◌>>=◌, want}
use Rattle.line_fields.specs.Records.{Record}
use Rattle.line_live.specs.Lives.{LiveMachine}
use Rattle.line_claims.specs.Saved.{SavedParts, saved_of}
use Rattle.line_claims.specs.SavedReadings.{SavedPlace, is_whole, saved_left}
use Rattle.line_claims.proofs.SavedLemmas.{part_missing}
use Rattle.line_text.specs.Openings.{opened}
use Rattle.line_service.specs.Services.{ServiceAnswer, Began, Dropped, Faulted, Replied}
use Rattle.line_service.specs.Services.{ServiceState, Empty, Has, Reads, outcome_of, service_rules}
use Rattle.line_service.proofs.LawLemmas.{dropped_first, faulted_first, heard_records}
use Rattle.line_service.proofs.TextLemmas.{start_text}

-- ---- what a text spells

-- a part that was read
abbrev pub read_part : Part SavedParts → Result (Part SavedParts) TextFault
read_part part = Ok part

pub same_part : (one other : Part SavedParts) → read_part one ≡ read_part other → one ≡ other
same_part one other h = cc

pub never_both : (part : Part SavedParts) (fault : TextFault) → read_part part ≡ Err fault → ⊥
never_both part fault h = cc

named_if : {A B C : Type 0} (b : Bool) (more : Unit → Result A Fault)
    (next : A → Result B TextFault) (last : B → Result C TextFault) (x : C)
    → ((at_record 1 (want b faults.NoWorld >>= more) >>= next) >>= last) ≡ Ok x → b ≡ true
named_if true more next last x h = refl
named_if false more next last x h = absurd cc

pub head_named : (first : Record) (rest : List Record) (saved : Part SavedParts)
    → saved_of (first ∷ rest) ≡ Ok saved → is_named (codes "history") first ≡ true
unfolding saved_of
head_named first rest saved h = named_if (is_named (codes "history") first) _ _ _ saved h

pub no_records : (saved : Part SavedParts) → saved_of [] ≡ Ok saved → ⊥
unfolding saved_of
no_records saved h = cc

-- ---- its records, one by one

none_more : (live : LiveMachine) (answers : List ServiceAnswer) (new : ServiceState)
    → HearsAll service_rules (Has live) [] answers new → new ≡ Has live
none_more live [] new h = h
none_more live (one ∷ answers) new h = absurd h

goes_on : (place : SavedPlace) (number : ℕ) (records : List Record) (saved : Part SavedParts)
    (answers : List ServiceAnswer) (new : ServiceState) (outcome : Outcome) → is_whole place ≡ false
    → saved_left place number records ≡ Ok saved → saved.left ≡ []
    → HearsAll service_rules (Reads place number) (heard_records records) answers new
    → worst service_rules outcome answers ≢ outcomes.Faulted
    → new ≡ Has (opened saved.value)
goes_on place number [] saved answers new outcome open' spelt none heard good =
    let missing : saved_left place number []
    ≡ Err (fault_of_record number faults.BadRecord) = part_missing place.stage
    (length place.parts.history) place.tapes place.parts number open' in
    absurd (never_both saved (fault_of_record number faults.BadRecord) (sym spelt ∙ missing))
goes_on place number (r ∷ records) saved [] new outcome open' spelt none heard good = absurd heard
goes_on place number (r ∷ records) saved
    (Faulted error ∷ answers) new outcome open' spelt none heard good =
    absurd (good (faulted_first outcome error answers))
goes_on place number (r ∷ records) saved
    (Dropped error ∷ answers) new outcome open' spelt none heard good =
    absurd (good (dropped_first outcome error answers))
goes_on place number (r ∷ records) saved
    (Replied told ∷ answers) new outcome open' spelt none heard good =
    absurd heard.1
goes_on place number (r ∷ records) saved (Began ∷ answers) new outcome open' spelt none
    (Empty, (own, is, on), heard) good =
    absurd on
goes_on place number (r ∷ records) saved (Began ∷ answers) new outcome open' spelt none
    (Reads next later, (own, is, on), heard) good =
    let same : r ≡ own = cc in
    let there : saved_left next later records ≡ Ok saved = sym (on.2 records) ∙ subst
    (λ (x : Record). saved_left place number (x ∷ records) ≡ Ok saved) same spelt in
    goes_on next later records saved answers new
    (worse outcome (outcome_of Began)) on.1 there none heard good
goes_on place number (r ∷ records) saved (Began ∷ answers) new outcome open' spelt none
    (Has live, (own, is, on), heard) good =
    let same : r ≡ own = cc in
    let there = same_part _ saved (sym (on.1 records) ∙ subst
    (λ (x : Record). saved_left place number (x ∷ records) ≡ Ok saved) same spelt) in
    let ended : records ≡ [] = ap (λ (part : Part SavedParts). part.left) there ∙ none in
    none_more live answers new (subst (λ (rs : List Record). HearsAll service_rules (Has live)
    (heard_records rs) answers new) ended heard)
    ∙ ap Has on.2
    ∙ ap (λ (part : Part SavedParts). Has (opened part.value)) there

pub saved_served : (records : List Record) (saved : Part SavedParts) (answers : List ServiceAnswer)
    (new : ServiceState) → saved_of records ≡ Ok saved → saved.left ≡ []
    → HearsAll service_rules Empty (heard_records records) answers new → worst service_rules
    outcomes.Done answers ≢ outcomes.Faulted → new ≡ Has (opened saved.value)
saved_served [] saved answers new spelt none heard good = absurd (no_records saved spelt)
saved_served (first ∷ rest) saved [] new spelt none heard good = absurd heard
saved_served (first ∷ rest) saved (Faulted error ∷ answers) new spelt none heard good =
    absurd (good (faulted_first outcomes.Done error answers))
saved_served (first ∷ rest) saved (Dropped error ∷ answers) new spelt none heard good =
    absurd (good (dropped_first outcomes.Done error answers))
saved_served (first ∷ rest) saved (Replied told ∷ answers) new spelt none heard good =
    absurd heard.1
saved_served (first ∷ rest) saved (Began ∷ answers) new spelt none
    (mid, (Some world, read, by), heard) good =
    let there = start_text first (head_named first rest saved spelt) in absurd cc
saved_served (first ∷ rest) saved (Began ∷ answers) new spelt none
    (mid, (None, read, by), heard) good =
    let same : first ≡ by.first = let is = by.is in cc in
    let there : saved_left by.place 2 rest ≡ Ok saved = sym (by.begun rest) ∙ subst
    (λ (x : Record). saved_of (x ∷ rest) ≡ Ok saved) same spelt in
    goes_on by.place 2 rest saved answers new
    (worse outcomes.Done (outcome_of Began)) by.unended there none
    (subst (λ (m : ServiceState). HearsAll service_rules m (heard_records rest) answers new)
    by.new_is heard) good
