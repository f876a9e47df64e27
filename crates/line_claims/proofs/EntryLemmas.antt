-- Reading the processes or the choices of a record, field by field.
use Rattle.std.proofs.Common.{◌≡◌, ◌≤◌, ◌<◌, ℕ, ◌+◌, ◌&&◌, Bool, true, false, List, [], ◌∷◌, ◌++◌}
use Rattle.std.proofs.Common.{length, drop, Result, Ok, Err, refl, sym, ap, ◌∙◌, append_assoc}
use Rattle.std.specs.Prelude.{nat_lt, fold}
use Rattle.std.specs.List.{list_all}
use Rattle.std.proofs.lemmas.List.{append-nil, drop_more, drop_all}
use Rattle.line_names.specs.declared.choices.Choice.{Choice}
use Rattle.line_names.specs.Sets.{nobody, with_member}
use Rattle.line_fields.specs.declared.faults.Fault.{Fault}
use Rattle.line_fields.specs.declared.faults.Fault.TheVariants as faults
use Rattle.line_fields.specs.Fields.{◌>>=◌, want}
use Rattle.line_fields.specs.Records.{Record, field}
use Rattle.line_claims.specs.Entries.{failed_of}
use Rattle.line_claims.specs.Numbers.{plain, choice, choices, numbers}

-- the set of a record whose fields so far were all below n, or were not, and made this set
abbrev pub failed_with : ℕ → Bool → List Bool → List ℕ → Result (List Bool) Fault
failed_with n below set ns = want (below && list_all (λ p. nat_lt p n) ns) faults.NoSuchProcess >>=
    λ there. Ok (fold with_member set ns)

-- the same, with the fields that are left
abbrev pub failed_from : ℕ → Bool → List Bool → Record → Result (List Bool) Fault
failed_from n below set rest = numbers rest >>= failed_with n below set

pub failed_start : (n : ℕ) (r : Record) → failed_from n true nobody (drop 1 r) ≡ failed_of n r
unfolding failed_of
failed_start n r = refl

go_on : (n : ℕ) (below : Bool) (set : List Bool) (p : ℕ) (read : Result (List ℕ) Fault)
    → nat_lt p n ≡ true
    → ((read >>= λ ns. Ok (p ∷ ns)) >>= failed_with n below set)
    ≡ (read >>= failed_with n below (with_member set p))
go_on n true set p (Ok ns) h = rw h refl
go_on n false set p (Ok ns) h = refl
go_on n below set p (Err f) h = refl

go_on_refused : (n : ℕ) (below : Bool) (set : List Bool) (p : ℕ) (read : Result (List ℕ) Fault)
    → nat_lt p n ≡ false
    → ((read >>= λ ns. Ok (p ∷ ns)) >>= failed_with n below set)
    ≡ (read >>= failed_with n false set)
go_on_refused n true set p (Ok ns) h = rw h refl
go_on_refused n false set p (Ok ns) h = refl
go_on_refused n below set p (Err f) h = refl

one_more : (n p : ℕ) (below : Bool) (set : List Bool) (first : List ℕ) (rest : Record)
    → plain first ≡ Ok p
    → failed_from n below set (first ∷ rest)
    ≡ ((numbers rest >>= λ ns. Ok (p ∷ ns)) >>= failed_with n below set)
unfolding numbers
one_more n p below set first rest h = rw h refl

pub failed_more : (n i p : ℕ) (below : Bool) (set : List Bool) (r : Record) → i < length r
    → plain (field r i) ≡ Ok p → nat_lt p n ≡ true
    → failed_from n below set (drop i r) ≡ failed_from n below (with_member set p) (drop (i + 1) r)
failed_more n i p below set r lt h k =
    ap (failed_from n below set) (drop_more r i [] lt) ∙ one_more n p below set (field r i)
    (drop (i + 1) r) h ∙ go_on n below set p (numbers (drop (i + 1) r)) k

pub failed_refused : (n i p : ℕ) (below : Bool) (set : List Bool) (r : Record) → i < length r
    → plain (field r i) ≡ Ok p → nat_lt p n ≡ false
    → failed_from n below set (drop i r) ≡ failed_from n false set (drop (i + 1) r)
failed_refused n i p below set r lt h k =
    ap (failed_from n below set) (drop_more r i [] lt) ∙ one_more n p below set (field r i)
    (drop (i + 1) r) h ∙ go_on_refused n below set p (numbers (drop (i + 1) r)) k

pub failed_fault : (n i : ℕ) (below : Bool) (set : List Bool) (r : Record) (f : Fault)
    → i < length r → plain (field r i) ≡ Err f
    → failed_from n below set (drop i r) ≡ Err f
unfolding numbers
failed_fault n i below set r f lt h = ap (failed_from n below set) (drop_more r i [] lt) ∙ rw h refl

pub failed_end : (n i : ℕ) (set : List Bool) (r : Record) → length r ≤ i
    → failed_from n true set (drop i r) ≡ Ok set
unfolding numbers
failed_end n i set r le = ap (failed_from n true set) (drop_all i r le)

pub failed_end_refused : (n i : ℕ) (set : List Bool) (r : Record) → length r ≤ i
    → failed_from n false set (drop i r) ≡ Err faults.NoSuchProcess
unfolding numbers
failed_end_refused n i set r le = ap (failed_from n false set) (drop_all i r le)

-- the choices of a line so far, and those of the fields that are left
abbrev pub line_from : List Choice → Record → Result (List Choice) Fault
line_from front rest = choices rest >>= λ others. Ok (front ++ others)

same_choices : (read : Result (List Choice) Fault) → (read >>= λ others. Ok ([] ++ others)) ≡ read
same_choices (Ok others) = refl
same_choices (Err f) = refl

pub line_start : (r : Record) → line_from [] (drop 1 r) ≡ choices (drop 1 r)
line_start r = same_choices (choices (drop 1 r))

one_choice : (front : List Choice) (c : Choice) (read : Result (List Choice) Fault)
    → ((read >>= λ more. Ok (c ∷ more)) >>= λ others. Ok (front ++ others))
    ≡ (read >>= λ others. Ok ((front ++ c ∷ []) ++ others))
one_choice front c (Ok more) =
    let P : List Choice → Result (List Choice) Fault = λ cs. Ok cs in
    ap P (sym (append_assoc front (c ∷ []) more))
one_choice front c (Err f) = refl

first_choice : (front : List Choice) (c : Choice) (first : List ℕ) (rest : Record)
    → choice first ≡ Ok c
    → line_from front (first ∷ rest)
    ≡ ((choices rest >>= λ more. Ok (c ∷ more)) >>= λ others. Ok (front ++ others))
unfolding choices
first_choice front c first rest h = rw h refl

pub line_more : (i : ℕ) (front : List Choice) (c : Choice) (r : Record) → i < length r
    → choice (field r i) ≡ Ok c
    → line_from front (drop i r) ≡ line_from (front ++ c ∷ []) (drop (i + 1) r)
line_more i front c r lt h =
    ap (line_from front) (drop_more r i [] lt) ∙ first_choice front c (field r i)
    (drop (i + 1) r) h ∙ one_choice front c (choices (drop (i + 1) r))

pub line_fault : (i : ℕ) (front : List Choice) (r : Record) (f : Fault) → i < length r
    → choice (field r i) ≡ Err f → line_from front (drop i r) ≡ Err f
unfolding choices
line_fault i front r f lt h = ap (line_from front) (drop_more r i [] lt) ∙ rw h refl

pub line_end : (i : ℕ) (front : List Choice) (r : Record) → length r ≤ i
    → line_from front (drop i r) ≡ Ok front
unfolding choices
line_end i front r le =
    let P : List Choice → Result (List Choice) Fault = λ cs. Ok cs in
    ap (line_from front) (drop_all i r le) ∙ ap P (append-nil front)
