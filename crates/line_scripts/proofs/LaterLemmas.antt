-- What version 1 reads, version 2 reads the same.
use Rattle.std.proofs.Common.{◌≡◌, ◌≢◌, ◌≤◌, ℕ, Bool, true, false, List, ◌∷◌, ◌++◌, Result, Ok, Err}
use Rattle.std.proofs.Common.{refl, sym, ap, ◌∙◌, arith, length, le-leb}
use Rattle.std.specs.Prelude.{◌==◌, ◌&&◌, codes, if◌then◌else◌, nat_le}
use Rattle.std.proofs.lemmas.Bool.{leb-true}
use Rattle.line_fields.specs.declared.faults.Fault.{Fault}
use Rattle.line_fields.specs.declared.faults.Fault.TheVariants as faults
use Rattle.line_fields.specs.Bytes.{is_input_text}
use Rattle.line_fields.specs.Fields.{◌>>=◌, num, want}
use Rattle.line_fields.specs.Records.{Record, cut, field, parts, records_of_lines, without}
use Rattle.line_tape.specs.declared.modes.Mode.{Mode}
use Rattle.line_claims.specs.declared.faults.TextFault.{TextFault}
use Rattle.line_claims.specs.declared.versions.TheConstants.{LAST_VERSION, MOST_IN_FIRST_VERSION}
use Rattle.line_claims.specs.Numbers.{plain}
use Rattle.line_claims.specs.Parts.{is_named}
use Rattle.line_claims.specs.Reads.{fault_of_record}
use Rattle.line_claims.specs.Texts.{records_in}
use Rattle.line_claims.specs.Versions.{most_in}
use Rattle.line_claims.proofs.SpellLemmas.{plain_again}
use Rattle.line_claims.proofs.VersionLemmas.{most_in_later}
use Rattle.line_scripts.specs.Records.{DifferInVersion, with_version, world_record}
use Rattle.line_scripts.specs.RunScripts.{read_as_run, run_script_of, run_script_of_text}
use Rattle.line_scripts.specs.Scripts.{Script, mode_named, script_of, script_of_text, world_of}
use Rattle.line_scripts.proofs.RunScriptLemmas.{run_as_read}

-- the number of processes and the mode, as many processes as there is room for
abbrev counted_if : Bool → ℕ → Result Mode Fault → Result (ℕ × Mode) Fault
counted_if within n named = want within faults.BadCount >>= λ there. named >>= λ mode. Ok (n, mode)

abbrev counted : ℕ → Result ℕ Fault → Result Mode Fault → Result (ℕ × Mode) Fault
counted most read named = read >>= λ n. counted_if (nat_le 1 n && nat_le n most) n named

-- and that after a record of so many fields
abbrev world_in : ℕ → Bool → Result ℕ Fault → Result Mode Fault → Result (ℕ × Mode) Fault
world_in most long read named = want long faults.BadRecord >>= λ four. counted most read named

-- a number of processes that there is room for, or that there is no room for
within_more : (n least most : ℕ) (named : Result Mode Fault) (some room : Bool)
    → nat_le n least ≡ room → least ≤ most
    → counted_if (some && room) n named ≢ Err faults.BadCount
    → counted_if (some && nat_le n most) n named ≡ counted_if (some && room) n named
within_more n least most named false room is more good = refl
within_more n least most named true false is more good = absurd (good refl)
within_more n least most named true true is more good =
    let few : n ≤ least = leb-true n least is in
    rw (le-leb n most (omega (arith, few, more))) refl

counted_more : (least most : ℕ) (read : Result ℕ Fault) (named : Result Mode Fault) → least ≤ most
    → counted least read named ≢ Err faults.BadCount
    → counted most read named ≡ counted least read named
counted_more least most (Ok n) named more good =
    within_more n least most named (nat_le 1 n) (nat_le n least) refl more good
counted_more least most (Err fault) named more good = refl

world_more : (least most : ℕ) (long : Bool) (read : Result ℕ Fault) (named : Result Mode Fault)
    → least ≤ most → world_in least long read named ≢ Err faults.BadCount
    → world_in most long read named ≡ world_in least long read named
world_more least most true read named more good = counted_more least most read named more good
world_more least most false read named more good = refl

-- a record that begins so, and has these further fields
abbrev begun : List ℕ → Record → Record
begun version others = codes "world" ∷ version ∷ others

one_is_read : plain (codes "1") ≡ Ok 1
unfolding num
one_is_read = refl

two_is_read : plain (codes "2") ≡ Ok 2
unfolding num
two_is_read = refl

-- what a record of that version says
spelled_world : (spelled : List ℕ) (version : ℕ) (others : Record) → plain spelled ≡ Ok version
    → (nat_le 1 version && nat_le version LAST_VERSION) ≡ true → world_of (begun spelled others)
    ≡ world_in (most_in version) (length (begun spelled others) == 4)
    (plain (field (begun spelled others) 2)) (mode_named (field (begun spelled others) 3))
unfolding world_of
spelled_world spelled version others read known = rw (read, known) refl

same_world : (one two : List ℕ) (others : Record) → plain one ≡ Ok 1 → plain two ≡ Ok 2
    → world_of (begun one others) ≢ Err faults.BadCount
    → world_of (begun two others) ≡ world_of (begun one others)
same_world one two others is_one is_two good =
    let r : Record = begun one others in
    spelled_world two 2 others is_two refl
    ∙ world_more (most_in 1) (most_in 2) (length r == 4) (plain (field r 2))
    (mode_named (field r 3)) (most_in_later (most_in 1) (omega arith))
    (λ bad. good (spelled_world one 1 others is_one refl ∙ bad))
    ∙ sym (spelled_world one 1 others is_one refl)

-- the fault of the number of processes
abbrev bad_count : TextFault
bad_count = fault_of_record 1 faults.BadCount

refused_world : (r : Record) (rest : List Record) → world_of r ≡ Err faults.BadCount
    → script_of (r ∷ rest) ≡ Err bad_count
unfolding script_of
refused_world r rest h = rw h refl

same_script : (r other : Record) (rest : List Record) → world_of r ≡ world_of other
    → script_of (r ∷ rest) ≡ script_of (other ∷ rest)
unfolding script_of
same_script r other rest same = rw same refl

spelled_records : (one two : List ℕ) (others : Record) (rest : List Record) → plain one ≡ Ok 1
    → plain two ≡ Ok 2 → script_of (begun one others ∷ rest) ≢ Err bad_count
    → script_of (begun two others ∷ rest) ≡ script_of (begun one others ∷ rest)
spelled_records one two others rest is_one is_two good =
    same_script (begun two others) (begun one others) rest (same_world one two others is_one is_two
    (λ bad. good (refused_world (begun one others) rest bad)))

pub same_records : (others : Record) (rest : List Record)
    → script_of (begun (codes "1") others ∷ rest) ≢ Err bad_count
    → script_of (begun (codes "2") others ∷ rest) ≡ script_of (begun (codes "1") others ∷ rest)
same_records others rest good =
    spelled_records (codes "1") (codes "2") others rest one_is_read two_is_read good

-- the script of a text whose records are known
script_of_records : (text : List ℕ) (records : List Record) → records_in text ≡ Ok records
    → script_of_text text ≡ script_of records
unfolding script_of_text
script_of_records text records is = rw is refl

pub same_as_spelled : (text later : List ℕ) → DifferInVersion text later
    → script_of_text text ≢ Err bad_count → script_of_text later ≡ script_of_text text
same_as_spelled text later h good =
    let of_text : script_of_text text ≡ script_of (with_version h.one h.others h.rest) =
    script_of_records text (with_version h.one h.others h.rest) h.text_is in
    script_of_records later (with_version h.two h.others h.rest) h.later_is
    ∙ spelled_records h.one h.two h.others h.rest h.is_one h.is_two (λ bad. good (of_text ∙ bad))
    ∙ sym of_text

first_has_room : (n : ℕ) → n ≤ MOST_IN_FIRST_VERSION → n ≤ most_in 1
unfolding most_in
first_has_room n few = few

numbered_world : (n : ℕ) (mode : List ℕ) → n ≤ MOST_IN_FIRST_VERSION
    → world_of (world_record 1 n mode) ≡ world_of (world_record 2 n mode)
unfolding world_of
numbered_world n mode few =
    let room : n ≤ most_in 1 = first_has_room n few in
    rw (
      plain_again 1 (omega arith),
      plain_again 2 (omega arith),
      plain_again n (omega
          (arith, few)),
      le-leb n (most_in 1) room,
      le-leb n (most_in 2) (most_in_later n room),
    ) refl

pub same_numbered : (n : ℕ) (mode : List ℕ) (rest : List Record) → n ≤ MOST_IN_FIRST_VERSION
    → script_of (world_record 1 n mode ∷ rest) ≡ script_of (world_record 2 n mode ∷ rest)
same_numbered n mode rest few =
    same_script (world_record 1 n mode) (world_record 2 n mode) rest (numbered_world n mode few)

-- the first line of a text, and the lines behind it
abbrev lines_of : List ℕ → List ℕ × List (List ℕ)
lines_of text = cut 10 (without 13 text)

-- a script of records that are read, or of none
abbrev script_if : Bool → List Record → Result Script TextFault
script_if plain records =
    (if plain then Ok records else Err (fault_of_record 0 faults.BadRecord)) >>= script_of

same_if : (plain : Bool) (others : Record) (rest : List Record)
    → script_if plain (begun (codes "1") others ∷ rest) ≢ Err bad_count
    → script_if plain (begun (codes "2") others ∷ rest)
    ≡ script_if plain (begun (codes "1") others ∷ rest)
same_if true others rest good = same_records others rest good
same_if false others rest good = refl

first_text : (text : List ℕ) → script_of_text (codes "world,1," ++ text) ≡ script_if (is_input_text
    text) (begun (codes "1") (parts 44 (lines_of text).0) ∷ records_of_lines (lines_of text).1)
unfolding script_of_text is_input_text cut without
first_text text = refl

second_text : (text : List ℕ) → script_of_text (codes "world,2," ++ text) ≡ script_if (is_input_text
    text) (begun (codes "2") (parts 44 (lines_of text).0) ∷ records_of_lines (lines_of text).1)
unfolding script_of_text is_input_text cut without
second_text text = refl

pub same_text : (text : List ℕ) → script_of_text (codes "world,1," ++ text) ≢ Err bad_count
    → script_of_text (codes "world,2," ++ text) ≡ script_of_text (codes "world,1," ++ text)
same_text text good =
    second_text text
    ∙ same_if (is_input_text text) (parts 44 (lines_of text).0) (records_of_lines (lines_of text).1)
    (λ bad. good (first_text text ∙ bad))
    ∙ sym (first_text text)

-- ---- as they are run

-- a script that begins with `world` is run as it is read
world_is_run : (text : List ℕ) (spelled : List ℕ) (others : Record) (rest : List Record)
    → records_in text ≡ Ok (with_version spelled others rest)
    → run_script_of_text text ≡ read_as_run (script_of_text text)
unfolding run_script_of_text script_of_text
world_is_run text spelled others rest is = rw is (run_as_read (begun spelled others) rest refl)

pub run_same_as_spelled : (text later : List ℕ) → DifferInVersion text later
    → script_of_text text ≢ Err bad_count → run_script_of_text later ≡ run_script_of_text text
run_same_as_spelled text later h good =
    world_is_run later h.two h.others h.rest h.later_is ∙ ap read_as_run (same_as_spelled text later
    h good) ∙ sym (world_is_run text h.one h.others h.rest h.text_is)

run_if : (plain : Bool) (r : Record) (rest : List Record) → is_named (codes "history") r ≡ false
    → ((if plain then Ok (r ∷ rest) else Err (fault_of_record 0 faults.BadRecord)) >>=
    run_script_of) ≡ read_as_run (script_if plain (r ∷ rest))
run_if true r rest other = run_as_read r rest other
run_if false r rest other = refl

first_run : (text : List ℕ) → run_script_of_text (codes "world,1," ++ text)
    ≡ read_as_run (script_of_text (codes "world,1," ++ text))
unfolding run_script_of_text script_of_text is_input_text cut without
first_run text = run_if (is_input_text text) (begun (codes "1") (parts 44 (lines_of text).0))
    (records_of_lines (lines_of text).1) refl

second_run : (text : List ℕ) → run_script_of_text (codes "world,2," ++ text)
    ≡ read_as_run (script_of_text (codes "world,2," ++ text))
unfolding run_script_of_text script_of_text is_input_text cut without
second_run text = run_if (is_input_text text) (begun (codes "2") (parts 44 (lines_of text).0))
    (records_of_lines (lines_of text).1) refl

pub run_same_text : (text : List ℕ) → script_of_text (codes "world,1," ++ text) ≢ Err bad_count
    → run_script_of_text (codes "world,2," ++ text) ≡ run_script_of_text (codes "world,1," ++ text)
run_same_text text good =
    second_run text ∙ ap read_as_run (same_text text good) ∙ sym (first_run text)
