-- What version 1 reads, version 2 reads the same.
use Rattle.std.proofs.Common.{cond, ◌≡◌, ◌≤◌, ℕ, ◌+◌, ◌&&◌, Bool, true, false, List, [], ◌∷◌}
use Rattle.std.proofs.Common.{length, Result, Ok, Err, refl, sym, ap, ◌∙◌, arith, le-leb}
use Rattle.std.specs.Prelude.{codes, decimal, drop, nat_le}
use Rattle.std.specs.Str.{bytes_eq}
use Rattle.std.proofs.lemmas.Bool.{leb-true}
use Rattle.std.proofs.lemmas.Slice.Eq.{bytes_eq-Decides}
use Rattle.line_names.specs.declared.choices.Choice.{Choice}
use Rattle.line_fields.specs.Fields.{◌>>=◌, want}
use Rattle.line_fields.specs.declared.faults.Fault.{Fault}
use Rattle.line_fields.specs.declared.faults.Fault.TheVariants as faults
use Rattle.line_fields.specs.Records.{Record, field}
use Rattle.line_fields.specs.Shapes.{two}
use Rattle.line_tape.specs.History.{Process}
use Rattle.line_tape.specs.Views.{MarksView, no_marks}
use Rattle.line_claims.specs.declared.faults.TextFault.{TextFault}
use Rattle.line_claims.specs.declared.numbers.TheConstants.{MOST_NUMBER}
use Rattle.line_claims.specs.declared.versions.TheConstants.{LAST_CHECK_VERSION}
use Rattle.line_claims.specs.Claims.{Claim, answer_version, claim_from, is_bar, is_none, is_replay}
use Rattle.line_claims.specs.Entries.{bar_of, damage_of, end_of, entry_of, failed_of, line_of}
use Rattle.line_claims.specs.Entries.{replay_of, start_of}
use Rattle.line_claims.specs.Histories.{floors_of, front_of, head_in, head_of}
use Rattle.line_claims.specs.Numbers.{choices, plain}
use Rattle.line_claims.specs.Parts.{Part, begins, first, many, is_named, one, several}
use Rattle.line_claims.specs.Reads.{at_record}
use Rattle.line_claims.specs.Records.{in_version}
use Rattle.line_claims.specs.Texts.{Check, certificate_of, certificate_of_text, check_text_of}
use Rattle.line_claims.specs.Texts.{check_of_text, history_of, history_of_text, records_in}
use Rattle.line_claims.specs.Versions.{IsCheckVersion, most_in, starts_in}
use Rattle.line_claims.proofs.AgainLemmas.{part_to}
use Rattle.line_claims.proofs.SpellLemmas.{plain_again}
use Rattle.line_claims.proofs.VersionLemmas.{more_room}

-- ---- reads of which each part reads the same

then_later : {A B F : Type 0} (read later : Result A F) (next after : A → Result B F) (y : B)
    → ((x : A) → read ≡ Ok x → later ≡ Ok x) → ((x : A) → next x ≡ Ok y → after x ≡ Ok y)
    → (read >>= next) ≡ Ok y → (later >>= after) ≡ Ok y
then_later (Ok x) later next after y same more h = rw (same x refl) (more x h)
then_later (Err fault) later next after y same more h = cc

numbered_later : {A : Type 0} (i : ℕ) (read later : Result A Fault) → ((x : A) → read ≡ Ok x
    → later ≡ Ok x) → (x : A) → at_record i read ≡ Ok x → at_record i later ≡ Ok x
numbered_later i (Ok y) later same x h = rw (same y refl) h
numbered_later i (Err fault) later same x h = cc

want_later : (b c : Bool) (fault : Fault) → (b ≡ true → c ≡ true) → (x : Unit {0})
    → want b fault ≡ Ok x → want c fault ≡ Ok x
want_later true c fault same x h = rw (same refl) h
want_later false c fault same x h = cc

and_later : (a b c : Bool) → (b ≡ true → c ≡ true) → (a && b) ≡ true → (a && c) ≡ true
and_later true b c same h = same h
and_later false b c same h = h

one_later : {A : Type 0} (name : List ℕ) (read later : Record → Result A Fault) (i : ℕ)
    (records : List Record)
    → ((r : Record) (x : A) → read r ≡ Ok x → later r ≡ Ok x) → (part : Part A)
    → one name read i records ≡ Ok part → one name later i records ≡ Ok part
unfolding one
one_later {A} name read later i records same part h =
    let asked : Result Unit Fault = want (begins (is_named name) records) faults.BadRecord in
    let before : Result A Fault = asked >>= λ it. read (first records) in
    let now : Result A Fault = asked >>= λ it. later (first records) in
    let alike : (x : A) → before ≡ Ok x
    → now ≡ Ok x = λ x k. then_later asked asked (λ it. read (first records))
    (λ it. later (first records)) x (λ it l. l) (λ it l. same (first records) x l) k in
    let made : A → Result (Part A) TextFault = λ x. Ok (part_to x (i + 1) (drop 1 records)) in
    then_later (at_record i before) (at_record i now) made made part
    (numbered_later i before now alike) (λ x k. k) h

-- ---- a claim

-- version 2 has room for what version 1 has room for
room_later : (n more : ℕ) → nat_le n (most_in 1 + more) ≡ true → nat_le n (most_in 2 + more) ≡ true
room_later n more h =
    let few = leb-true n (most_in 1 + more) h in
    le-leb n (most_in 2 + more) (omega (arith, few, more_room))

line_later : (r : Record) (line : List Choice) → line_of 1 r ≡ Ok line → line_of 2 r ≡ Ok line
unfolding line_of
line_later r line h =
    let before : Bool = nat_le 2 (length r) && nat_le (length r) (most_in 1 + 1) in
    let now : Bool = nat_le 2 (length r) && nat_le (length r) (most_in 2 + 1) in
    let long : before ≡ true
    → now ≡ true = and_later (nat_le 2 (length r)) _ _ (room_later (length r) 1) in
    then_later (want before faults.BadRecord) (want now faults.BadRecord) (λ it. choices (drop 1 r))
    (λ it. choices (drop 1 r)) line (want_later before now faults.BadRecord long) (λ it k. k) h

-- the claim with these marks, failed processes and line, by what stands behind them
abbrev behind_line : ℕ → ℕ → MarksView → List Bool → Part (List Choice) → Result Claim TextFault
behind_line version n marks failed line = do
  entries ← many (is_named (codes "pass")) (entry_of n) [] line.number line.left
  starts ← several (codes "start") (start_of n)
      (starts_in (answer_version version entries.left) n) [] entries.number entries.left
  replays ← many (is_replay (answer_version version entries.left))
      (replay_of n) [] starts.number starts.left
  end ← one (codes "end") end_of replays.number replays.left
  last ← at_record end.number (want (is_none end.left) faults.BadRecord)
  Ok
      (record {
        marks = marks;
        failed = failed;
        line = line.value;
        certificate = entries.value;
        starts = starts.value;
        replays = replays.value;
      })

-- with these marks and failed processes
abbrev behind_failed : ℕ → ℕ → MarksView → Part (List Bool) → Result Claim TextFault
behind_failed version n marks failed = one (codes "line")
    (line_of version) failed.number failed.left >>= behind_line version n marks failed.value

-- with these marks
abbrev behind : ℕ → ℕ → Part MarksView → Result Claim TextFault
behind version n marks = one (codes "failed")
    (failed_of n) marks.number marks.left >>= behind_failed version n marks.value

same_failed : (n : ℕ) (marks : MarksView) (claim : Claim) (failed : Part (List Bool))
    → behind_failed 1 n marks failed ≡ Ok claim → behind_failed 2 n marks failed ≡ Ok claim
same_failed n marks claim failed h =
    let line : ℕ → Result (Part (List Choice)) TextFault = λ version. one (codes "line")
    (line_of version) failed.number failed.left in
    then_later (line 1) (line 2) (behind_line 1 n marks failed.value)
    (behind_line 2 n marks failed.value) claim (one_later (codes "line") (line_of 1)
    (line_of 2) failed.number failed.left line_later) (λ x k. k) h

same_rest : (n : ℕ) (marks : Part MarksView) (claim : Claim) → behind 1 n marks ≡ Ok claim
    → behind 2 n marks ≡ Ok claim
same_rest n marks claim h =
    let failed : Result (Part (List Bool)) TextFault = one (codes "failed")
    (failed_of n) marks.number marks.left in
    then_later failed failed (behind_failed 1 n marks.value) (behind_failed 2 n marks.value) claim
    (λ x k. k) (same_failed n marks.value claim) h

-- a bar is no list of failed processes
bar_is_not_failed : (r : Record) → is_named (codes "bar") r ≡ true
    → is_named (codes "failed") r ≡ false
bar_is_not_failed r is = ap (λ (name : List ℕ). bytes_eq name (codes "failed"))
    ((bytes_eq-Decides (field r 0) (codes "bar")).0 is)

not_failed : (n i : ℕ) (m : MarksView) (r : Record) (rest : List Record) (claim : Claim)
    → is_named (codes "failed") r ≡ false → behind 1 n (part_to m i (r ∷ rest)) ≡ Ok claim → ⊥
unfolding one
not_failed n i m r rest claim is h = cc (rw is at h)

same_behind : (n i : ℕ) (m : MarksView) (left : List Record) (claim : Claim)
    → (many (is_bar 1) (bar_of n) m i left >>= behind 1 n) ≡ Ok claim
    → (many (is_bar 2) (bar_of n) m i left >>= behind 2 n) ≡ Ok claim
unfolding many
same_behind n i m [] claim h = same_rest n (part_to m i []) claim h
same_behind n i m (r ∷ rest) claim h =
    let one_more : Result (Part MarksView) TextFault = at_record i (bar_of n m r) >>= λ more. many
    (is_bar 2) (bar_of n) more (i + 1) rest in
    elim (is_named (codes "bar") r) as (λ (b : Bool). is_named (codes "bar") r ≡ b
    → (cond b one_more (Ok (part_to m i (r ∷ rest))) >>= behind 2 n) ≡ Ok claim) [
      | true ↦ λ is. absurd (not_failed n i m r rest claim (bar_is_not_failed r is) h)
      | false ↦ λ is. same_rest n (part_to m i (r ∷ rest)) claim h
    ] refl

same_marks : (n : ℕ) (damage : Result (Part MarksView) TextFault) (claim : Claim)
    → (damage >>= λ d. many (is_bar 1) (bar_of n) d.value d.number d.left >>= behind 1 n) ≡ Ok claim
    → (damage >>= λ d. many (is_bar 2) (bar_of n) d.value d.number d.left >>= behind 2 n)
    ≡ Ok claim
same_marks n (Ok d) claim h = same_behind n d.number d.value d.left claim h
same_marks n (Err fault) claim h = h

same_claim : (version n i : ℕ) (records : List Record) (claim : Claim) → version ≡ 1
    → claim_from version n i records ≡ Ok claim → claim_from 2 n i records ≡ Ok claim
unfolding claim_from
same_claim version n i records claim is h =
    let before : claim_from 1 n i records
    ≡ Ok claim = sym (ap (λ (v : ℕ). claim_from v n i records) is) ∙ h in
    same_marks n
    (many (is_named (codes "damage")) (damage_of n) (no_marks n) i records) claim before

same_certificate : (n : ℕ) (records : List Record) (claim : Claim)
    → certificate_of 1 n records ≡ Ok claim → certificate_of 2 n records ≡ Ok claim
unfolding certificate_of
same_certificate n records claim h = same_claim 1 n 1 records claim refl h

pub later_reads_the_same : (n : ℕ) (text : List ℕ) (claim : Claim)
    → certificate_of_text 1 n text ≡ Ok claim → certificate_of_text 2 n text ≡ Ok claim
later_reads_the_same n text claim h =
    then_later (records_in text) (records_in text) (certificate_of 1 n) (certificate_of 2 n) claim
    (λ records k. k) (λ records k. same_certificate n records claim k) h

-- ---- a history, alone and with a claim

-- a number of processes in a text of that version
abbrev counted : ℕ → ℕ → Result (ℕ × ℕ) Fault
counted version n =
    want (nat_le 1 n && nat_le n (most_in version)) faults.BadCount >>= λ within. Ok (version, n)

head_is : (version : ℕ) (number : List ℕ) → IsCheckVersion version
    → head_of (codes "history" ∷ decimal version ∷ number ∷ []) ≡ (plain number >>= counted version)
unfolding head_of two
head_is version number known =
    let low : 1 ≤ version = known.0 in
    let high : version ≤ LAST_CHECK_VERSION = known.1 in
    let wide : version ≤ MOST_NUMBER = omega arith in
    rw (plain_again version wide, le-leb 1 version low, le-leb version LAST_CHECK_VERSION high) refl

-- what it is in version 1 it is in version 2
count_later : (n : ℕ) (b : Bool) (x : ℕ × ℕ) → (nat_le 1 n && nat_le n (most_in 1)) ≡ b → (want b
    faults.BadCount >>= λ within. Ok (1, n)) ≡ Ok x → (x.0 ≡ 1) × (counted 2 n ≡ Ok (2, x.1))
count_later n true x is h =
    let same : x ≡ (1, n) = cc in
    let room : nat_le n (most_in 1) ≡ true → nat_le n (most_in 2) ≡ true = λ few. le-leb n
    (most_in 2) (omega (arith, leb-true n (most_in 1) few, more_room)) in
    let within : (nat_le 1 n && nat_le n (most_in 2)) ≡ true = and_later (nat_le 1 n) _ _ room is in
    let P : ℕ × ℕ → Result (ℕ × ℕ) Fault = λ y. Ok (2, y.1) in
    (ap (λ (y : ℕ × ℕ). y.0) same, rw within (ap P (sym same)))
count_later n false x is h = cc

plain_later : (read : Result ℕ Fault) (x : ℕ × ℕ) → (read >>= counted 1) ≡ Ok x
    → (x.0 ≡ 1) × ((read >>= counted 2) ≡ Ok (2, x.1))
plain_later (Ok n) x h = count_later n (nat_le 1 n && nat_le n (most_in 1)) x refl h
plain_later (Err fault) x h = cc

numbered_ok : {A : Type 0} (i : ℕ) (read : Result A Fault) (x : A) → at_record i read ≡ Ok x
    → read ≡ Ok x
numbered_ok i (Ok y) x h = cc
numbered_ok i (Err fault) x h = cc

-- the first record of version 1, with another version
head_later : (number : List ℕ) (rest : List Record) (x : ℕ × ℕ) → head_in (in_version 1 number rest)
    ≡ Ok x → (x.0 ≡ 1) × (head_in (in_version 2 number rest) ≡ Ok (2, x.1))
head_later number rest x h =
    let read : (plain number >>= counted 1) ≡ Ok x = sym (head_is 1 number (
      omega arith,
      omega
          arith,
    )) ∙ numbered_ok 1 (head_of (codes "history" ∷ decimal 1 ∷ number ∷ [])) x h in
    let both = plain_later (plain number) x read in
    (both.0, ap (at_record 1) (head_is 2 number (omega arith, omega arith) ∙ both.1))

-- a history behind its first record
abbrev front_behind : ℕ → ℕ → List Record → Result (List Process) TextFault
front_behind version n records =
    floors_of version n records >>= λ floors. front_of n floors.number floors.left >>= λ front.
    at_record front.number
    (want (is_none front.left) faults.BadRecord) >>= λ ended. Ok front.value

-- version 1 tells of nothing that was let go, as version 2 does
no_floors : (n : ℕ) (number : List ℕ) (rest : List Record)
    → front_behind 1 n (in_version 1 number rest) ≡ front_behind 2 n (in_version 2 number rest)
unfolding several
no_floors n number rest = refl

history_with : (number : List ℕ) (rest : List Record) (head : Result (ℕ × ℕ) TextFault)
    (history : List Process) → head_in (in_version 1 number rest) ≡ head
    → (head >>= λ x. front_behind x.0 x.1 (in_version 1 number rest)) ≡ Ok history
    → history_of (in_version 2 number rest) ≡ Ok history
unfolding history_of
history_with number rest (Ok x) history is h =
    let head = head_later number rest x is in
    rw head.1 (sym (no_floors x.1 number rest) ∙ sym
    (ap (λ (v : ℕ). front_behind v x.1 (in_version 1 number rest)) head.0) ∙ h)
history_with number rest (Err fault) history is h = cc

pub history_later : (number : List ℕ) (rest : List Record) (history : List Process) → history_of
    (in_version 1 number rest) ≡ Ok history → history_of (in_version 2 number rest) ≡ Ok history
unfolding history_of
history_later number rest history h =
    history_with number rest (head_in (in_version 1 number rest)) history refl h

-- a claim behind a history
abbrev with_claim : ℕ → ℕ → List (ℕ × ℕ) → Part (List Process) → Result Check TextFault
with_claim version n floors front = do
  claim ← claim_from version n front.number front.left
  Ok (record { history = front.value; floors = floors; claim = claim })

same_with_claim : (version n : ℕ) (floors : List (ℕ × ℕ)) (check : Check)
    (front : Part (List Process)) → version ≡ 1 → with_claim version n floors front ≡ Ok check
    → with_claim 2 n floors front ≡ Ok check
same_with_claim version n floors check front is h =
    let made : Claim → Result Check TextFault = λ claim. Ok
    (record { history = front.value; floors = floors; claim = claim }) in
    then_later (claim_from version n front.number front.left)
    (claim_from 2 n front.number front.left) made made check
    (λ claim k. same_claim version n front.number front.left claim is k) (λ claim k. k) h

-- both behind a first record
abbrev check_behind : ℕ → ℕ → List Record → Result Check TextFault
check_behind version n records = floors_of version n records >>= λ floors. front_of n floors.number
    floors.left >>= with_claim version n floors.value

-- where nothing was let go
check_apart : (n : ℕ) (number : List ℕ) (rest : List Record)
    → check_behind 1 n (in_version 1 number rest) ≡ (front_of n 2 rest >>= with_claim 1 n [])
unfolding several
check_apart n number rest = refl

check_apart_later : (n : ℕ) (number : List ℕ) (rest : List Record)
    → check_behind 2 n (in_version 2 number rest) ≡ (front_of n 2 rest >>= with_claim 2 n [])
unfolding several
check_apart_later n number rest = refl

check_with : (number : List ℕ) (rest : List Record) (head : Result (ℕ × ℕ) TextFault)
    (check : Check) → head_in (in_version 1 number rest) ≡ head
    → (head >>= λ x. check_behind x.0 x.1 (in_version 1 number rest)) ≡ Ok check
    → check_text_of (in_version 2 number rest) ≡ Ok check
unfolding check_text_of
check_with number rest (Ok x) check is h =
    let head = head_later number rest x is in
    let front : Result (Part (List Process)) TextFault = front_of x.1 2 rest in
    let first : (front >>= with_claim 1 x.1 []) ≡ Ok check = sym (check_apart x.1 number rest) ∙ sym
    (ap (λ (v : ℕ). check_behind v x.1 (in_version 1 number rest)) head.0) ∙ h in
    rw head.1 (check_apart_later x.1 number rest ∙ then_later front front (with_claim 1 x.1 [])
    (with_claim 2 x.1 []) check (λ y k. k)
    (λ y k. same_with_claim 1 x.1 [] check y refl k) first)
check_with number rest (Err fault) check is h = cc

pub check_later : (number : List ℕ) (rest : List Record) (check : Check) → check_text_of
    (in_version 1 number rest) ≡ Ok check → check_text_of (in_version 2 number rest) ≡ Ok check
unfolding check_text_of
check_later number rest check h =
    check_with number rest (head_in (in_version 1 number rest)) check refl h

-- two texts of such records
texts_later : {A : Type 0} (text later : Result (List Record) TextFault) (one two : List Record)
    (spelt : List Record → Result A TextFault) (x : A)
    → text ≡ Ok one → later ≡ Ok two → (spelt one ≡ Ok x → spelt two ≡ Ok x)
    → (text >>= spelt) ≡ Ok x → (later >>= spelt) ≡ Ok x
texts_later text later one two spelt x is also same h =
    ap (λ (read : Result (List Record) TextFault). read >>= spelt) also ∙ same
    (sym (ap (λ (read : Result (List Record) TextFault). read >>= spelt) is) ∙ h)

pub history_text_later : (number : List ℕ) (rest : List Record) (text later : List ℕ)
    (history : List Process)
    → records_in text ≡ Ok (in_version 1 number rest) → records_in later ≡ Ok (in_version 2 number
    rest) → history_of_text text ≡ Ok history → history_of_text later ≡ Ok history
history_text_later number rest text later history is also h =
    texts_later (records_in text) (records_in later) (in_version 1 number rest)
    (in_version 2 number rest) history_of history is also (history_later number rest history) h

pub check_text_later : (number : List ℕ) (rest : List Record) (text later : List ℕ) (check : Check)
    → records_in text ≡ Ok (in_version 1 number rest) → records_in later ≡ Ok
    (in_version 2 number rest) → check_of_text text ≡ Ok check → check_of_text later ≡ Ok check
check_text_later number rest text later check is also h =
    texts_later (records_in text) (records_in later) (in_version 1 number rest)
    (in_version 2 number rest) check_text_of check is also (check_later number rest check) h
