-- Records that are written field by field, and a text that is kept in memory.
use Rattle.std.proofs.Common.{◌≡◌, ◌<◌, ◌≤◌, ℕ, ◌+◌, List, [], ◌∷◌, ◌++◌, Option, Result, Some}
use Rattle.std.proofs.Common.{append_assoc, drop, get_or, length, sym, ap, ◌∙◌, arith, refl}
use Rattle.std.specs.Prelude.{Bool, true, false, codes, decimal, filter, map}
use Rattle.std.specs.List.{flat_map, range_with_len}
use Rattle.std.proofs.lemmas.List.{drop_all, drop_more}
use Rattle.std.proofs.lemmas.List.FromFn.{get_or-range_with_len, length-range_with_len}
use Rattle.line_devices.specs.declared.devices.DeviceFault.{DeviceFault}
use Rattle.line_devices.specs.Devices.{Outputs, Puts, PutsButEnd}
use Rattle.line_devices.proofs.OutputLemmas.{IsOut, outputs_on}
use Rattle.line_fields.proofs.OutletLemmas.{both_texts, join_more}
use Rattle.line_fields.specs.Records.{Record}
use Rattle.line_fields.specs.Texts.{record_text, records_text}
use Rattle.line_names.specs.declared.choices.Choice.{Choice}
use Rattle.line_names.specs.Sets.{is_member}
use Rattle.line_tape.specs.History.{Process}
use Rattle.line_claims.specs.Claims.{Claim}
use Rattle.line_claims.specs.Records.{check_records_in, choice_text, end_record, failed_record}
use Rattle.line_claims.specs.Records.{floors_records, front_records, history_record, judged_records}
use Rattle.line_claims.specs.Records.{line_record, marks_records, members, pass_record}
use Rattle.line_claims.specs.Records.{full_replay_record, rest_records, starts_records}
use Rattle.line_claims.specs.Records.{tapes_records}

-- a comma and the number of each member of a set behind the first i of n, and the end of the record
abbrev pub members_behind : List Bool → ℕ → ℕ → List ℕ
members_behind set n i = flat_map (λ p. 44 ∷ decimal p)
    (filter (λ p. is_member set p) (drop i (range_with_len 0 n))) ++ 10 ∷ []

next_of : (n i : ℕ) → i < n → drop i (range_with_len 0 n) ≡ i ∷ drop (i + 1) (range_with_len 0 n)
next_of n i lt =
    let all : List ℕ = range_with_len 0 n in
    let long : length all ≡ n = length-range_with_len 0 n in
    let there : i < length all = omega (arith, long, lt) in
    let first : get_or all i i ≡ i = get_or-range_with_len 0 n i i lt ∙ omega arith in
    drop_more all i i there ∙ ap (λ (x : ℕ). x ∷ drop (i + 1) all) first

-- its name stands before them
pub before_members : (set : List Bool) (n : ℕ)
    → record_text (failed_record n set) ≡ codes "failed" ++ members_behind set n 0
before_members set n =
    ap (λ (t : List ℕ). t ++ 10 ∷ []) (join_more decimal (codes "failed") (members n set)) ∙
    append_assoc (codes "failed") (flat_map (λ p. 44 ∷ decimal p) (members n set)) (10 ∷ [])

-- the next one is a member
pub next_member : (set : List Bool) (n i : ℕ) → i < n → is_member set i ≡ true
    → members_behind set n i ≡ (44 ∷ decimal i) ++ members_behind set n (i + 1)
next_member set n i lt h =
    let test : ℕ → Bool = λ p. is_member set p in
    let rest : List ℕ = drop (i + 1) (range_with_len 0 n) in
    let kept : filter test (i ∷ rest) ≡ i ∷ filter test rest = rw h refl in
    ap (λ (ps : List ℕ). flat_map (λ p. 44 ∷ decimal p) ps ++ 10 ∷ [])
    (ap (filter test) (next_of n i lt) ∙ kept)
    ∙ append_assoc (44 ∷ decimal i) (flat_map (λ p. 44 ∷ decimal p) (filter test rest)) (10 ∷ [])

-- it isn't
pub next_other : (set : List Bool) (n i : ℕ) → i < n → is_member set i ≡ false
    → members_behind set n i ≡ members_behind set n (i + 1)
next_other set n i lt h =
    let test : ℕ → Bool = λ p. is_member set p in
    let rest : List ℕ = drop (i + 1) (range_with_len 0 n) in
    let kept : filter test (i ∷ rest) ≡ filter test rest = rw h refl in
    ap (λ (ps : List ℕ). flat_map (λ p. 44 ∷ decimal p) ps ++ 10 ∷ [])
    (ap (filter test) (next_of n i lt) ∙ kept)

pub no_member : (set : List Bool) (n i : ℕ) → n ≤ i → members_behind set n i ≡ 10 ∷ []
no_member set n i le =
    let all : List ℕ = range_with_len 0 n in
    let long : length all ≡ n = length-range_with_len 0 n in
    let test : ℕ → Bool = λ p. is_member set p in
    ap (λ (ps : List ℕ). flat_map (λ p. 44 ∷ decimal p) (filter test ps) ++ 10 ∷ [])
    (drop_all i all (omega (arith, long, le)))

-- a comma and each choice of a line behind the first i, and the end of the record
abbrev pub choices_behind : List Choice → ℕ → List ℕ
choices_behind line i = flat_map (λ choice. 44 ∷ choice_text choice) (drop i line) ++ 10 ∷ []

pub before_choices : (line : List Choice)
    → record_text (line_record line) ≡ codes "line" ++ choices_behind line 0
before_choices line =
    ap (λ (t : List ℕ). t ++ 10 ∷ []) (join_more choice_text (codes "line") line) ∙ append_assoc
    (codes "line") (flat_map (λ choice. 44 ∷ choice_text choice) line) (10 ∷ [])

pub next_choice : (line : List Choice) (i : ℕ) (default : Choice) → i < length line → choices_behind
    line i ≡ (44 ∷ choice_text (get_or line i default)) ++ choices_behind line (i + 1)
next_choice line i default lt =
    ap (λ (rest : List Choice). flat_map (λ choice. 44 ∷ choice_text choice) rest ++ 10 ∷ [])
    (drop_more line i default lt)
    ∙ append_assoc (44 ∷ choice_text (get_or line i default))
    (flat_map (λ choice. 44 ∷ choice_text choice) (drop (i + 1) line)) (10 ∷ [])

pub no_choice : (line : List Choice) (i : ℕ) → length line ≤ i → choices_behind line i ≡ 10 ∷ []
no_choice line i le = ap (λ (rest : List Choice). flat_map (λ choice. 44 ∷ choice_text choice) rest
    ++ 10 ∷ []) (drop_all i line le)

-- a text that was put into an empty memory but for its end, and then its end
pub kept_text : (old mid new held text : List ℕ) → old ≡ []
    → PutsButEnd (Some old) (Some mid) held text → Puts (Some mid) (Some new) held → new ≡ text
kept_text old mid new held text none put end =
    end ∙ ap (λ (t : List ℕ). t ++ held)
    (put.put ∙ ap (λ (t : List ℕ). t ++ put.front) none) ∙ sym put.parts

-- ---- a history and a claim on it, part by part

-- the last part is written, or a front of it
pub out_last : {A : Type 0} {r : Result A DeviceFault} {a b c : Option (List ℕ)} {f g h : ℕ}
    {held now later total left : List ℕ} (part : List ℕ) → left ≡ part
    → IsOut a b f g held now total left → Outputs r b c g h later (now ++ part)
    → Outputs r a c f h later (held ++ total)
out_last {A} {r} {a} {b} {c} {f} {g} {h} {held} {now} {later} {total} {left} part same before own =
    outputs_on held before.done part total
    (before.parts ∙ ap (λ (t : List ℕ). before.done ++ t) same) before.out own

pub head_next : (version : ℕ) (floors : List (ℕ × ℕ)) (history : List Process)
    → records_text (front_records version floors history)
    ≡ record_text (history_record version (length history))
    ++ records_text (floors_records 0 floors ++ tapes_records 0 history)
head_next version floors history = refl

pub floors_next : (floors : List (ℕ × ℕ)) (history : List Process)
    → records_text (floors_records 0 floors ++ tapes_records 0 history)
    ≡ records_text (floors_records 0 floors) ++ records_text (tapes_records 0 history)
floors_next floors history = both_texts (floors_records 0 floors) (tapes_records 0 history)

pub front_first : (version : ℕ) (floors : List (ℕ × ℕ)) (history : List Process) (claim : Claim)
    → records_text (check_records_in version floors history claim)
    ≡ records_text (front_records version floors history)
    ++ records_text (marks_records claim.marks ++ judged_records
    (length history) claim.failed claim.line claim.certificate claim.starts claim.replays)
front_first version floors history claim = both_texts (front_records version floors history)
    (marks_records claim.marks ++ judged_records
    (length history) claim.failed claim.line claim.certificate claim.starts claim.replays)

pub claim_next : (n : ℕ) (claim : Claim) → records_text (marks_records claim.marks
    ++ judged_records n claim.failed claim.line claim.certificate claim.starts claim.replays)
    ≡ records_text
    (marks_records claim.marks ++ (failed_record n claim.failed ∷ line_record claim.line ∷ map
    pass_record claim.certificate)) ++ records_text (rest_records claim.starts claim.replays)
claim_next n claim =
    let judged : List Record = failed_record n claim.failed ∷ line_record claim.line
    ∷ map pass_record claim.certificate in
    let rest : List Record = rest_records claim.starts claim.replays in
    ap records_text (sym (append_assoc (marks_records claim.marks) judged rest)) ∙ both_texts
    (marks_records claim.marks ++ judged) rest

pub starts_next : (claim : Claim)
    → records_text (rest_records claim.starts claim.replays) ≡ records_text (starts_records 0
    claim.starts) ++ records_text (map full_replay_record claim.replays ++ end_record ∷ [])
starts_next claim = both_texts (starts_records 0 claim.starts)
    (map full_replay_record claim.replays ++ end_record ∷ [])

pub replays_next : (claim : Claim)
    → records_text (map full_replay_record claim.replays ++ end_record ∷ [])
    ≡ records_text (map full_replay_record claim.replays) ++ records_text (end_record ∷ [])
replays_next claim = both_texts (map full_replay_record claim.replays) (end_record ∷ [])
