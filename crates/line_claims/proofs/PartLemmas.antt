-- A text that is written part by part.
use Rattle.std.proofs.Common.{◌≡◌, ◌<◌, ◌≤◌, ℕ, ◌+◌, List, [], ◌∷◌, ◌++◌, Bool, true, false, Option}
use Rattle.std.proofs.Common.{None, get_or, length, drop, refl, ap, ◌∙◌, arith}
use Rattle.std.specs.Prelude.{◌||◌, filter, map}
use Rattle.std.specs.List.{list_any, range_with_len}
use Rattle.std.specs.Option.{is_some}
use Rattle.std.proofs.lemmas.Grind.{flat_map-append}
use Rattle.std.proofs.lemmas.List.{drop_all, drop_more}
use Rattle.std.proofs.lemmas.List.FromFn.{get_or-map-range_with_len, get_or-range_with_len}
use Rattle.std.proofs.lemmas.List.FromFn.{length-map-range_with_len, length-range_with_len}
use Rattle.line_fields.specs.Texts.{record_text, records_text}
use Rattle.line_tape.specs.History.{Process, fresh, process_at}
use Rattle.line_tape.specs.Survival.{is_damaged}
use Rattle.line_tape.specs.Views.{MarksView}
use Rattle.line_claims.specs.Records.{bar_records, bars_records, damage_record, damages_records}
use Rattle.line_claims.specs.Records.{floor_record, floors_records, tape_records, tapes_records}

-- the tapes of a history from process p on: its tape, and those behind it
pub next_tape : (history : List Process) (p : ℕ) → p < length history
    → records_text (tapes_records p (drop p history)) ≡ records_text (tape_records p
    (process_at history p)) ++ records_text (tapes_records (p + 1) (drop (p + 1) history))
next_tape history p lt =
    ap (λ (rest : List Process). records_text (tapes_records p rest)) (drop_more history p fresh lt)
    ∙ flat_map-append record_text (tape_records p (process_at history p))
    (tapes_records (p + 1) (drop (p + 1) history))

pub no_tape : (history : List Process) (p : ℕ) → length history ≤ p
    → records_text (tapes_records p (drop p history)) ≡ []
no_tape history p le =
    ap (λ (rest : List Process). records_text (tapes_records p rest)) (drop_all p history le)

-- the marks from process p on: its marks, and those behind it
pub next_damages : (f : ℕ → List ℕ) (n p : ℕ) → p < n
    → records_text (damages_records p (drop p (map f (range_with_len 0 n))))
    ≡ records_text (map (damage_record p) (f p))
    ++ records_text (damages_records (p + 1) (drop (p + 1) (map f (range_with_len 0 n))))
next_damages f n p lt =
    let all : List (List ℕ) = map f (range_with_len 0 n) in
    let long : length all ≡ n = length-map-range_with_len f 0 n in
    let there : p < length all = omega (arith, long, lt) in
    let first : get_or all p [] ≡ f p = get_or-map-range_with_len f 0 n p p [] lt (omega arith) in
    ap (λ (rest : List (List ℕ)). records_text (damages_records p rest))
    (drop_more all p [] there ∙ ap (λ (x : List ℕ). x ∷ drop (p + 1) all) first)
    ∙ flat_map-append record_text (map (damage_record p) (f p))
    (damages_records (p + 1) (drop (p + 1) all))

pub no_damages : (f : ℕ → List ℕ) (n p : ℕ) → n ≤ p
    → records_text (damages_records p (drop p (map f (range_with_len 0 n)))) ≡ []
no_damages f n p le =
    let all : List (List ℕ) = map f (range_with_len 0 n) in
    let long : length all ≡ n = length-map-range_with_len f 0 n in
    ap (λ (rest : List (List ℕ)). records_text (damages_records p rest))
    (drop_all p all (omega (arith, long, le)))

-- what was let go from process p on: of it, and of those behind it
pub next_floors : (f : ℕ → ℕ × ℕ) (n p : ℕ) → p < n
    → records_text (floors_records p (drop p (map f (range_with_len 0 n))))
    ≡ record_text (floor_record p (f p))
    ++ records_text (floors_records (p + 1) (drop (p + 1) (map f (range_with_len 0 n))))
next_floors f n p lt =
    let all : List (ℕ × ℕ) = map f (range_with_len 0 n) in
    let long : length all ≡ n = length-map-range_with_len f 0 n in
    let there : p < length all = omega (arith, long, lt) in
    let first : get_or all p (f p)
    ≡ f p = get_or-map-range_with_len f 0 n p p (f p) lt (omega arith) in
    ap (λ (rest : List (ℕ × ℕ)). records_text (floors_records p rest))
    (drop_more all p (f p) there ∙ ap (λ (x : ℕ × ℕ). x ∷ drop (p + 1) all) first)

pub no_floors : (f : ℕ → ℕ × ℕ) (n p : ℕ) → n ≤ p
    → records_text (floors_records p (drop p (map f (range_with_len 0 n)))) ≡ []
no_floors f n p le =
    let all : List (ℕ × ℕ) = map f (range_with_len 0 n) in
    let long : length all ≡ n = length-map-range_with_len f 0 n in
    ap (λ (rest : List (ℕ × ℕ)). records_text (floors_records p rest))
    (drop_all p all (omega (arith, long, le)))

-- the bars from process p on: its own, and those behind it
next_of_bars : (f : ℕ → Option ℕ) (n p : ℕ) → p < n
    → drop p (map f (range_with_len 0 n)) ≡ f p ∷ drop (p + 1) (map f (range_with_len 0 n))
next_of_bars f n p lt =
    let all : List (Option ℕ) = map f (range_with_len 0 n) in
    let long : length all ≡ n = length-map-range_with_len f 0 n in
    let there : p < length all = omega (arith, long, lt) in
    let first : get_or all p None
    ≡ f p = get_or-map-range_with_len f 0 n p p None lt (omega arith) in
    drop_more all p None there ∙ ap (λ (x : Option ℕ). x ∷ drop (p + 1) all) first

none_of_bars : (f : ℕ → Option ℕ) (n p : ℕ) → n ≤ p → drop p (map f (range_with_len 0 n)) ≡ []
none_of_bars f n p le =
    let all : List (Option ℕ) = map f (range_with_len 0 n) in
    let long : length all ≡ n = length-map-range_with_len f 0 n in
    drop_all p all (omega (arith, long, le))

pub next_bars : (f : ℕ → Option ℕ) (n p : ℕ) → p < n
    → records_text (bars_records p (drop p (map f (range_with_len 0 n))))
    ≡ records_text (bar_records p (f p))
    ++ records_text (bars_records (p + 1) (drop (p + 1) (map f (range_with_len 0 n))))
next_bars f n p lt =
    let others : List (Option ℕ) = drop (p + 1) (map f (range_with_len 0 n)) in
    ap (λ (rest : List (Option ℕ)). records_text (bars_records p rest)) (next_of_bars f n p lt) ∙
    flat_map-append record_text (bar_records p (f p)) (bars_records (p + 1) others)

pub no_bars : (f : ℕ → Option ℕ) (n p : ℕ) → n ≤ p
    → records_text (bars_records p (drop p (map f (range_with_len 0 n)))) ≡ []
no_bars f n p le =
    ap (λ (rest : List (Option ℕ)). records_text (bars_records p rest)) (none_of_bars f n p le)

-- whether one of them is barred: none of the first p is, and process p is
pub bar_found : (f : ℕ → Option ℕ) (n p : ℕ) → p < n → is_some (f p) ≡ true
    → list_any is_some (drop p (map f (range_with_len 0 n))) ≡ true
bar_found f n p lt is =
    let all : List (Option ℕ) = map f (range_with_len 0 n) in
    ap (list_any is_some) (next_of_bars f n p lt) ∙ ap
    (λ (b : Bool). b || list_any is_some (drop (p + 1) all)) is

-- it isn't
pub bar_behind : (f : ℕ → Option ℕ) (n p : ℕ) → p < n → is_some (f p) ≡ false
    → list_any is_some (drop p (map f (range_with_len 0 n)))
    ≡ list_any is_some (drop (p + 1) (map f (range_with_len 0 n)))
bar_behind f n p lt is =
    let all : List (Option ℕ) = map f (range_with_len 0 n) in
    ap (list_any is_some) (next_of_bars f n p lt) ∙ ap
    (λ (b : Bool). b || list_any is_some (drop (p + 1) all)) is

pub no_bar_found : (f : ℕ → Option ℕ) (n p : ℕ) → n ≤ p
    → list_any is_some (drop p (map f (range_with_len 0 n))) ≡ false
no_bar_found f n p le = ap (list_any is_some) (none_of_bars f n p le)

-- the damaged ones among the checks of a process behind the first i
abbrev pub damages_behind : MarksView → ℕ → ℕ → ℕ → List ℕ
damages_behind marks p last i = records_text (map (damage_record p)
    (filter (λ check. is_damaged marks p check) (drop i (range_with_len 1 last))))

next_check : (last i : ℕ) → i < last
    → drop i (range_with_len 1 last) ≡ (i + 1) ∷ drop (i + 1) (range_with_len 1 last)
next_check last i lt =
    let all : List ℕ = range_with_len 1 last in
    let long : length all ≡ last = length-range_with_len 1 last in
    let there : i < length all = omega (arith, long, lt) in
    let first : get_or all i 0 ≡ i + 1 = get_or-range_with_len 1 last i 0 lt ∙ omega arith in
    drop_more all i 0 there ∙ ap (λ (x : ℕ). x ∷ drop (i + 1) all) first

-- the next check is damaged
pub next_damaged : (marks : MarksView) (p last i : ℕ) → i < last → is_damaged marks p (i + 1) ≡ true
    → damages_behind marks p last i
    ≡ record_text (damage_record p (i + 1)) ++ damages_behind marks p last (i + 1)
next_damaged marks p last i lt h =
    let test : ℕ → Bool = λ check. is_damaged marks p check in
    let rest : List ℕ = drop (i + 1) (range_with_len 1 last) in
    let kept : filter test ((i + 1) ∷ rest) ≡ (i + 1) ∷ filter test rest = rw h refl in
    ap (λ (cs : List ℕ). records_text (map (damage_record p) cs))
    (ap (filter test) (next_check last i lt) ∙ kept)

-- it isn't
pub next_sound : (marks : MarksView) (p last i : ℕ) → i < last → is_damaged marks p (i + 1) ≡ false
    → damages_behind marks p last i ≡ damages_behind marks p last (i + 1)
next_sound marks p last i lt h =
    let test : ℕ → Bool = λ check. is_damaged marks p check in
    let rest : List ℕ = drop (i + 1) (range_with_len 1 last) in
    let kept : filter test ((i + 1) ∷ rest) ≡ filter test rest = rw h refl in
    ap (λ (cs : List ℕ). records_text (map (damage_record p) cs))
    (ap (filter test) (next_check last i lt) ∙ kept)

pub no_check : (marks : MarksView) (p last i : ℕ) → last ≤ i → damages_behind marks p last i ≡ []
no_check marks p last i le =
    let all : List ℕ = range_with_len 1 last in
    let long : length all ≡ last = length-range_with_len 1 last in
    let test : ℕ → Bool = λ check. is_damaged marks p check in
    ap (λ (cs : List ℕ). records_text (map (damage_record p) (filter test cs)))
    (drop_all i all (omega (arith, long, le)))
