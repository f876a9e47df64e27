-- What a restart asks for is written process by process, and message by message.
use Rattle.std.proofs.Common.{◌≡◌, ◌<◌, ◌≤◌, ℕ, ◌+◌, List, [], ◌∷◌, ◌++◌, get_or, length, drop, ap}
use Rattle.std.proofs.Common.{◌∙◌, arith}
use Rattle.std.specs.Prelude.{map}
use Rattle.std.specs.List.{range_with_len}
use Rattle.std.proofs.lemmas.List.{drop_all, drop_more}
use Rattle.std.proofs.lemmas.List.FromFn.{get_or-map-range_with_len, length-map-range_with_len}
use Rattle.line_check.specs.declared.answers.Start.{Start}
use Rattle.line_check.specs.declared.cursors.ReplayCursor.{ReplayCursor}
use Rattle.line_check.specs.Answers.{replays_due, still_due}
use Rattle.line_check.proofs.CursorLemmas.{left_at, start-left}
use Rattle.line_fields.specs.Texts.{record_text, records_text}
use Rattle.line_names.specs.declared.choices.Choice.{Choice}
use Rattle.line_tape.specs.History.{Process}
use Rattle.line_claims.specs.Records.{start_record, starts_records}

-- where the processes from p on go on: it, and those behind it
pub next_starts : (f : ℕ → Start) (n p : ℕ) → p < n
    → records_text (starts_records p (drop p (map f (range_with_len 0 n))))
    ≡ record_text (start_record p (f p))
    ++ records_text (starts_records (p + 1) (drop (p + 1) (map f (range_with_len 0 n))))
next_starts f n p lt =
    let all : List Start = map f (range_with_len 0 n) in
    let long : length all ≡ n = length-map-range_with_len f 0 n in
    let there : p < length all = omega (arith, long, lt) in
    let first : get_or all p (f p)
    ≡ f p = get_or-map-range_with_len f 0 n p p (f p) lt (omega arith) in
    ap (λ (rest : List Start). records_text (starts_records p rest))
    (drop_more all p (f p) there ∙ ap (λ (x : Start). x ∷ drop (p + 1) all) first)

pub no_starts : (f : ℕ → Start) (n p : ℕ) → n ≤ p
    → records_text (starts_records p (drop p (map f (range_with_len 0 n)))) ≡ []
no_starts f n p le =
    let all : List Start = map f (range_with_len 0 n) in
    let long : length all ≡ n = length-map-range_with_len f 0 n in
    ap (λ (rest : List Start). records_text (starts_records p rest))
    (drop_all p all (omega (arith, long, le)))

-- a walk that begins has all before it
pub walk_begins : (history : List Process) (line : List Choice) (cursor : ReplayCursor)
    → cursor.p ≡ 0 → cursor.number ≡ 0 → cursor.place ≡ 0
    → still_due history line cursor ≡ replays_due history line
walk_begins history line cursor p number place =
    ap (λ (q : ℕ). left_at history line q cursor.number cursor.place) p
    ∙ ap (λ (q : ℕ). left_at history line 0 q cursor.place) number
    ∙ ap (λ (q : ℕ). left_at history line 0 0 q) place ∙ start-left history line
