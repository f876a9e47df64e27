-- The rounds of a saved machine, read check by check.
use Rattle.std.proofs.Common.{◌≡◌, ◌≤◌, ◌<◌, ℕ, ◌+◌, ◌-◌, List, [], ◌∷◌, ◌++◌, get_or, length, drop}
use Rattle.std.proofs.Common.{Result, Ok, Err, refl, sym, ap, ◌∙◌, append_assoc, arith}
use Rattle.std.proofs.lemmas.List.{append-nil, drop_all, drop_more, get_or-map, length-map}
use Rattle.std.proofs.lemmas.List.{map-append}
use Rattle.line_fields.specs.declared.faults.Fault.{Fault}
use Rattle.line_fields.specs.Fields.{◌>>=◌, num}
use Rattle.line_fields.specs.Records.{Record, field}
use Rattle.line_tape.specs.Event.{checks}
use Rattle.line_tape.specs.History.{Process, fresh, process_at, tape_at}
use Rattle.line_claims.specs.declared.saved_rounds.SavedRound.{SavedRound}
use Rattle.line_claims.specs.Saved.{checks_among, last_listed}
use Rattle.line_claims.specs.SavedReadings.{rounds_view}

-- the checks so far, and those of the processes that are left
abbrev pub checks_from : List ℕ → List Process → Record → Result (List ℕ) Fault
checks_from front processes fields =
    checks_among processes fields >>= λ others. Ok (front ++ others)

same_checks : (read : Result (List ℕ) Fault) → (read >>= λ others. Ok ([] ++ others)) ≡ read
same_checks (Ok others) = refl
same_checks (Err f) = refl

pub checks_start : (history : List Process) (fields : Record)
    → checks_from [] history fields ≡ checks_among history fields
checks_start history fields = same_checks (checks_among history fields)

one_check : (front : List ℕ) (c : ℕ) (read : Result (List ℕ) Fault)
    → ((read >>= λ more. Ok (c ∷ more)) >>= λ others. Ok (front ++ others))
    ≡ (read >>= λ others. Ok ((front ++ c ∷ []) ++ others))
one_check front c (Ok more) =
    let P : List ℕ → Result (List ℕ) Fault = λ cs. Ok cs in
    ap P (sym (append_assoc front (c ∷ []) more))
one_check front c (Err f) = refl

first_check : (front : List ℕ) (c : ℕ) (process : Process) (others : List Process) (first : List ℕ)
    (rest : Record) → num 0 (checks process.tape) first ≡ Ok c
    → checks_from front (process ∷ others) (first ∷ rest)
    ≡ ((checks_among others rest >>= λ more. Ok (c ∷ more)) >>= λ others. Ok (front ++ others))
unfolding checks_among
first_check front c process others first rest h = rw h refl

first_fault : (front : List ℕ) (f : Fault) (process : Process) (others : List Process)
    (first : List ℕ) (rest : Record) → num 0 (checks process.tape) first ≡ Err f
    → checks_from front (process ∷ others) (first ∷ rest) ≡ Err f
unfolding checks_among
first_fault front f process others first rest h = rw h refl

-- the next process and the next field
both_next : (front : List ℕ) (history : List Process) (p : ℕ) (r : Record) → p < length history
    → p + 2 < length r
    → checks_from front (drop p history) (drop (p + 2) r) ≡ checks_from front
    (process_at history p ∷ drop (p + 1) history) (field r (p + 2) ∷ drop (p + 2 + 1) r)
both_next front history p r there long =
    ap (λ (processes : List Process). checks_from front processes (drop (p + 2) r))
    (drop_more history p fresh there)
    ∙ ap (checks_from front (process_at history p ∷ drop (p + 1) history))
    (drop_more r (p + 2) [] long)

pub checks_more : (front : List ℕ) (c : ℕ) (history : List Process) (p : ℕ) (r : Record)
    → p < length history → length r ≡ length history + 2
    → num 0 (checks (tape_at history p)) (field r (p + 2)) ≡ Ok c
    → checks_from front (drop p history) (drop (p + 2) r)
    ≡ checks_from (front ++ c ∷ []) (drop (p + 1) history) (drop (p + 1 + 2) r)
checks_more front c history p r there long h =
    let more : p + 2 < length r = omega (arith, there, long) in
    let next : p + 2 + 1 ≡ p + 1 + 2 = omega arith in
    both_next front history p r there more ∙ first_check front c (process_at history p)
    (drop (p + 1) history) (field r (p + 2)) (drop (p + 2 + 1) r) h
    ∙ one_check front c (checks_among (drop (p + 1) history) (drop (p + 2 + 1) r))
    ∙ ap (λ (k : ℕ). checks_from (front ++ c ∷ []) (drop (p + 1) history) (drop k r)) next

pub checks_fault : (front : List ℕ) (f : Fault) (history : List Process) (p : ℕ) (r : Record)
    → p < length history → length r ≡ length history + 2
    → num 0 (checks (tape_at history p)) (field r (p + 2)) ≡ Err f
    → checks_from front (drop p history) (drop (p + 2) r) ≡ Err f
checks_fault front f history p r there long h =
    let more : p + 2 < length r = omega (arith, there, long) in
    both_next front history p r there more ∙ first_fault front f (process_at history p)
    (drop (p + 1) history) (field r (p + 2)) (drop (p + 2 + 1) r) h

pub checks_end : (front : List ℕ) (history : List Process) (p : ℕ) (fields : Record)
    → length history ≤ p → checks_from front (drop p history) fields ≡ Ok front
unfolding checks_among
checks_end front history p fields le =
    let P : List ℕ → Result (List ℕ) Fault = λ cs. Ok cs in
    ap (λ (processes : List Process). checks_from front processes fields)
    (drop_all p history le) ∙ ap P (append-nil front)

-- ---- the last of some rounds

-- a round, as lists
abbrev round_seen : SavedRound → ℕ × List ℕ
round_seen round = (round.number, round.checks.items)

pub none_listed : (rounds : List SavedRound) → length rounds ≡ 0
    → last_listed (rounds_view rounds) ≡ 0
none_listed [] none = refl
none_listed (round ∷ others) none = absurd (omega (arith, none))

pub one_listed : (rounds : List SavedRound) (default : SavedRound) → 0 < length rounds
    → last_listed (rounds_view rounds) ≡ (get_or rounds (length rounds - 1) default).number
one_listed rounds default some =
    let at : length (rounds_view rounds) - 1
    ≡ length rounds - 1 = ap (λ (k : ℕ). k - 1) (length-map rounds round_seen) in
    let there : length rounds - 1 < length rounds = omega (arith, some) in
    ap (λ (k : ℕ). (get_or (rounds_view rounds) k (0, [])).0) at ∙ ap (λ (r : ℕ × List ℕ). r.0)
    (get_or-map round_seen rounds (length rounds - 1) default (0, []) there)

-- one more round
pub one_round_seen : (rounds : List SavedRound) (round : SavedRound)
    → rounds_view (rounds ++ round ∷ []) ≡ rounds_view rounds ++ round_seen round ∷ []
one_round_seen rounds round = map-append round_seen rounds (round ∷ [])
