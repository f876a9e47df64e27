-- What is kept of an open round follows the tapes by each event, and says what the round lacks.
use Rattle.std.proofs.Common.{◌≡◌, ◌≢◌, ℕ, suc, ◌+◌, ◌<◌, Bool, true, false, cond, List, [], ◌∷◌}
use Rattle.std.proofs.Common.{◌++◌, length, get_or, set, Some, refl, sym, ap, ◌∙◌, subst, arith}
use Rattle.std.proofs.Common.{inl, inr}
use Rattle.std.proofs.lemmas.Bool.{cases_eq, eq-eqb, or_right}
use Rattle.std.proofs.lemmas.List.{length-set, get_or-set_same, get_or-set_other}
use Rattle.std.proofs.lemmas.List.FromFn.{fill_by_all}
use Rattle.line_tape.specs.declared.events.Event.{Event}
use Rattle.line_tape.specs.declared.events.Event.TheVariants.{Check}
use Rattle.line_tape.specs.Event.{checks}
use Rattle.line_tape.specs.History.{Process, tape_at, with_event}
use Rattle.line_tape.specs.Rounds.{is_check_of, has_check_of, check_index, checks_of, is_checked}
use Rattle.line_laws.proofs.CompletionLemmas.{check_of_new, check_of_push, check_stays}
use Rattle.line_laws.proofs.GrowthLemmas.{has_check_push}
use Rattle.line_tape.proofs.EventLemmas.{tape_same, tape_other}
use Rattle.line_laws.proofs.RoundLines.{checked_has}
use Rattle.line_rounds.specs.Turning.{TurningView, check_or_none, IsTurning}

-- a tape has its check where its index isn't 0
pub has_from : (r : ℕ) (tape : List Event) → check_or_none r tape ≢ 0 → has_check_of r tape ≡ true
has_from r tape some = found (has_check_of r tape) some where
  found : (b : Bool) → cond b (check_index r tape) 0 ≢ 0 → b ≡ true
  found true h = refl
  found false h = absurd (h refl)

-- an event that is no check of the round
pub check_or_none-kept : (r : ℕ) (tape : List Event) (event : Event) → is_check_of r event ≡ false
    → check_or_none r (tape ++ event ∷ []) ≡ check_or_none r tape
check_or_none-kept r tape event none =
    ap (λ b. cond b (check_index r (tape ++ event ∷ [])) 0) (check_stays tape event r none) ∙ found
    (has_check_of r tape) refl where
      found : (b : Bool) → has_check_of r tape ≡ b
          → cond b (check_index r (tape ++ event ∷ [])) 0 ≡ cond b (check_index r tape) 0
      found true has = check_of_push tape event r has
      found false out = refl

-- its check of the round
pub check_or_none-new : (r : ℕ) (tape : List Event) (state : List ℕ) → has_check_of r tape ≡ false
    → check_or_none r (tape ++ Check state (Some r) ∷ []) ≡ checks tape + 1
check_or_none-new r tape state none =
    let event : Event = Check state (Some r) in
    let is : is_check_of r event ≡ true = eq-eqb r r refl in
    let has : has_check_of r (tape ++ event ∷ []) ≡ true = has_check_push tape event r ∙ or_right
    (has_check_of r tape) (is_check_of r event) is in
    ap (λ b. cond b (check_index r (tape ++ event ∷ [])) 0) has ∙ check_of_new tape event r none is
    ∙ (let next : suc (checks tape) ≡ checks tape + 1 = omega arith in next)

-- an event that is no check of the round changes nothing of what is kept
pub IsTurning-kept : (history : List Process) (at : ℕ) (event : Event) (turning : TurningView)
    → at < length history → is_check_of turning.number event ≡ false → IsTurning history turning
    → IsTurning (with_event history at event) turning
IsTurning-kept history at event turning within none is =
    let r : ℕ = turning.number in
    let same_length : length (with_event history at event)
    ≡ length history = length-set history at _ in
    record {
      count = is.count ∙ sym same_length;
      checks =
          λ q q_within. is.checks q (omega (arith, q_within, same_length)) ∙ elim (cases_eq q at) [
            | inl same ↦ sym (ap (check_or_none r) (tape_same history at event q within same) ∙
                check_or_none-kept r (tape_at history q) event none)
            | inr other ↦ sym (ap (check_or_none r) (tape_other history at event q other))
          ];
    }

-- a process takes its check of the round
pub IsTurning-check : (history : List Process) (p : ℕ) (state : List ℕ) (r : ℕ) (indices : List ℕ)
    (index : ℕ) → p < length indices → IsTurning history (record { number = r; checks = indices })
    → has_check_of r (tape_at history p) ≡ false → index ≡ checks (tape_at history p) + 1
    → IsTurning (with_event history p (Check state (Some r)))
    (record { number = r; checks = set indices p index })
IsTurning-check history p state r indices index within is none index_is =
    let event : Event = Check state (Some r) in
    let p_within : p < length history = omega (arith, within, is.count) in
    let same_length : length (with_event history p event)
    ≡ length history = length-set history p _ in
    record {
      count = length-set indices p index ∙ is.count ∙ sym same_length;
      checks = λ q q_within. elim (cases_eq q p) [
        | inl same ↦ subst (λ (v : ℕ). get_or (set indices p index) v 0
            ≡ check_or_none r (tape_at (with_event history p event) v)) (sym same)
            (get_or-set_same indices p index 0 within ∙ index_is ∙ sym
            (check_or_none-new r (tape_at history p) state none) ∙ ap (check_or_none r)
            (sym (tape_same history p event p p_within refl)))
        | inr other ↦ get_or-set_other indices p q index 0 other ∙ is.checks q
            (omega (arith, q_within, same_length)) ∙ ap (check_or_none r)
            (sym (tape_other history p event q other))
      ];
    }

-- where the round is on every tape, these are its checks
pub IsTurning-checked : (history : List Process) (turning : TurningView) → IsTurning history turning
    → is_checked history turning.number ≡ true → turning.checks ≡ checks_of history turning.number
IsTurning-checked history turning is checked =
    let r : ℕ = turning.number in
    fill_by_all (λ q. check_index r (tape_at history q)) turning.checks (length history) 0 is.count
    (λ q within. is.checks q within ∙ ap (λ b. cond b (check_index r (tape_at history q)) 0)
    (checked_has history r q checked within))

-- every process but p has its check
pub others_have : (history : List Process) (turning : TurningView) (p : ℕ) → IsTurning history
    turning → ((q : ℕ) → q < length turning.checks → q ≢ p → get_or turning.checks q 0 ≢ 0)
    → (q : ℕ) → q < length history → q ≢ p → has_check_of turning.number (tape_at history q) ≡ true
others_have history turning p is some q within apart =
    has_from turning.number (tape_at history q)
    (λ none. some q (omega (arith, within, is.count)) apart (is.checks q within ∙ none))
