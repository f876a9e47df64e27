use Rattle.std.proofs.Common.{◌≡◌, ◌<◌, ◌≤◌, ◌+◌, ◌++◌, ◌∷◌, ◌∙◌, [], ℕ, List, ap, append_assoc}
use Rattle.std.proofs.Common.{arith, drop, sym}
use Rattle.std.specs.Prelude.{codes, decimal}
use Rattle.std.specs.List.{flat_map, range_with_len}
use Rattle.line_devices.proofs.OutputLemmas.{out_front, out_more, out_none}
use Rattle.line_fields.proofs.OutletLemmas.{join_more, next_part, no_part}
use Rattle.line_claims.proofs.WriteLemmas.{out_last}
use Rattle.line_fields.specs.Texts.{record_text}
use Rattle.line_cuts.specs.Cuts.{Floor, lost_checks}
use Rattle.line_moves.specs.Listed.{ListedRound, check_in}
use Rattle.line_text.specs.Rounds.{round_record}
use Rattle.line_text.proofs.rounds.put_round.Goals as goal

abbrev head : ℕ → List ℕ
head number = codes "round" ++ (44 ∷ decimal number)

abbrev rest : Floor → ℕ → ListedRound → List ℕ
rest floor n round =
    flat_map (λ (p : ℕ). 44 ∷ decimal (check_in round p + lost_checks floor p)) (range_with_len 0 n)

text_is : (floor : Floor) (n : ℕ) (round : ListedRound) → record_text (round_record floor n round)
    ≡ (head round.number ++ rest floor n round) ++ 10 ∷ []
text_is floor n round =
    ap (λ (t : List ℕ). (codes "round" ++ (44 ∷ t)) ++ 10 ∷ []) (join_more (λ (p : ℕ). decimal
    (check_in round p + lost_checks floor p)) (decimal round.number) (range_with_len 0 n))
    ∙ ap (λ (t : List ℕ). t ++ 10 ∷ [])
    (sym (append_assoc (codes "round") (44 ∷ decimal round.number) (rest floor n round)))

begun : (floor : Floor) (n : ℕ) (round : ListedRound) → record_text (round_record floor n round)
    ≡ head round.number ++ (rest floor n round ++ 10 ∷ [])
begun floor n round =
    text_is floor n round ∙ append_assoc (head round.number) (rest floor n round) (10 ∷ [])

-- the part of a check, and what is left behind it
next_check : (floor : Floor) (n : ℕ) (round : ListedRound) (i : ℕ) → i < n
    → flat_map (λ (p : ℕ). 44 ∷ decimal (check_in round p + lost_checks floor p))
    (drop i (range_with_len 0 n)) ++ 10 ∷ []
    ≡ (44 ∷ decimal (check_in round i + lost_checks floor i)) ++ (flat_map (λ (p : ℕ). 44 ∷ decimal
    (check_in round p + lost_checks floor p)) (drop (i + 1) (range_with_len 0 n)) ++ 10 ∷ [])
next_check floor n round i lt =
    ap (λ (t : List ℕ). t ++ 10 ∷ [])
    (next_part (λ (p : ℕ). 44 ∷ decimal (check_in round p + lost_checks floor p)) n i lt)
    ∙ append_assoc (44 ∷ decimal (check_in round i + lost_checks floor i))
    (flat_map (λ (p : ℕ). 44 ∷ decimal (check_in round p + lost_checks floor p))
    (drop (i + 1) (range_with_len 0 n))) (10 ∷ [])

pub returns-in_err-begin_record : goal.returns-in_err-begin_record
returns-in_err-begin_record g c =
    out_front _ _ _ _ _ (begun c.args.floor.now c.args.n c.args.round.now) (out_none _ _ _ _)
    (rw c.number-number.ensures at c.in_err-begin_record.ensures) c.from_residual.ensures.1

pub loop-value-init : goal.loop-value-init
loop-value-init g c = out_more _ _ (begun c.args.floor.now c.args.n c.args.round.now)
    (out_none _ _ _ _) (rw c.number-number.ensures at c.in_ok-begin_record.ensures)

pub loop-value-preserved : goal.loop-value-preserved
loop-value-preserved g c =
    let lt : c.loop-value.value < c.args.n = omega arith in
    let same : c.check-check.result ≡ check_in c.args.round.now c.loop-value.value = rw
    c.in-Ok.ensures.1 at c.check-check.ensures in
    let gone : c.checks_lost-lost.result ≡ lost_checks c.args.floor.now c.loop-value.value = rw
    c.in-Ok.ensures.1 at c.checks_lost-lost.ensures in
    out_more _ _ (next_check c.args.floor.now c.args.n c.args.round.now c.loop-value.value lt)
    c.loop-value.invariant (rw (same, gone) at c.in_ok-add_field.ensures)

pub returns-in_err-add_field : goal.returns-in_err-add_field
returns-in_err-add_field g c =
    let lt : c.loop-value.value < c.args.n = omega arith in
    let same : c.check-check.result ≡ check_in c.args.round.now c.loop-value.value = rw
    c.in-Ok.ensures.1 at c.check-check.ensures in
    let gone : c.checks_lost-lost.result ≡ lost_checks c.args.floor.now c.loop-value.value = rw
    c.in-Ok.ensures.1 at c.checks_lost-lost.ensures in
    out_front _ _ _ _ _
    (next_check c.args.floor.now c.args.n c.args.round.now c.loop-value.value lt)
    c.loop-value.invariant
    (rw (same, gone) at c.in_err-add_field.ensures) c.from_residual-in_err-add_field.ensures.1

pub returns : goal.returns
returns g c =
    let le : c.args.n ≤ c.loop-value.value = omega arith in
    out_last (10 ∷ [])
    (ap (λ (t : List ℕ). t ++ 10 ∷ [])
    (no_part (λ (p : ℕ). 44
    ∷ decimal (check_in c.args.round.now p + lost_checks c.args.floor.now p)) c.args.n
    c.loop-value.value le)) c.loop-value.invariant c.close_record.ensures
