-- What is left of a snapshot is a snapshot of what is left.
use Rattle.std.proofs.Common.{◌≡◌, ℕ, ◌+◌, ◌-◌, List, [], ◌∷◌, length, get_or, map, refl, sym, ap}
use Rattle.std.proofs.Common.{◌∙◌, subst, arith, inl, inr}
use Rattle.std.proofs.lemmas.Bool.{cases_lt}
use Rattle.std.proofs.lemmas.List.{get_or_past, length-map}
use Rattle.std.proofs.lemmas.List.FromFn.{length-map-range_with_len, get_or-map-range_with_len}
use Rattle.line_names.specs.declared.choices.Choice.{Choice}
use Rattle.line_names.specs.declared.choices.Choice.TheVariants.{Check as AtCheck}
use Rattle.line_names.specs.declared.messages.MsgName.{MsgName}
use Rattle.line_names.specs.Lines.{IsNowhereLater}
use Rattle.line_tape.specs.Fit.{IsFitUnordered}
use Rattle.line_tape.specs.Front.{HasChoice}
use Rattle.line_tape.specs.History.{Process, tape_at}
use Rattle.line_tape.specs.Line.{IsConsistent}
use Rattle.line_tape.specs.Rounds.{check_line, IsSnapshot}
use Rattle.line_tape.specs.Transit.{in_transit_between}
use Rattle.line_laws.proofs.KeptLemmas.{choice_of_checks}
use Rattle.line_laws.proofs.SnapshotLemmas.{check_there}
use Rattle.line_cuts.specs.Cuts.{Floor, IsFloor, floor_line, lost_checks, lost_sends, cut_checks}
use Rattle.line_cuts.specs.Cuts.{cut_choice, cut_history, cut_line, cut_name, whole_name}
use Rattle.line_cuts.proofs.AgreementCuts.{count_cut}
use Rattle.line_cuts.proofs.ConsistentCuts.{choice_cut, consistent_left}
use Rattle.line_cuts.proofs.LatestCuts.{length_cut, length_history, same_line}
use Rattle.line_cuts.proofs.TransitCuts.{between_cut}

module _ (floor : Floor) (indices : List ℕ) where
  -- the check of a process there
  pub index_cut : (p : ℕ)
      → get_or (cut_checks floor indices) p 0 ≡ get_or indices p 0 - lost_checks floor p
  index_cut p = elim (cases_lt p (length indices)) [
    | inl within ↦ get_or-map-range_with_len (λ q. get_or indices q 0 - lost_checks floor q) 0
        (length indices) p p 0 within (omega arith)
    | inr past ↦
        let none : get_or (cut_checks floor indices) p 0
        ≡ 0 = get_or_past (cut_checks floor indices) p 0
        (omega (
          arith,
          length-map-range_with_len
              (λ q. get_or indices q 0 - lost_checks floor q) 0 (length indices),
        )) in
        omega (arith, none, get_or_past indices p 0 past)
  ]

  length_checks : length (cut_checks floor indices) ≡ length indices
  length_checks =
      length-map-range_with_len (λ q. get_or indices q 0 - lost_checks floor q) 0 (length indices)

  -- and their line
  pub checks_line : check_line (cut_checks floor indices) ≡ cut_line floor (check_line indices)
  checks_line =
      same_line (check_line (cut_checks floor indices)) (cut_line floor (check_line indices))
      (length-map (cut_checks floor indices) (λ c. AtCheck c) ∙ length_checks ∙ sym
      (length-map indices (λ c. AtCheck c)) ∙ sym (length_cut floor (check_line indices)))
      (λ p. choice_of_checks (cut_checks floor indices) p ∙ ap AtCheck (index_cut p) ∙ ap
      (cut_choice floor p) (sym (choice_of_checks indices p)) ∙ sym
      (choice_cut floor (check_line indices) p))

-- names are cut again as they were
cut_again : (floor : Floor) (messages : List MsgName)
    → map (cut_name floor) (map (whole_name floor) messages) ≡ messages
cut_again floor [] = refl
cut_again floor (m ∷ messages) =
    let number : (m.number + lost_sends floor m.from) - lost_sends floor m.from
    ≡ m.number = omega arith in
    ap (λ n. record { from = m.from; inc = m.inc; number = n }
    ∷ map (cut_name floor) (map (whole_name floor) messages)) number
    ∙ ap (λ (v : List MsgName). m ∷ v) (cut_again floor messages)

module _ (floor : Floor) (history : List Process) (indices : List ℕ)
    (channels : ℕ → ℕ → List MsgName) (fit : IsFitUnordered history) (is : IsFloor history floor)
    (above : IsNowhereLater (floor_line floor) (check_line indices)) where
  -- what is left of a snapshot from the floor on
  pub snapshot_cut : IsSnapshot history indices channels → IsSnapshot (cut_history floor history)
      (cut_checks floor indices) (λ p q. map (cut_name floor) (channels p q))
  snapshot_cut snapshot = record {
    line = record {
      length_is = length-map (cut_checks floor indices)
          (λ c. AtCheck c) ∙ length_checks floor indices ∙ sym (length-map indices (λ c. AtCheck c))
          ∙ snapshot.line.length_is ∙ sym (length_history floor history);
      exist = λ p.
          subst (HasChoice (tape_at (cut_history floor history) p))
          (sym (choice_of_checks (cut_checks floor indices) p))
          (omega (
            arith,
            index_cut floor indices p,
            count_cut floor history is p,
            check_there
                history indices snapshot.line p,
          ));
    };
    consistent = subst (IsConsistent (cut_history floor history)) (sym (checks_line floor indices))
        (consistent_left floor history (check_line indices) above snapshot.consistent);
    transit = λ p q hp hq other.
        let whole : channels p q
        ≡ in_transit_between history (check_line indices) p q = snapshot.transit p q
        (omega (arith, length_history floor history))
        (omega (arith, length_history floor history)) other in
        ap (map (cut_name floor))
        (whole ∙ between_cut floor history (check_line indices) above fit is p q)
        ∙ cut_again floor (in_transit_between (cut_history floor history)
        (cut_line floor (check_line indices)) p q)
        ∙ ap (λ (line : List Choice). in_transit_between (cut_history floor history) line p q)
        (sym (checks_line floor indices));
  }
