-- Where something more is let go, no process comes back to its initial state, and what is left
-- keeps
-- all that is kept true.
use Rattle.std.proofs.Common.{◌≡◌, ℕ, ◌-◌, ◌<◌, ◌≤◌, Bool, true, false, cond, List, [], ◌∷◌, length}
use Rattle.std.proofs.Common.{map, get_or, refl, sym, ap, ◌∙◌, subst, arith, inl, inr}
use Rattle.std.specs.Prelude.{nat_le}
use Rattle.std.specs.List.{All, filter}
use Rattle.std.proofs.lemmas.Bool.{cases_lt, leb-true}
use Rattle.std.proofs.lemmas.List.{get_or_past, length-map}
use Rattle.std.proofs.lemmas.List.Elements.{All-cons, All-head, All-nil, All-tail}
use Rattle.std.proofs.lemmas.List.FromFn.{length-map-range_with_len, get_or-map-range_with_len}
use Rattle.line_names.specs.declared.choices.Choice.{Choice}
use Rattle.line_names.specs.declared.choices.Choice.TheVariants.{Check as AtCheck}
use Rattle.line_names.specs.Lines.{choice_at}
use Rattle.line_names.specs.Order.{IsNoLater}
use Rattle.line_laws.proofs.RoundLines.{in_range}
use Rattle.line_moves.specs.Listed.{ListedRound, check_in}
use Rattle.line_world.specs.Machine.{Machine}
use Rattle.line_cuts.specs.Cuts.{Floor, floor_check, floor_line, lost_checks}
use Rattle.line_cuts.proofs.ConsistentCuts.{floor_at}
use Rattle.line_cuts.proofs.FloorLemmas.{line_of_checks}
use Rattle.line_live.specs.CutMachines.{cut_listed, is_listed_on}
use Rattle.line_live.specs.Forgets.{IsFloorOfRound, IsFloorWhereAllFail}
use Rattle.line_live.specs.Numbers.{IsTallied}
use Rattle.line_live.specs.Resumed.{kept_floor, AreChecks}
use Rattle.line_live.proofs.ForgetLemmas.{indices_back, listed_one}
use Rattle.line_live.proofs.HeldFloors.{first_at, first_reached}
use Rattle.line_live.proofs.LiveFloors.{all_checks}

module _ (floor : Floor) (forgot : Bool) (kept : Machine) where
  -- a process that begins with a check is one of those that there are
  begun_within : IsTallied floor forgot kept → (p : ℕ) → 1 ≤ floor_check floor p
      → p < length kept.history
  begun_within is p some = elim (cases_lt p (length kept.history)) [
    | inl within ↦ within
    | inr past ↦ absurd
        (omega (arith, some, get_or_past floor.checks p 0 (omega (arith, past, is.of_all.checks))))
  ]

  -- before a listed round
  pub round_further : (number : ℕ) (later : Floor) → IsTallied floor forgot kept → IsFloorOfRound
      kept number later → (p : ℕ) → 1 ≤ floor_check floor p → 1 ≤ floor_check later p
  round_further number later is found p some =
      let within : p < length kept.history = begun_within is p some in
      let checks_are : later.checks ≡ found.round.checks = ap
      (λ (f : Floor). f.checks) found.at.value ∙ indices_back found.round.checks in
      let checked : AreChecks found.round.checks = listed_one (λ (round : ListedRound). AreChecks
      round.checks) kept.rounds number found.round is.checked found.listed in
      let size : length later.checks ≡ length kept.history = sym
      (length-map later.checks (λ c. AtCheck c)) ∙ found.at.is.line.length_is in
      subst (λ (checks : List ℕ). 1 ≤ get_or checks p 0) (sym checks_are)
      (checked p 0
      (omega (arith, within, size, ap (λ (checks : List ℕ). length checks) checks_are)))

  -- before the line where each process fails
  pub live_further : (later : Floor) → IsTallied floor forgot kept → IsFloorWhereAllFail kept later
      → (p : ℕ) → 1 ≤ floor_check floor p → 1 ≤ floor_check later p
  live_further later is found p some =
      let line_is : floor_line later
      ≡ found.line = ap (λ (f : Floor). floor_line f) found.value ∙ line_of_checks found.line
      (all_checks kept.history kept.marks found.failed found.line found.all found.latest) in
      let above : IsNoLater (choice_at (floor_line (kept_floor floor)) p)
      (choice_at found.line p) = first_reached floor kept.history kept.marks is.held
      found.failed found.line found.latest p in
      let there : choice_at found.line p ≡ AtCheck (floor_check later p) = sym
      (ap (λ (line : List Choice). choice_at line p) line_is) ∙ floor_at later p in
      let low : floor_check (kept_floor floor) p ≤ floor_check later p = subst
      (IsNoLater (AtCheck (floor_check (kept_floor floor) p))) there (subst (λ (c : Choice).
      IsNoLater c (choice_at found.line p)) (floor_at (kept_floor floor) p) above) in
      omega (arith, some, low, first_at floor p)

-- what is left of a listed round has no initial state either
left_checked : (later : Floor) (round : ListedRound) → is_listed_on later round ≡ true
    → AreChecks round.checks → AreChecks (cut_listed later round).checks
left_checked later round on checked k d within =
    let f : ℕ → ℕ = λ p. check_in round p - lost_checks later p in
    let inside : k < length round.checks = omega
    (arith, within, length-map-range_with_len f 0 (length round.checks)) in
    let low : floor_check later k ≤ check_in round k = elim (cases_lt k (length later.checks)) [
      | inl there ↦ leb-true (floor_check later k) (check_in round k)
          (in_range (λ q. nat_le (floor_check later q) (check_in round q)) 0
          (length later.checks) k on (omega arith) (omega (arith, there)))
      | inr past ↦ omega (arith, get_or_past later.checks k 0 past)
    ] in
    let some : 1 ≤ check_in round k = checked k 0 inside in
    omega (
      arith,
      low,
      some,
      get_or-map-range_with_len f 0 (length round.checks) k k d inside
          (omega arith),
    )

pub rounds_checked : (later : Floor) (rounds : List ListedRound)
    → All (λ (round : ListedRound). AreChecks round.checks) rounds → All (λ (round : ListedRound).
    AreChecks round.checks) (map (cut_listed later) (filter (is_listed_on later) rounds))
rounds_checked later [] all = All-nil (λ (round : ListedRound). AreChecks round.checks)
rounds_checked later (round ∷ rounds) all =
    let P : ListedRound → Type 0 = λ (one : ListedRound). AreChecks one.checks in
    let rest : All P (map (cut_listed later) (filter (is_listed_on later) rounds)) = rounds_checked
    later rounds (All-tail P round rounds all) in
    let others : List ListedRound = filter (is_listed_on later) rounds in
    elim (is_listed_on later round) as (λ b. b ≡ is_listed_on later round
    → All P (map (cut_listed later) (cond b (round ∷ others) others))) [
      | true ↦ λ e. All-cons P (cut_listed later round) (map (cut_listed later) others)
          (left_checked later round (sym e) (All-head P round rounds all)) rest
      | false ↦ λ e. rest
    ] refl
