-- To cut what is left once more is to cut the whole once, further on.
use Rattle.std.proofs.Common.{◌≡◌, ℕ, zero, suc, ◌+◌, ◌-◌, ◌<◌, ◌≤◌, true, false, cond, leb, ltb}
use Rattle.std.proofs.Common.{List, [], ◌∷◌, length, Option, Some, None, refl, sym, ap, ◌∙◌, arith}
use Rattle.std.proofs.Common.{inl, inr}
use Rattle.std.specs.Prelude.{nat_le, nat_lt}
use Rattle.std.proofs.lemmas.Bool.{leb-true, leb-false, ltb-false, le-leb, cases_lt}
use Rattle.std.proofs.lemmas.Bool.Decides.{nat_tests}
use Rattle.line_names.specs.declared.messages.MsgName.{MsgName}
use Rattle.line_tape.specs.declared.events.Event.{Event}
use Rattle.line_tape.specs.declared.events.Event.TheVariants.{Send, Recv, Check, Mark}
use Rattle.std.proofs.lemmas.List.{get_or_past}
use Rattle.std.proofs.lemmas.List.FromFn.{length-map-range_with_len, get_or-map-range_with_len}
use Rattle.line_tape.specs.History.{Process, process_at, tape_at}
use Rattle.line_cuts.specs.Cuts.{Floor, lost_sends, floor_check, lost_checks, is_left, cut_name}
use Rattle.line_cuts.specs.Cuts.{cut_round, cut_events, cut_history, whole_floor}
use Rattle.line_cuts.proofs.LatestCuts.{length_history}
use Rattle.line_cuts.proofs.StepCuts.{same_history, cut_process, process_cut}

-- a floor, a later one, and the two as one
pub record AreBoth (floor later both : Floor) : Type 0 where
  pub base : (p : ℕ) → lost_sends both p ≡ lost_sends floor p + lost_sends later p
  pub round : both.round ≡ later.round
  pub rising : floor.round ≤ later.round

module _ (floor later both : Floor) (are : AreBoth floor later both) (p : ℕ) where
  -- tests of a send
  left_both : (q k : ℕ) → lost_sends floor q ≤ k
      → nat_le (lost_sends later q) (k - lost_sends floor q) ≡ nat_le (lost_sends both q) k
  left_both q k h = elim (cases_lt k (lost_sends both q)) [
    | inl below ↦
        let a : leb (lost_sends later q) (k - lost_sends floor q)
        ≡ false = grind (arith, nat_tests, are.base q) in
        let b : leb (lost_sends both q) k ≡ false = grind (arith, nat_tests) in
        a ∙ sym b
    | inr above ↦ le-leb (lost_sends later q) (k - lost_sends floor q)
        (omega (arith, are.base q)) ∙ sym (le-leb (lost_sends both q) k above)
  ]

  left_neither : (q k : ℕ) → k < lost_sends floor q → nat_le (lost_sends both q) k ≡ false
  left_neither q k h =
      let past : k < lost_sends both q = omega (arith, are.base q) in grind (arith, nat_tests)

  pub name_both : (m : MsgName) → cut_name later (cut_name floor m) ≡ cut_name both m
  name_both m =
      let number : (m.number - lost_sends floor m.from) - lost_sends later m.from
      ≡ m.number - lost_sends both m.from = omega (arith, are.base m.from) in
      ap (λ (n : ℕ). record { from = m.from; inc = m.inc; number = n }) number

  round_both : (round : Option ℕ)
      → cut_round later.round (cut_round floor.round round) ≡ cut_round both.round round
  round_both None = refl
  round_both (Some r) = elim (nat_lt floor.round r) as (λ b. b ≡ nat_lt floor.round r
      → cut_round later.round (cond b (Some r) None) ≡ cut_round both.round (Some r)) [
        | true ↦ λ e. ap (λ v. cut_round v (Some r)) (sym are.round)
        | false ↦ λ e.
            let low : r ≤ floor.round = ltb-false floor.round r (sym e) in
            let gone : ltb both.round r ≡ false = grind (arith, nat_tests, are.round, are.rising) in
            sym (ap (λ b. cond b (Some r) None) gone)
      ] refl

  -- how the floors' checks stand among some events: the first is gone by, or its check is to come
  -- and
  -- the later one is it or after it
  abbrev pub Skips : ℕ → ℕ → ℕ → Type 0
  Skips zero next all = all ≡ next
  Skips (suc s) zero all = ⊥
  Skips (suc s) (suc t) all = all ≡ suc t + s

  pub cut_both : (k skip next all : ℕ) (es : List Event) → Skips skip next all → cut_events later p
      (k - lost_sends floor p) next (cut_events floor p k skip es) ≡ cut_events both p k all es
  cut_both k skip next all [] skips = refl
  cut_both k skip next all (Send to inc body ∷ es) skips =
      let rest = cut_both (suc k) skip next all es skips in
      elim (nat_le (lost_sends floor p) k) as (λ b. b ≡ nat_le (lost_sends floor p) k
      → cut_events later p (k - lost_sends floor p) next (cond b (Send to inc body
      ∷ cut_events floor p (suc k) skip es) (cut_events floor p (suc k) skip es))
      ≡ cond (nat_le (lost_sends both p) k) (Send to inc body ∷ cut_events both p (suc k) all es)
      (cut_events both p (suc k) all es)) [
        | true ↦ λ e.
            let h : lost_sends floor p ≤ k = leb-true (lost_sends floor p) k (sym e) in
            let number : suc (k - lost_sends floor p) ≡ suc k - lost_sends floor p = omega arith in
            let ih : cut_events later p (suc (k - lost_sends floor p)) next
            (cut_events floor p (suc k) skip es) ≡ cut_events both p (suc k) all es = ap (λ n.
            cut_events later p n next (cut_events floor p (suc k) skip es)) number ∙ rest in
            ap (λ b. cond b
            (Send to inc body
            ∷ cut_events later p (suc (k - lost_sends floor p)) next
            (cut_events floor p (suc k) skip es)) (cut_events later p (suc (k - lost_sends floor
            p)) next (cut_events floor p (suc k) skip es))) (left_both p k h)
            ∙ ap (λ (v : List Event). cond (nat_le (lost_sends both p) k) (Send to inc body ∷ v) v)
            ih
        | false ↦ λ e.
            let h : k < lost_sends floor p = leb-false (lost_sends floor p) k (sym e) in
            let number : k - lost_sends floor p ≡ suc k - lost_sends floor p = omega arith in
            ap (λ n. cut_events later p n next (cut_events floor p (suc k) skip es)) number ∙ rest
            ∙ sym (ap (λ b. cond b (Send to inc body ∷ cut_events both p (suc k) all es)
            (cut_events both p (suc k) all es)) (left_neither p k h))
      ] refl
  cut_both k skip next all (Recv m ∷ es) skips =
      let rest = cut_both k skip next all es skips in
      elim (is_left floor m) as (λ b. b ≡ is_left floor m
      → cut_events later p (k - lost_sends floor p) next (cond b
      (Recv (cut_name floor m) ∷ cut_events floor p k skip es) (cut_events floor p k skip es))
      ≡ cond (is_left both m) (Recv (cut_name both m) ∷ cut_events both p k all es)
      (cut_events both p k all es)) [
        | true ↦ λ e.
            let h : lost_sends floor m.from ≤ m.number = leb-true (lost_sends floor m.from) m.number
            (sym e) in
            ap (λ b. cond b
            (Recv (cut_name later (cut_name floor m))
            ∷ cut_events later p (k - lost_sends floor p) next (cut_events floor p k skip es))
            (cut_events later p (k - lost_sends floor p) next (cut_events floor p k skip es)))
            (left_both m.from m.number h)
            ∙ ap (λ (v : MsgName). cond (is_left both m)
            (Recv v ∷ cut_events later p (k - lost_sends floor p) next
            (cut_events floor p k skip es)) (cut_events later p (k - lost_sends floor p) next
            (cut_events floor p k skip es))) (name_both m)
            ∙ ap (λ (v : List Event). cond (is_left both m) (Recv (cut_name both m) ∷ v) v) rest
        | false ↦ λ e.
            let h : m.number < lost_sends floor m.from = leb-false
            (lost_sends floor m.from) m.number (sym e) in
            rest ∙ sym (ap (λ b. cond b (Recv (cut_name both m) ∷ cut_events both p k all es)
            (cut_events both p k all es)) (left_neither m.from m.number h))
      ] refl
  cut_both k zero zero all (Check state round ∷ es) skips =
      ap (λ (r : Option ℕ). Check state r ∷ cut_events later p (k - lost_sends floor p) zero
      (cut_events floor p k zero es)) (round_both round)
      ∙ ap (λ (v : List Event). Check state (cut_round both.round round) ∷ v)
      (cut_both k zero zero zero es refl)
      ∙ ap (λ a. cut_events both p k a (Check state round ∷ es)) (sym skips)
  cut_both k zero (suc zero) all (Check state round ∷ es) skips =
      ap (λ (r : Option ℕ). Check state r ∷ cut_events later p (k - lost_sends floor p) zero
      (cut_events floor p k zero es)) (round_both round)
      ∙ ap (λ (v : List Event). Check state (cut_round both.round round) ∷ v)
      (cut_both k zero zero zero es refl)
      ∙ ap (λ a. cut_events both p k a (Check state round ∷ es)) (sym skips)
  cut_both k zero (suc (suc t)) all (Check state round ∷ es) skips =
      cut_both k zero (suc t) (suc t) es refl ∙ ap
      (λ a. cut_events both p k a (Check state round ∷ es)) (sym skips)
  cut_both k (suc s) zero all (Check state round ∷ es) skips = absurd skips
  cut_both k (suc zero) (suc zero) all (Check state round ∷ es) skips =
      let last : 1 ≡ all = omega arith in
      ap (λ (r : Option ℕ). Check state r ∷ cut_events later p (k - lost_sends floor p) zero
      (cut_events floor p k zero es)) (round_both round)
      ∙ ap (λ (v : List Event). Check state (cut_round both.round round) ∷ v)
      (cut_both k zero zero zero es refl)
      ∙ ap (λ a. cut_events both p k a (Check state round ∷ es)) last
  cut_both k (suc zero) (suc (suc t)) all (Check state round ∷ es) skips =
      let last : suc (suc t) ≡ all = omega arith in
      cut_both k zero (suc t) (suc t) es refl ∙ ap
      (λ a. cut_events both p k a (Check state round ∷ es)) last
  cut_both k (suc (suc s)) (suc t) all (Check state round ∷ es) skips =
      let last : suc (suc (t + s)) ≡ all = omega arith in
      cut_both k (suc s) (suc t) (suc (t + s)) es (omega arith) ∙ ap
      (λ a. cut_events both p k a (Check state round ∷ es)) last
  cut_both k skip next all (Mark from round ∷ es) skips =
      let rest = cut_both k skip next all es skips in
      let same : nat_lt later.round round
      ≡ nat_lt both.round round = ap (λ v. nat_lt v round) (sym are.round) in
      elim (nat_lt floor.round round) as (λ b. b ≡ nat_lt floor.round round
      → cut_events later p (k - lost_sends floor p) next
      (cond b (Mark from round ∷ cut_events floor p k skip es) (cut_events floor p k skip es))
      ≡ cond (nat_lt both.round round) (Mark from round ∷ cut_events both p k all es)
      (cut_events both p k all es)) [
        | true ↦ λ e.
            ap (λ b. cond b
            (Mark from round
            ∷ cut_events later p (k - lost_sends floor p) next (cut_events floor p k skip es))
            (cut_events later p (k - lost_sends floor p) next (cut_events floor p k skip es)))
            same
            ∙ ap (λ (v : List Event). cond (nat_lt both.round round) (Mark from round ∷ v) v) rest
        | false ↦ λ e.
            let low : round ≤ floor.round = ltb-false floor.round round (sym e) in
            let gone : ltb both.round round
            ≡ false = grind (arith, nat_tests, are.round, are.rising) in
            rest ∙ sym (ap (λ b. cond b (Mark from round ∷ cut_events both p k all es)
            (cut_events both p k all es)) gone)
      ] refl

  -- a tape, cut twice
  pub tape_both : (es : List Event) → floor_check both p ≡ floor_check later p +
      (floor_check floor p - 1) → (1 ≤ floor_check floor p → 1 ≤ floor_check later p)
      → cut_events later p 0 (floor_check later p) (cut_events floor p 0 (floor_check floor p) es)
      ≡ cut_events both p 0 (floor_check both p) es
  tape_both es sum some =
      let start : 0 ≡ 0 - lost_sends floor p = omega arith in
      ap (λ n. cut_events later p n (floor_check later p)
      (cut_events floor p 0 (floor_check floor p) es)) start
      ∙ cut_both 0 (floor_check floor p) (floor_check later p) (floor_check both p) es
      (skips (floor_check floor p) (floor_check later p) (floor_check both p) sum some)
    where
      skips : (s t u : ℕ) → u ≡ t + (s - 1) → (1 ≤ s → 1 ≤ t) → Skips s t u
      skips zero t u e h = omega arith
      skips (suc s) zero u e h = let more : 1 ≤ 0 = h (omega arith) in absurd (omega arith)
      skips (suc s) (suc t) u e h = omega arith

module _ (floor later : Floor) where
  -- what the two floors let go
  pub sends_both : length floor.sends ≡ length later.sends → (p : ℕ)
      → lost_sends (whole_floor floor later) p ≡ lost_sends floor p + lost_sends later p
  sends_both long p = elim (cases_lt p (length later.sends)) [
    | inl within ↦ get_or-map-range_with_len (λ q. lost_sends floor q + lost_sends later q) 0
        (length later.sends) p p 0 within (omega arith)
    | inr past ↦
        let none : 0 ≡ lost_sends floor p + lost_sends later p = omega (
          arith,
          get_or_past
              floor.sends p 0 (omega (arith, long)),
          get_or_past later.sends p 0 past,
        ) in
        get_or_past (whole_floor floor later).sends p 0 (omega (
          arith,
          length-map-range_with_len
              (λ q. lost_sends floor q + lost_sends later q) 0 (length later.sends),
        )) ∙ none
  ]

  pub check_both : (p : ℕ) → p < length later.checks
      → floor_check (whole_floor floor later) p ≡ floor_check later p + lost_checks floor p
  check_both p within = get_or-map-range_with_len (λ q. floor_check later q + lost_checks floor q) 0
      (length later.checks) p p 0 within (omega arith)

  -- a history, cut twice
  pub history_both : (history : List Process) → length later.checks ≡ length history
      → length floor.sends ≡ length later.sends
      → ((p : ℕ) → p < length history → 1 ≤ floor_check floor p → 1 ≤ floor_check later p)
      → floor.round ≤ later.round
      → cut_history later (cut_history floor history)
      ≡ cut_history (whole_floor floor later) history
  history_both history long base some rising =
      let both : Floor = whole_floor floor later in
      let are : AreBoth floor later both = record
      { base = sends_both base; round = refl; rising = rising } in
      same_history (cut_history later (cut_history floor history)) (cut_history both history)
      (length_history later (cut_history floor history) ∙ length_history floor history ∙ sym
      (length_history both history))
      (λ p h.
      let within : p < length history = omega
      (arith, length_history later (cut_history floor history), length_history floor history) in
      process_cut later (cut_history floor history) p (omega (arith, length_history floor history))
      ∙ ap (cut_process later p) (process_cut floor history p within)
      ∙ ap (λ (es : List Event). record
      { incarnation = (process_at history p).incarnation; tape = es }) (tape_both floor later
      both are p (tape_at history p) (check_both p (omega (arith, long))) (some p within))
      ∙ sym (process_cut both history p within))
