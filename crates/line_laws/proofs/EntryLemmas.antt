-- A chain has exactly one entry for each surviving choice above its line.
use Rattle.std.proofs.Common.{◌≡◌, ℕ, zero, suc, ◌<◌, Bool, List, [], ◌∷◌, length, Some, refl, sym}
use Rattle.std.proofs.Common.{ap, ◌∙◌, subst, arith, inl, inr}
use Rattle.std.proofs.lemmas.Bool.{cases_eq, cases_lt}
use Rattle.std.proofs.lemmas.List.{get_or-set_same}
use Rattle.line_names.specs.declared.choices.Choice.{Choice}
use Rattle.line_names.specs.declared.choices.Choice.TheVariants.{Check as AtCheck}
use Rattle.line_names.specs.declared.messages.MsgName.{MsgName}
use Rattle.line_names.specs.declared.certificates.Passed.{Passed}
use Rattle.line_names.specs.Order.{IsNoLater}
use Rattle.line_names.specs.Lines.{choice_at, IsNowhereLater}
use Rattle.line_tape.specs.declared.events.Event.TheVariants.{Recv}
use Rattle.line_tape.specs.History.{Process}
use Rattle.line_tape.specs.Chain.{next_lower, first_ceilings, IsRight, lowered_ceilings, LeadsTo}
use Rattle.line_tape.specs.Chain.{IsChain, IsAbove, PassesOver, IsPassedOnce}
use Rattle.line_tape.specs.Views.{MarksView}
use Rattle.line_laws.proofs.ChainLemmas.{AreCeilings, set_cases, first_at, first_are_ceilings}
use Rattle.line_laws.proofs.ChainLemmas.{lowered_are_ceilings}
use Rattle.line_tape.proofs.ChoiceLemmas.{IsNoLater-refl, IsNoLater-trans, choice_cases}
use Rattle.line_tape.proofs.ChoiceLemmas.{latest_choice_above, next_lower_above, next_lower-le}
use Rattle.line_tape.proofs.ChoiceLemmas.{next_lower-before}
use Rattle.line_laws.proofs.LedLemmas.{orphan_above}
use Rattle.line_tape.proofs.LineLemmas.{Contains-past}

-- which choice of which process an entry passes over
entry_is : (entry : Passed) (p : ℕ) (choice : Choice) (message : MsgName)
    → Some entry ≡ Some (record { at = p; choice = choice; message = message })
    → (entry.at ≡ p) × (entry.choice ≡ choice)
entry_is entry p choice message e =
    let named : Passed = record { at = p; choice = choice; message = message } in
    let same : entry ≡ named = cc in
    (ap (λ (x : Passed). x.at) same, ap (λ (x : Passed). x.choice) same)

-- the first entry passes the choice over, and no later one does
passed_here : (entry : Passed) (entries : List Passed) (p : ℕ) (choice : Choice) → entry.at ≡ p
    → entry.choice ≡ choice → ((k : ℕ) → PassesOver entries k p choice → ⊥)
    → IsPassedOnce (entry ∷ entries) p choice
passed_here entry entries p choice at is none = record {
  index = 0;
  passed = (
    entry.message,
    ap
        (λ (q : ℕ). let x : Passed = record
        { at = q; choice = entry.choice; message = entry.message }
        in Some x) at ∙ ap (λ (c : Choice). let x : Passed =
        record { at = p; choice = c; message = entry.message } in Some x) is,
  );
  only = only_here;
}
  where
    only_here : (k : ℕ) → PassesOver (entry ∷ entries) k p choice → k ≡ 0
    only_here zero passed = refl
    only_here (suc k) passed = absurd (none k passed)

-- a later entry passes the choice over, and not the first one
passed_later : (entry : Passed) (entries : List Passed) (p : ℕ) (choice : Choice)
    → (PassesOver (entry ∷ entries) 0 p choice → ⊥) → IsPassedOnce entries p choice
    → IsPassedOnce (entry ∷ entries) p choice
passed_later entry entries p choice none once =
    record { index = suc once.index; passed = once.passed; only = only_later }
  where
    only_later : (k : ℕ) → PassesOver (entry ∷ entries) k p choice → k ≡ suc once.index
    only_later zero passed = absurd (none passed)
    only_later (suc k) passed = ap suc (once.only k passed)

module _ (history : List Process) (marks : MarksView) (failed : List Bool) where
  -- what a process is lowered to
  lowered_at : (ceilings : List Choice) (q : ℕ) → q < length ceilings → choice_at (lowered_ceilings
      history marks failed ceilings q) q ≡ next_lower history marks failed q (choice_at ceilings q)
  lowered_at ceilings q h = get_or-set_same ceilings q
      (next_lower history marks failed q (choice_at ceilings q)) (AtCheck 0) h

  -- ceilings fall
  lowered-le : (ceilings : List Choice) (q : ℕ)
      → IsNowhereLater (lowered_ceilings history marks failed ceilings q) ceilings
  lowered-le ceilings q p =
      let next : Choice = next_lower history marks failed q (choice_at ceilings q) in
      elim (set_cases ceilings q next p) [
        | inl e ↦ subst (λ (c : Choice). IsNoLater c (choice_at ceilings p)) (sym e)
            (IsNoLater-refl (choice_at ceilings p))
        | inr e ↦ subst (λ (c : Choice). IsNoLater c (choice_at ceilings p)) (sym (e.1))
            (subst (λ (k : ℕ). IsNoLater next (choice_at ceilings k)) (sym (e.0))
            (next_lower-le history marks failed q (choice_at ceilings q)))
      ]

  -- so the line is nowhere later than any of the ceilings
  led-le : (ceilings : List Choice) (entries : List Passed) (line : List Choice)
      → LeadsTo history marks failed ceilings entries line → IsNowhereLater line ceilings
  led-le ceilings [] line e p = subst (λ (l : List Choice). IsNoLater (choice_at l p)
      (choice_at ceilings p)) e (IsNoLater-refl (choice_at ceilings p))
  led-le ceilings (entry ∷ entries) line (r, rest) p =
      IsNoLater-trans (choice_at line p)
      (choice_at (lowered_ceilings history marks failed ceilings entry.at) p)
      (choice_at ceilings p) (led-le (lowered_ceilings history marks failed ceilings entry.at)
      entries line rest p) (lowered-le ceilings entry.at p)

  -- what entries pass over is nowhere later than the ceilings before them
  passed-le : (ceilings : List Choice) (entries : List Passed) (line : List Choice)
      → LeadsTo history marks failed ceilings entries line → (k p : ℕ) (choice : Choice)
      → PassesOver entries k p choice → IsNoLater choice (choice_at ceilings p)
  passed-le ceilings [] line e k p choice (message, at) = absurd (cc)
  passed-le ceilings (entry ∷ entries) line (r, rest) zero p choice (message, at) =
      let is = entry_is entry p choice message at in
      let top : choice
      ≡ choice_at ceilings p = sym (is.1) ∙ r.top ∙ ap (choice_at ceilings) (is.0) in
      subst (IsNoLater choice) top (IsNoLater-refl choice)
  passed-le ceilings (entry ∷ entries) line (r, rest) (suc k) p choice passed =
      IsNoLater-trans choice (choice_at (lowered_ceilings history marks failed ceilings entry.at) p)
      (choice_at ceilings p) (passed-le (lowered_ceilings history marks failed ceilings
      entry.at) entries line rest k p choice passed) (lowered-le ceilings entry.at p)

  -- an entry is of a process that there is
  entry_within : (ceilings : List Choice) (entry : Passed) → IsRight history ceilings entry
      → entry.at < length history
  entry_within ceilings entry r = elim (cases_lt entry.at (length history)) [
    | inl within ↦ within
    | inr past ↦ absurd
        (Contains-past history ceilings entry.at (Recv entry.message) past r.orphan.received)
  ]

  -- the ceiling that an entry passes over is later than what its process is lowered to
  lowered_before : (ceilings : List Choice) (entry : Passed)
      → AreCeilings history marks failed ceilings → IsRight history ceilings entry
      → IsNoLater (choice_at ceilings entry.at)
      (choice_at (lowered_ceilings history marks failed ceilings entry.at) entry.at) → ⊥
  lowered_before ceilings entry c r h =
      let within : entry.at < length history = entry_within ceilings entry r in
      next_lower-before history marks failed entry.at (choice_at ceilings entry.at)
      (orphan_above history ceilings entry.at entry.message r.orphan)
      (subst (IsNoLater (choice_at ceilings entry.at))
      (lowered_at ceilings entry.at (omega (arith, c.length_is))) h)

  -- what entries pass over survives, and is later than the line
  above_from : (ceilings : List Choice) (entries : List Passed) (line : List Choice)
      → AreCeilings history marks failed ceilings
      → LeadsTo history marks failed ceilings entries line → (k p : ℕ) (choice : Choice)
      → PassesOver entries k p choice → IsAbove history marks failed line p choice
  above_from ceilings [] line c e k p choice (message, at) = absurd (cc)
  above_from ceilings (entry ∷ entries) line c (r, rest) zero p choice (message, at) =
      let is = entry_is entry p choice message at in
      let top : choice_at ceilings entry.at ≡ choice = sym r.top ∙ is.1 in
      let here : IsAbove history marks failed line entry.at (choice_at ceilings entry.at) = record {
        process = entry_within ceilings entry r;
        surviving = c.surviving entry.at;
        later = λ h. lowered_before ceilings entry c r
            (IsNoLater-trans (choice_at ceilings entry.at) (choice_at line entry.at)
            (choice_at (lowered_ceilings history marks failed ceilings entry.at) entry.at) h (led-le
            (lowered_ceilings history marks failed ceilings entry.at) entries line rest entry.at));
      } in
      subst (λ (q : ℕ). IsAbove history marks failed line q choice) (is.0)
      (subst (IsAbove history marks failed line entry.at) top here)
  above_from ceilings (entry ∷ entries) line c (r, rest) (suc k) p choice passed =
      above_from (lowered_ceilings history marks failed ceilings entry.at) entries line
      (lowered_are_ceilings history marks failed ceilings entry c r) rest k p choice passed

  -- a surviving choice between the ceilings and the line is passed over once
  once_from : (ceilings : List Choice) (entries : List Passed) (line : List Choice)
      → AreCeilings history marks failed ceilings
      → LeadsTo history marks failed ceilings entries line → (p : ℕ) (choice : Choice)
      → IsAbove history marks failed line p choice → IsNoLater choice (choice_at ceilings p)
      → IsPassedOnce entries p choice
  once_from ceilings [] line c e p choice above upto =
      absurd (above.later (subst (λ (l : List Choice). IsNoLater choice (choice_at l p)) e upto))
  once_from ceilings (entry ∷ entries) line c (r, rest) p choice above upto =
      let next : List Choice = lowered_ceilings history marks failed ceilings entry.at in
      let below : AreCeilings history marks failed next = lowered_are_ceilings history marks failed
      ceilings entry c r in
      elim (cases_eq entry.at p) [
        | inl at ↦ elim (choice_cases choice (choice_at ceilings p)) [
          | inl same ↦
              let top : choice_at ceilings entry.at
              ≡ choice = ap (choice_at ceilings) at ∙ sym same in
              passed_here entry entries p choice at (r.top ∙ top) (λ k passed.
              lowered_before ceilings entry c r
              (subst (λ (d : Choice). IsNoLater d (choice_at next entry.at)) (sym top)
              (subst (λ (q : ℕ). IsNoLater choice (choice_at next q)) (sym at)
              (passed-le next entries line rest k p choice passed))))
          | inr apart ↦
              let lower : choice_at next p
              ≡ next_lower history marks failed p (choice_at ceilings p) =
              subst (λ (q : ℕ). choice_at (lowered_ceilings history marks failed ceilings q) p
              ≡ next_lower history marks failed p (choice_at ceilings p)) (sym at)
              (lowered_at ceilings p (omega (arith, c.length_is, above.process))) in
              let still : IsNoLater choice (choice_at next p) = subst (IsNoLater choice) (sym lower)
              (next_lower_above history marks failed p
              (choice_at ceilings p) choice upto apart above.surviving) in
              passed_later entry entries p choice
              (λ (message, e). apart
              (sym ((entry_is entry p choice message e).1) ∙ r.top ∙ ap (choice_at ceilings)
              at)) (once_from next entries line below rest p choice above still)
        ]
        | inr other ↦
            let still : IsNoLater choice (choice_at next p) = elim (set_cases ceilings entry.at
            (next_lower history marks failed entry.at (choice_at ceilings entry.at)) p) [
              | inl e ↦ subst (IsNoLater choice) (sym e) upto
              | inr e ↦ absurd (other (sym (e.0)))
            ] in
            passed_later entry entries p choice (λ (message, e). other ((entry_is entry p choice
            message e).0)) (once_from next entries line below rest p choice above still)
      ]

  pub chain_once : (entries : List Passed) (line : List Choice) (p : ℕ) (choice : Choice)
      → IsChain history marks failed entries line → IsAbove history marks failed line p choice
      → IsPassedOnce entries p choice
  chain_once entries line p choice chain above =
      let first : List Choice = first_ceilings history marks failed in
      once_from first entries line
      (first_are_ceilings history marks failed) chain.leads p choice above
      (subst (IsNoLater choice) (sym (first_at history marks failed p above.process))
      (latest_choice_above history marks failed p choice above.surviving))

  pub chain_above : (entries : List Passed) (line : List Choice) (k p : ℕ) (choice : Choice)
      → IsChain history marks failed entries line → PassesOver entries k p choice
      → IsAbove history marks failed line p choice
  chain_above entries line k p choice chain passed =
      above_from (first_ceilings history marks failed) entries line
      (first_are_ceilings history marks failed) chain.leads k p choice passed
