-- The order of marks decides nothing.
use Rattle.std.proofs.Common.{◌≡◌, ℕ, zero, suc, ◌-◌, Bool, not, cond, List, [], ◌∷◌, length, map}
use Rattle.std.proofs.Common.{Option, refl, sym, ap, ◌∙◌, subst}
use Rattle.std.specs.Prelude.{◌&&◌, nat_le, IsTrue}
use Rattle.std.specs.List.{range_with_len}
use Rattle.line_names.specs.declared.certificates.Passed.{Passed}
use Rattle.line_names.specs.declared.choices.Choice.{Choice}
use Rattle.line_names.specs.declared.choices.Choice.TheVariants.{Check as AtCheck, Now}
use Rattle.line_names.specs.Lines.{choice_at}
use Rattle.line_names.specs.Sets.{is_member}
use Rattle.line_tape.specs.Chain.{latest_check, latest_choice, next_lower, first_ceilings}
use Rattle.line_tape.specs.Chain.{lowered_ceilings, LeadsTo, IsChain}
use Rattle.line_tape.specs.Event.{checks}
use Rattle.line_tape.specs.History.{Process, tape_at}
use Rattle.line_tape.specs.Survival.{survives, is_allowed, is_damaged, IsRecoverable, IsLatest}
use Rattle.line_tape.specs.Views.{MarksView, bar_at}
use Rattle.std.specs.Prelude.{slice_set, slice_index_or, None}
use Rattle.line_cuts.specs.Marks.{AreSameMarks}

latest_same : (f g : Choice → Bool) → ((c : Choice) → f c ≡ g c) → (n : ℕ)
    → latest_check f n ≡ latest_check g n
latest_same f g same zero = refl
latest_same f g same (suc n) =
    ap (λ (b : Bool). cond b (AtCheck (suc n)) (latest_check f n)) (same (AtCheck (suc n)))
    ∙ ap (λ (c : Choice). cond (g (AtCheck (suc n))) (AtCheck (suc n)) c) (latest_same f g same n)

map_same : (f g : ℕ → Choice) → ((p : ℕ) → f p ≡ g p) → (ps : List ℕ) → map f ps ≡ map g ps
map_same f g same [] = refl
map_same f g same (p ∷ ps) = ap (λ (c : Choice). c ∷ map f ps) (same p) ∙ ap
    (λ (cs : List Choice). g p ∷ cs) (map_same f g same ps)

pub swapped : (a b : MarksView) → AreSameMarks a b → AreSameMarks b a
swapped a b same =
    record { count = sym same.count; bars = sym same.bars; damaged = λ p c. sym (same.damaged p c) }

module _ (history : List Process) (a b : MarksView) (failed : List Bool)
    (same : AreSameMarks a b) where
  bar_same : (p : ℕ) → bar_at a p ≡ bar_at b p
  bar_same p = ap (λ (bars : List (Option ℕ)). slice_index_or bars p None) same.bars

  pub survives_same : (p : ℕ) (choice : Choice)
      → survives history a failed p choice ≡ survives history b failed p choice
  survives_same p (AtCheck zero) = refl
  survives_same p (AtCheck (suc c)) =
      ap (λ (d : Bool). nat_le (suc c) (checks (tape_at history p)) && not d
      && is_allowed (bar_at a p) (AtCheck (suc c))) (same.damaged p (suc c))
      ∙ ap (λ (bar : Option ℕ). nat_le (suc c) (checks (tape_at history p))
      && not (is_damaged b p (suc c)) && is_allowed bar (AtCheck (suc c))) (bar_same p)
  survives_same p Now =
      ap (λ (bar : Option ℕ). not (is_member failed p) && is_allowed bar Now) (bar_same p)

  pub recoverable_same : (line : List Choice) → IsRecoverable history a failed line
      → IsRecoverable history b failed line
  recoverable_same line is = record {
    length_is = is.length_is;
    surviving = λ p. subst IsTrue (survives_same p (choice_at line p)) (is.surviving p);
    consistent = is.consistent;
  }

  next_same : (p : ℕ) (choice : Choice)
      → next_lower history a failed p choice ≡ next_lower history b failed p choice
  next_same p (AtCheck c) = latest_same (survives history a failed p) (survives history b failed p)
      (survives_same p) (c - 1)
  next_same p Now = latest_same (survives history a failed p) (survives history b failed p)
      (survives_same p) (checks (tape_at history p))

  choice_same : (p : ℕ) → latest_choice history a failed p ≡ latest_choice history b failed p
  choice_same p =
      ap (λ (now : Bool). cond now Now (latest_check (survives history a failed p)
      (checks (tape_at history p)))) (survives_same p Now)
      ∙ ap (λ (c : Choice). cond (survives history b failed p Now) Now c) (next_same p Now)

  leads_same : (ceilings : List Choice) (entries : List Passed) (line : List Choice) → LeadsTo
      history a failed ceilings entries line → LeadsTo history b failed ceilings entries line
  leads_same ceilings [] line leads = leads
  leads_same ceilings (entry ∷ entries) line (right, rest) = (
    right,
    subst (λ (c : List Choice). LeadsTo history b failed c entries line)
        (ap (λ (c : Choice). slice_set ceilings entry.at c)
        (next_same entry.at (choice_at ceilings entry.at)))
        (leads_same (lowered_ceilings history a failed ceilings entry.at) entries line rest),
  )

  pub chain_same : (entries : List Passed) (line : List Choice)
      → IsChain history a failed entries line → IsChain history b failed entries line
  chain_same entries line chain = record {
    leads = subst (λ (c : List Choice). LeadsTo history b failed c entries line)
        (map_same (latest_choice history a failed) (latest_choice history b failed) choice_same
        (range_with_len 0 (length history)))
        (leads_same (first_ceilings history a failed) entries line chain.leads);
    consistent = chain.consistent;
  }

pub latest_line_same : (history : List Process) (a b : MarksView) (failed : List Bool) (line : List
    Choice) → AreSameMarks a b → IsLatest history a failed line → IsLatest history b failed line
latest_line_same history a b failed line same is = record {
  recoverable = recoverable_same history a b failed same line is.recoverable;
  latest =
      λ other o. is.latest other (recoverable_same history b a failed (swapped a b same) other o);
}
