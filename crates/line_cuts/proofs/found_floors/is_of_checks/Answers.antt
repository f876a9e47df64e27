-- The choices looked at grow by one, up to the whole line.
use Rattle.std.proofs.Common.{◌≡◌, ◌≢◌, ◌<◌, ◌+◌, ℕ, List, length, get_or, take, refl, ◌∙◌, subst}
use Rattle.std.proofs.Common.{arith}
use Rattle.std.proofs.lemmas.List.{take_all}
use Rattle.std.proofs.lemmas.List.Elements.{All-more}
use Rattle.line_names.specs.declared.choices.Choice.{Choice}
use Rattle.line_names.specs.declared.choices.Choice.TheVariants.{Check as AtCheck, Now}
use Rattle.line_cuts.specs.Floors.{IsOfChecks}
use Rattle.line_cuts.proofs.found_floors.is_of_checks.Goals as goal

one_more : (xs : List Choice) (i k : ℕ) (d : Choice) → i < length xs → get_or xs i d ≡ AtCheck k
    → IsOfChecks (take i xs) → IsOfChecks (take (i + 1) xs)
one_more xs i k d within is so_far =
    All-more (λ choice. choice ≢ Now) xs i d within so_far (λ e. cc (is, e))

pub loop-choice-preserved : goal.loop-choice-preserved
loop-choice-preserved c = one_more c.choices-choices.result.now c.loop-choice.choice-index
    c.in-Check.field-0 _ (omega arith) c.in-Check.is c.loop-choice.invariant

pub returns : goal.returns
returns c = (
  λ h. subst IsOfChecks (take_all c.loop-choice.choice-index c.choices-choices.result.now
      (omega arith) ∙ c.choices-choices.ensures.value) c.loop-choice.invariant,
  λ h. refl,
)
