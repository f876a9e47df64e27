use Rattle.std.proofs.Common.{◌≡◌, Decides, ap, refl}
use Rattle.std.proofs.lemmas.Slice.Eq.{slice_eq-Decides}
use Rattle.std.proofs.lemmas.Bool.{false≢true, eqb-true, eq-eqb}
use Rattle.line_names.specs.declared.choices.Choice.{Choice}
use Rattle.line_names.specs.declared.choices.Choice.TheVariants.{Check, Now}
use Rattle.line_names.specs.contracts.choices.ChoicePartialEq.TheImpl.{eq-value}
use Rattle.line_check.proofs.checker.is_same.Goals as goal

-- the derived test of two choices
choice-Decides : (a b : Choice) → Decides (eq-value.it a b) (a ≡ b)
choice-Decides (Check a) (Check b) = (λ h. ap Check (eqb-true a b h), λ e. eq-eqb a b cc)
choice-Decides (Check a) Now = (λ h. absurd (false≢true h), λ e. cc)
choice-Decides Now (Check b) = (λ h. absurd (false≢true h), λ e. cc)
choice-Decides Now Now = (λ h. refl, λ e. refl)

pub returns : goal.returns
returns c = slice_eq-Decides choice-Decides c.args.a.now c.args.b.now c.eq.result c.eq.ensures
