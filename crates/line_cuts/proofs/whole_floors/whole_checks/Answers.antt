-- A sum that is too great is one of the floor's checks.
use Rattle.std.proofs.Common.{◌≡◌, ◌-◌, ℕ, List, map, ap, ◌∙◌}
use Rattle.std.proofs.lemmas.Result.{IfOk-weaker}
use Rattle.line_cuts.specs.Cuts.{Floor}
use Rattle.line_cuts.proofs.WholeLemmas.{check_none}
use Rattle.line_cuts.proofs.whole_floors.whole_checks.Goals as goal

pub returns-clause-none : goal.returns-clause-none
returns-clause-none c =
    let floor : Floor = c.args.floor.now in
    let lost : c.as_slice.result.now ≡ map (λ c. c - 1) floor.checks = c.as_slice.ensures.value ∙
    c.in_ok-lost.ensures ∙ ap (λ (xs : List ℕ). map (λ c. c - 1) xs) c.checks.ensures in
    IfOk-weaker c.sums.result _ _ (λ checks h e. check_none floor c.args.later.now _ _
    c.checks-checks.ensures lost (h e)) c.sums.ensures.none
