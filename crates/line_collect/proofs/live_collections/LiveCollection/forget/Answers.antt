-- Both floors are as one, and there are numbers for it.
use Rattle.std.proofs.Common.{◌≡◌, subst}
use Rattle.std.specs.Prelude.{IfSome}
use Rattle.line_collect.specs.Lives.{ForgetsReports, LiveCollectionView}
use Rattle.line_collect.proofs.CallLemmas.{forgotten}
use Rattle.line_collect.proofs.ToldLemmas.{forgets_told}
use Rattle.line_cuts.specs.Cuts.{Floor, whole_floor}
use Rattle.line_collect.proofs.live_collections.LiveCollection.forget.Goals as goal

pub invariant_of-self : goal.invariant_of-self
invariant_of-self c =
    let live : LiveCollectionView = record
    { floor = c.self.inside.floor; kept = c.self.inside.kept } in
    let later : Floor = c.in_ok-later.later in
    let value : c.in-Some.floor ≡ whole_floor live.floor later = subst (λ o. IfSome o (λ (whole :
    Floor). whole ≡ whole_floor live.floor later)) c.in-Some.is c.in_ok-floor.ensures.value in
    forgets_told live c.self.invariant later c.in-Some.floor c.in_ok-kept.kept
    (c.has_numbers.ensures.yes c.if-not-has_numbers.false) value c.in_ok-kept.ensures.history

pub returns-clause-done : goal.returns-clause-done
returns-clause-done c = λ _.
    let live : LiveCollectionView = record
    { floor = c.self.inside.floor; kept = c.self.inside.kept } in
    let later : Floor = c.in_ok-later.later in
    let value : c.in-Some.floor ≡ whole_floor live.floor later = subst (λ o. IfSome o (λ (whole :
    Floor). whole ≡ whole_floor live.floor later)) c.in-Some.is c.in_ok-floor.ensures.value in
    subst (λ (l : LiveCollectionView). ForgetsReports l
    (record { floor = c.in-Some.floor; kept = c.in_ok-kept.kept })) c.self.view_is
    (forgotten live later c.in-Some.floor c.in_ok-kept.kept c.in_ok-later.ensures
    (c.has_numbers.ensures.yes c.if-not-has_numbers.false) value c.in_ok-kept.ensures.history
    c.in_ok-kept.ensures.marks)
