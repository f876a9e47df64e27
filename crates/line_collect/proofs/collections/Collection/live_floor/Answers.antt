-- The line has checks alone, is consistent, and its checks survive.
use Rattle.std.proofs.Common.{◌≡◌, ℕ, List, Bool, length, sym, subst}
use Rattle.std.specs.Prelude.{IfSome}
use Rattle.std.specs.Option.{SomeIff}
use Rattle.line_text.specs.Answers.{IsEverybody}
use Rattle.line_collect.specs.Collections.{CollectionView, IsPlanOf}
use Rattle.line_collect.specs.Lives.{IsFloorOfLive}
use Rattle.line_cuts.specs.Cuts.{Floor, FloorSurvives, IsFloor}
use Rattle.line_cuts.specs.Floors.{floor_of_line, IsOfChecks}
use Rattle.line_live.proofs.LiveFloors.{all_checks, live_survives}
use Rattle.line_names.specs.declared.choices.Choice.{Choice}
use Rattle.line_tape.specs.Line.{IsConsistent}
use Rattle.line_tape.specs.Survival.{IsLatest}
use Rattle.line_collect.proofs.collections.Collection.live_floor.Goals as goal

pub unreachable-requires : goal.unreachable-requires
unreachable-requires c =
    let view : CollectionView = record
    { history = c.self.inside.catalogue.processes; marks = c.self.inside.catalogue.marks } in
    let failed : List Bool = c.everybody-failed.result in
    let line : List Choice = c.in-Ok.plan.line in
    let is : IsPlanOf view failed c.in-Ok.plan = subst (λ (v : CollectionView). IsPlanOf v failed
    c.in-Ok.plan) (sym c.self.view_is) c.in-Ok.ensures in
    let every : IsEverybody (length view.history) failed = subst
    (λ (n : ℕ). IsEverybody n failed) c.n.ensures.value c.everybody-failed.ensures in
    let are : IsOfChecks line = all_checks view.history view.marks failed line
    (λ p within. (every p).1 within) is.latest in
    subst (λ o. SomeIff o (IsOfChecks line) (floor_of_line view.history line 0)) c.in-None.is
    c.in_ok-floor-in-Ok.ensures.value are

found : (view : CollectionView) (failed : List Bool) (line : List Choice) (floor : Floor)
    (every : IsEverybody (length view.history) failed)
    → IsLatest view.history view.marks failed line → floor ≡ floor_of_line view.history line 0
    → IsFloor view.history floor → IsFloorOfLive view floor
found view failed line floor every latest value is = record {
  failed = failed;
  all = every;
  line = line;
  latest = latest;
  value = value;
  is = is;
  stays = subst (λ (f : Floor). FloorSurvives view.history view.marks f) (sym value)
      (live_survives view.history view.marks failed line (λ p within. (every p).1 within) latest 0);
}

pub returns-in-Some : goal.returns-in-Some
returns-in-Some c =
    let view : CollectionView = record
    { history = c.self.inside.catalogue.processes; marks = c.self.inside.catalogue.marks } in
    let failed : List Bool = c.everybody-failed.result in
    let line : List Choice = c.in-Ok.plan.line in
    let floor : Floor = c.in-Some.floor in
    let is : IsPlanOf view failed c.in-Ok.plan = subst (λ (v : CollectionView). IsPlanOf v failed
    c.in-Ok.plan) (sym c.self.view_is) c.in-Ok.ensures in
    let every : IsEverybody (length view.history) failed = subst
    (λ (n : ℕ). IsEverybody n failed) c.n.ensures.value c.everybody-failed.ensures in
    let told : IsOfChecks line
    × (floor ≡ floor_of_line view.history line 0) = subst (λ o. SomeIff o (IsOfChecks line)
    (floor_of_line view.history line 0)) c.in-Some.is c.in_ok-floor-in-Ok.ensures.value in
    let there : IsConsistent view.history line
    → IsFloor view.history floor = subst
    (λ o. IfSome o (λ (f : Floor). IsConsistent view.history line → IsFloor view.history f))
    c.in-Some.is c.in_ok-floor-in-Ok.ensures.floor in
    subst (λ (v : CollectionView). IsFloorOfLive v floor) c.self.view_is (found view failed line
    floor every is.latest told.1 (there is.latest.recoverable.consistent))
