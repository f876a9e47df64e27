-- The line has checks alone, is consistent, and its checks survive.
use Rattle.std.proofs.Common.{◌≡◌, ℕ, List, Bool, length, sym, subst}
use Rattle.std.specs.Prelude.{IfSome}
use Rattle.std.specs.Option.{SomeIff}
use Rattle.line_cuts.specs.Cuts.{Floor, FloorSurvives, IsFloor}
use Rattle.line_cuts.specs.Floors.{floor_of_line, IsOfChecks}
use Rattle.line_names.specs.declared.choices.Choice.{Choice}
use Rattle.line_tape.specs.Line.{IsConsistent}
use Rattle.line_posts.specs.declared.forgetting.TheConstants.{ALL_ROUNDS}
use Rattle.line_posts.specs.Forgotten.{HaveAllFailed}
use Rattle.line_posts.proofs.ForgetLemmas.{all_checks, live_survives}
use Rattle.line_posts.proofs.forgetting.live_floor.Goals as goal

pub unreachable-requires : goal.unreachable-requires
unreachable-requires c =
    let K = c.args.catalogue.now in
    let failed : List Bool = c.everyone-failed.result in
    let line : List Choice = c.in-Ok.plan.line in
    let every : HaveAllFailed (length K.processes) failed = subst
    (λ (n : ℕ). HaveAllFailed n failed) c.n.ensures.value c.everyone-failed.ensures in
    let are : IsOfChecks line = all_checks K.processes K.marks failed line every
    c.in-Ok.ensures.latest in
    subst (λ o. SomeIff o (IsOfChecks line) (floor_of_line K.processes line ALL_ROUNDS))
    c.in-None.is c.in_ok-floor-in-Ok.ensures.value are

pub returns-in-Some : goal.returns-in-Some
returns-in-Some c =
    let K = c.args.catalogue.now in
    let failed : List Bool = c.everyone-failed.result in
    let line : List Choice = c.in-Ok.plan.line in
    let floor : Floor = c.in-Some.floor in
    let every : HaveAllFailed (length K.processes) failed = subst
    (λ (n : ℕ). HaveAllFailed n failed) c.n.ensures.value c.everyone-failed.ensures in
    let told : IsOfChecks line
    × (floor ≡ floor_of_line K.processes line ALL_ROUNDS) = subst
    (λ o. SomeIff o (IsOfChecks line) (floor_of_line K.processes line ALL_ROUNDS)) c.in-Some.is
    c.in_ok-floor-in-Ok.ensures.value in
    let there : IsConsistent K.processes line
    → IsFloor K.processes floor = subst (λ o. IfSome o (λ (f : Floor). IsConsistent K.processes
    line → IsFloor K.processes f)) c.in-Some.is c.in_ok-floor-in-Ok.ensures.floor in
    record {
      live = record {
        failed = failed;
        all = every;
        line = line;
        latest = c.in-Ok.ensures.latest;
        value = told.1;
      };
      is = there c.in-Ok.ensures.latest.recoverable.consistent;
      stays = subst (λ (f : Floor). FloorSurvives K.processes K.marks f) (sym told.1)
          (live_survives K.processes K.marks failed line every c.in-Ok.ensures.latest ALL_ROUNDS);
    }
