-- The line has checks alone, is consistent, and its checks survive.
use Rattle.std.proofs.Common.{◌≡◌, ◌<◌, ℕ, List, length, true, sym, ap, ◌∙◌, subst, arith}
use Rattle.std.specs.Prelude.{IfSome}
use Rattle.std.specs.Option.{SomeIff}
use Rattle.line_names.specs.declared.choices.Choice.{Choice}
use Rattle.line_names.specs.Sets.{is_member}
use Rattle.line_tape.specs.History.{Process}
use Rattle.line_tape.specs.Line.{IsConsistent, IsLine}
use Rattle.line_cuts.specs.Cuts.{Floor, FloorSurvives, IsFloor}
use Rattle.line_moves.proofs.LineFacts.{IsLine-latest}
use Rattle.line_world.specs.Machine.{Machine}
use Rattle.line_cuts.specs.Floors.{floor_of_line, IsOfChecks}
use Rattle.line_live.proofs.LiveFloors.{all_checks, live_survives}
use Rattle.line_live.proofs.live_floors.live_floor.Goals as goal

pub floor_at-requires : goal.floor_at-requires
floor_at-requires c =
    let machine : Machine = c.args.world.now in
    subst (λ (h : List Process). IsLine h c.in-Ok.plan.line)
    (sym c.catalogue-catalogue.ensures.processes)
    (IsLine-latest machine.history machine.marks c.everyone-failed.result c.in-Ok.plan.line
    c.in-Ok.ensures.plan.latest)

pub unreachable-requires : goal.unreachable-requires
unreachable-requires c =
    let machine : Machine = c.args.world.now in
    let line : List Choice = c.in-Ok.plan.line in
    let given : List Process = c.catalogue-catalogue.result.now.processes in
    let size : length given ≡ length machine.history = ap
    (λ (h : List Process). length h) c.catalogue-catalogue.ensures.processes in
    let all : (p : ℕ) → p < length machine.history → is_member c.everyone-failed.result p ≡ true = λ
    p within. c.everyone-failed.ensures p (omega (arith, within, c.n.ensures.value, size)) in
    let are : IsOfChecks line = all_checks machine.history machine.marks c.everyone-failed.result
    line all c.in-Ok.ensures.plan.latest in
    subst (λ o. SomeIff o (IsOfChecks line) (floor_of_line given line c.last_round.result))
    c.in-None.is c.in_ok-floor-in-Ok.ensures.value are

pub returns-in-Some : goal.returns-in-Some
returns-in-Some c =
    let machine : Machine = c.args.world.now in
    let line : List Choice = c.in-Ok.plan.line in
    let floor : Floor = c.in-Some.floor in
    let given : List Process = c.catalogue-catalogue.result.now.processes in
    let size : length given ≡ length machine.history = ap
    (λ (h : List Process). length h) c.catalogue-catalogue.ensures.processes in
    let all : (p : ℕ) → p < length machine.history → is_member c.everyone-failed.result p ≡ true = λ
    p within. c.everyone-failed.ensures p (omega (arith, within, c.n.ensures.value, size)) in
    let told : IsOfChecks line
    × (floor ≡ floor_of_line given line c.last_round.result) = subst
    (λ o. SomeIff o (IsOfChecks line) (floor_of_line given line c.last_round.result))
    c.in-Some.is c.in_ok-floor-in-Ok.ensures.value in
    let value : floor ≡ floor_of_line machine.history line machine.last_round =
    told.1 ∙ ap (λ (h : List Process). floor_of_line h line c.last_round.result)
    c.catalogue-catalogue.ensures.processes ∙ ap
    (floor_of_line machine.history line) c.last_round.ensures.value in
    let found : IsConsistent given line
    → IsFloor given floor = subst (λ o. IfSome o (λ (f : Floor). IsConsistent given line
    → IsFloor given f)) c.in-Some.is c.in_ok-floor-in-Ok.ensures.floor in
    let found_there : IsConsistent machine.history line
    → IsFloor machine.history floor = subst (λ (h : List Process). IsConsistent h line
    → IsFloor h floor) c.catalogue-catalogue.ensures.processes found in
    record {
      failed = c.everyone-failed.result;
      all = all;
      line = line;
      latest = c.in-Ok.ensures.plan.latest;
      value = value;
      is = found_there c.in-Ok.ensures.plan.latest.recoverable.consistent;
      stays = subst (λ (f : Floor). FloorSurvives machine.history machine.marks f) (sym value)
          (live_survives machine.history machine.marks c.everyone-failed.result line all
          c.in-Ok.ensures.plan.latest machine.last_round);
    }
