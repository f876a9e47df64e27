-- The line has checks alone, and is consistent.
use Rattle.std.proofs.Common.{◌≡◌, List, sym, ap, ◌∙◌, subst}
use Rattle.std.specs.Prelude.{IfSome}
use Rattle.std.specs.Option.{SomeIff}
use Rattle.line_names.specs.declared.choices.Choice.{Choice}
use Rattle.line_tape.specs.History.{Process}
use Rattle.line_tape.specs.Line.{IsConsistent}
use Rattle.line_tape.specs.Rounds.{check_line}
use Rattle.line_cuts.specs.Cuts.{Floor, IsFloor}
use Rattle.line_cuts.specs.Floors.{floor_of_line, IsOfChecks}
use Rattle.line_live.proofs.ForgetLemmas.{of_checks}
use Rattle.line_live.proofs.forgets.floor_of_round.Goals as goal

pub unreachable-requires : goal.unreachable-requires
unreachable-requires c =
    let line : List Choice = c.line_of_checks-line.result in
    let are : IsOfChecks line = subst IsOfChecks (sym c.line_of_checks-line.ensures)
    (of_checks c.checks.result.now) in
    subst (λ o. SomeIff o (IsOfChecks line)
    (floor_of_line c.catalogue-catalogue.result.now.processes line c.last_round.result))
    c.in-None.is c.in_ok-floor.ensures.value are

pub returns-clause-floor : goal.returns-clause-floor
returns-clause-floor c =
    let line : List Choice = c.line_of_checks-line.result in
    let given : List Process = c.catalogue-catalogue.result.now.processes in
    let whole : List Process = c.args.world.now.history in
    let line_is : line ≡ check_line c.args.round.now.checks = c.line_of_checks-line.ensures ∙ ap
    check_line c.checks.ensures.value in
    let found : IsConsistent given line
    → IsFloor given c.in-Some.floor = subst (λ o. IfSome o (λ (floor : Floor). IsConsistent
    given line → IsFloor given floor)) c.in-Some.is c.in_ok-floor.ensures.floor in
    let found_there : IsConsistent whole line
    → IsFloor whole c.in-Some.floor = subst (λ (h : List Process). IsConsistent h line
    → IsFloor h c.in-Some.floor) c.catalogue-catalogue.ensures.processes found in
    found_there (subst (IsConsistent whole) (sym line_is) c.requires.consistent)
