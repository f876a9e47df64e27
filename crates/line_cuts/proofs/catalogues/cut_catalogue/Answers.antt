-- What is left of a catalogue agrees, and its marks are on checks that are left: nothing else than
-- memory is refused.
use Rattle.std.proofs.Common.{◌≡◌, List, length, Err, refl, sym, ap, ◌∙◌, subst, arith}
use Rattle.std.specs.Prelude.{IsErrOf}
use Rattle.line_tape.specs.History.{Process}
use Rattle.line_tape.specs.Views.{MarksView}
use Rattle.line_catalogue.specs.declared.refusals.CatalogueError.TheVariants.{NoSuchCheck}
use Rattle.line_catalogue.specs.declared.refusals.CatalogueError.TheVariants.{NamesDisagree}
use Rattle.line_catalogue.specs.Agreement.{Agrees}
use Rattle.line_catalogue.specs.Damage.{AreOnChecks}
use Rattle.line_cuts.specs.Cuts.{Floor, cut_history, cut_marks}
use Rattle.line_cuts.specs.Marks.{AreSameMarks}
use Rattle.line_cuts.proofs.AgreementCuts.{agrees_cut}
use Rattle.line_cuts.proofs.MarkedCuts.{on_checks_cut}
use Rattle.line_cuts.proofs.catalogues.cut_catalogue.Goals as goal

pub cut_marks-requires : goal.cut_marks-requires
cut_marks-requires c = omega (
  arith,
  c.marks.ensures.count,
  ap
      (λ (m : MarksView). length m.damaged) c.marks.ensures.value,
  c.n-n.ensures.limits.few,
)

-- the marks that are left are on checks that are left
left_on_checks : (floor : Floor) (whole cut : List Process) (marks given new : MarksView)
    → AreOnChecks whole marks → given ≡ marks → cut ≡ cut_history floor whole
    → AreSameMarks new (cut_marks floor given) → AreOnChecks cut new
left_on_checks floor whole cut marks given new on given_is cut_is same =
    subst (λ (h : List Process). AreOnChecks h new) (sym cut_is)
    (on_checks_cut floor whole marks new on
    (subst (λ (m : MarksView). AreSameMarks new (cut_marks floor m)) given_is same))

pub unreachable-requires : goal.unreachable-requires
unreachable-requires c =
    let floor : Floor = c.args.floor.now in
    let whole : List Process = c.args.catalogue.now.processes in
    let on : AreOnChecks c.in_ok-history.history.processes c.in_ok-marks.marks =
    left_on_checks floor whole c.in_ok-history.history.processes c.args.catalogue.now.marks
    c.marks.result.now c.in_ok-marks.marks c.marks.ensures.exist c.marks.ensures.value
    (c.in_ok-history.ensures ∙ ap (cut_history floor) c.history.ensures.processes)
    c.in_ok-marks.ensures in
    let refused : IsErrOf c.of.result NoSuchCheck = subst (λ r. IsErrOf r NoSuchCheck)
    (sym (c.in-Err-NoSuchCheck.is ∙ ap Err c.in-Err-NoSuchCheck.field-0-is)) refl in
    c.of.ensures.check.0 refused on

pub unreachable-requires-in-Err-NamesDisagree : goal.unreachable-requires-in-Err-NamesDisagree
unreachable-requires-in-Err-NamesDisagree c =
    let floor : Floor = c.args.floor.now in
    let cut_is : c.in_ok-history.history.processes
    ≡ cut_history floor c.args.catalogue.now.processes =
    c.in_ok-history.ensures ∙ ap (cut_history floor) c.history.ensures.processes in
    let agrees : Agrees c.in_ok-history.history.processes = subst Agrees (sym cut_is)
    (agrees_cut floor c.args.catalogue.now.processes c.history.ensures.agrees) in
    let refused : IsErrOf c.of.result NamesDisagree = subst (λ r. IsErrOf r NamesDisagree)
    (sym (c.in-Err-NamesDisagree.is ∙ ap Err c.in-Err-NamesDisagree.field-0-is)) refl in
    (c.of.ensures.names.0 refused).1 agrees
