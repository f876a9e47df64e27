-- A plan of what is kept, brought back, is a plan of the whole.
use Rattle.std.proofs.Common.{◌≡◌, Bool, List, length, map, sym, ap, ◌∙◌, subst, arith}
use Rattle.std.proofs.lemmas.List.{length-map}
use Rattle.line_names.specs.declared.choices.Choice.{Choice}
use Rattle.line_names.specs.declared.certificates.Passed.{Passed}
use Rattle.line_tape.specs.Chain.{IsChain}
use Rattle.line_tape.specs.History.{Process}
use Rattle.line_tape.specs.Survival.{IsLatest}
use Rattle.line_tape.specs.Transit.{in_transit}
use Rattle.line_tape.specs.Views.{MarksView}
use Rattle.line_plan.specs.declared.plans.Plan.{Plan}
use Rattle.line_cuts.specs.Cuts.{Floor, cut_history, cut_marks, whole_entry, whole_line, whole_name}
use Rattle.line_cuts.proofs.AgreedChains.{chain_whole}
use Rattle.line_cuts.proofs.AgreedLatest.{cut_again, latest_whole, whole_from_floor}
use Rattle.line_cuts.proofs.AgreedTransit.{transit_cut}
use Rattle.line_cuts.proofs.SameLemmas.{chain_same, latest_line_same}
use Rattle.line_posts.specs.Kept.{IsBroughtBack, IsLeftAt, IsPlanned}

module _ (floor : Floor) (history : List Process) (marks : MarksView) (kept : List Process)
    (kept_marks : MarksView) (left : IsLeftAt floor history marks kept kept_marks)
    (failed : List Bool) (plan whole : Plan) (is : IsPlanned kept kept_marks failed plan)
    (brought : IsBroughtBack floor plan whole) where
  abbrev past : List Process
  past = cut_history floor history

  abbrev marked_past : MarksView
  marked_past = cut_marks floor marks

  latest : IsLatest past marked_past failed plan.line
  latest = latest_line_same past kept_marks marked_past failed plan.line left.left_marks
      (subst (λ (h : List Process). IsLatest h kept_marks failed plan.line) left.left is.latest)

  abbrev line : List Choice
  line = whole_line floor plan.line

  chain_there : IsChain past marked_past failed plan.certificate.items plan.line
  chain_there =
      chain_same past kept_marks marked_past failed left.left_marks plan.certificate.items plan.line
      (subst (λ (h : List Process). IsChain h kept_marks failed plan.certificate.items plan.line)
      left.left is.chain)

  replays_are : in_transit history line ≡ map (whole_name floor) plan.replays.items
  replays_are =
      transit_cut floor history line (whole_from_floor floor history marks failed left.agrees
      left.is left.stays plan.line latest) left.is
      ∙ ap (λ (l : List Choice). map (whole_name floor) (in_transit past l))
      (cut_again floor history marks failed left.agrees left.is left.stays plan.line latest)
      ∙ ap (λ (h : List Process). map (whole_name floor) (in_transit h plan.line)) (sym left.left)
      ∙ ap (map (whole_name floor)) (sym is.replays)

  pub planned_whole : IsPlanned history marks failed whole
  planned_whole = record {
    latest = subst (IsLatest history marks failed) (sym brought.line)
        (latest_whole floor history marks failed left.agrees left.is left.stays plan.line latest);
    chain =
        subst (λ (entries : List Passed). IsChain history marks failed entries whole.line)
        (sym brought.certificate)
        (subst (IsChain history marks failed (map (whole_entry floor) plan.certificate.items))
        (sym brought.line)
        (chain_whole floor history marks failed left.agrees left.is left.stays
        plan.certificate.items plan.line chain_there));
    some_sweep = omega (arith, is.some_sweep, brought.sweeps);
    few_sweeps = omega (
      arith,
      is.few_sweeps,
      brought.sweeps,
      plan.certificate.ok.0,
      whole.certificate.ok.0,
      ap
          (λ (es : List Passed). length es) brought.certificate,
      length-map plan.certificate.items
          (whole_entry floor),
    );
    replays = brought.replays ∙ sym replays_are ∙ ap (in_transit history) (sym brought.line);
  }
