use Rattle.std.proofs.Common.{◌≡◌, Bool, true, false, List, [], inl, sym, ap, ◌∙◌, subst, arith}
use Rattle.std.proofs.lemmas.Bool.{false≢true}
use Rattle.std.proofs.lemmas.List.{get_or-replicate}
use Rattle.line_names.specs.declared.limits.TheConstants.{MOST_PROCESSES}
use Rattle.line_names.specs.declared.certificates.Passed.{Passed}
use Rattle.line_names.specs.declared.choices.Choice.{Choice}
use Rattle.line_names.specs.Sets.{is_member}
use Rattle.line_tape.specs.Chain.{IsLed}
use Rattle.line_tape.specs.Height.{height}
use Rattle.line_tape.specs.Views.{MarksView}
use Rattle.line_laws.proofs.ChainLemmas.{latest_from_chain}
use Rattle.line_tape.proofs.LineLemmas.{IsConsistent-below}
use Rattle.line_tape.specs.History.{Process}
use Rattle.line_laws.proofs.LedLemmas.{height-first, IsLine-led}
use Rattle.line_plan.specs.Sweeps.{sweeps_with_entries}
use Rattle.line_plan.proofs.planner.plan.Goals as goal

pub overflow_add-sweeps : goal.overflow_add-sweeps
overflow_add-sweeps c =
    omega (
      arith,
      height-first c.args.catalogue.now.processes c.args.catalogue.now.marks
          c.args.failed.now c.n-n.ensures.limits,
      c.n-n.ensures.limits.few,
    )

pub returns-then-not-lowered-clause-latest : goal.returns-then-not-lowered-clause-latest
returns-then-not-lowered-clause-latest c =
    latest_from_chain c.args.catalogue.now.processes c.args.catalogue.now.marks c.args.failed.now
    c.sweep.new.certificate.items c.sweep.new.line (record {
      leads = c.in_ok-lowered.ensures.led;
      consistent = IsConsistent-below c.args.catalogue.now.processes c.sweep.new.line
          (c.in_ok-lowered.ensures.none c.if-not-lowered.true);
    })

pub returns-then-not-lowered-clause-chain : goal.returns-then-not-lowered-clause-chain
returns-then-not-lowered-clause-chain c = record {
  leads = c.in_ok-lowered.ensures.led;
  consistent = IsConsistent-below c.args.catalogue.now.processes c.sweep.new.line
      (c.in_ok-lowered.ensures.none c.if-not-lowered.true);
}

pub returns-then-not-lowered-clause-sweeps : goal.returns-then-not-lowered-clause-sweeps
returns-then-not-lowered-clause-sweeps c =
    let same = ap (λ (es : List Passed). sweeps_with_entries es)
    (c.in_ok-lowered.ensures.same c.if-not-lowered.true) in
    omega (arith, same, c.sweeps.invariant.swept)

pub transit-requires : goal.transit-requires
transit-requires c =
    IsLine-led c.args.catalogue.now.processes c.args.catalogue.now.marks c.args.failed.now
    c.sweep.new.certificate.items c.sweep.new.line c.in_ok-lowered.ensures.led

pub sents_before-requires : goal.sents_before-requires
sents_before-requires c =
    IsLine-led c.args.catalogue.now.processes c.args.catalogue.now.marks c.args.failed.now []
    c.first_ceilings-line.result (sym c.first_ceilings-line.ensures)

pub sweeps-init : goal.sweeps-init
sweeps-init c =
    let history : List Process = c.args.catalogue.now.processes in
    let marks : MarksView = c.args.catalogue.now.marks in
    let failed : List Bool = c.args.failed.now in
    let line : List Choice = c.first_ceilings-line.result in
    record {
      led = subst (λ (es : List Passed). IsLed history marks failed es line)
          (sym c.new-certificate.ensures.items) (sym c.first_ceilings-line.ensures);
      sent = c.in_ok-sents_before.ensures;
      clean = λ q within none.
          let all : is_member c.everyone.result q
          ≡ true = ap (λ set. is_member set q) c.everyone.ensures ∙ get_or-replicate
          MOST_PROCESSES q true false (omega (arith, within, c.n-n.ensures.limits.few)) in
          absurd (false≢true (sym none ∙ all));
      due = λ q within there. inl c.new-certificate.ensures.items;
      swept = ap (λ (es : List Passed). sweeps_with_entries es) c.new-certificate.ensures.items;
      few = omega arith;
      paid = omega
          (arith, c.new-certificate.ensures.len, ap (height history) c.first_ceilings-line.ensures);
    }
