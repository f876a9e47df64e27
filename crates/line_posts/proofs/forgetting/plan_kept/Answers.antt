-- A plan of what is kept is one of the whole.
use Rattle.std.proofs.Common.{List, subst, sym}
use Rattle.std.specs.Prelude.{Option}
use Rattle.line_tape.specs.History.{Process}
use Rattle.line_posts.specs.declared.forgetting.Forgotten.{Forgotten}
use Rattle.line_posts.specs.Kept.{whole_marks, IsKeptOf, IsPlanned}
use Rattle.line_posts.proofs.PlanLemmas.{planned_whole}
use Rattle.line_posts.proofs.forgetting.plan_kept.Goals as goal

pub returns-in-None : goal.returns-in-None
returns-in-None c =
    let K = c.args.catalogue.now in
    let F = c.args.failed.now in
    let e = c.in_ok-plan.ensures in
    subst (λ (f : Option Forgotten). (history : List Process) → IsKeptOf f history K.processes
    K.marks → IsPlanned history (whole_marks f K.marks) F c.in_ok-plan.plan) (sym c.in-None.is)
    (λ history same. subst (λ (h : List Process). IsPlanned h K.marks F c.in_ok-plan.plan) same
    (record {
      latest = e.latest;
      chain = e.chain;
      some_sweep = e.some_sweep;
      few_sweeps =
          e.few_sweeps;
      replays = e.replays;
    }))

pub returns-then-bring_back : goal.returns-then-bring_back
returns-then-bring_back c =
    let K = c.args.catalogue.now in
    let F = c.args.failed.now in
    let e = c.in_ok-plan.ensures in
    let G = c.in-Some.forgotten in
    subst (λ (f : Option Forgotten). (history : List Process)
    → IsKeptOf f history K.processes K.marks
    → IsPlanned history (whole_marks f K.marks) F c.bring_back.new.plan) (sym c.in-Some.is)
    (λ history left. planned_whole G.floor history G.marks K.processes K.marks left F
    c.in_ok-plan.plan c.bring_back.new.plan
    (record {
      latest = e.latest;
      chain = e.chain;
      some_sweep = e.some_sweep;
      few_sweeps =
          e.few_sweeps;
      replays = e.replays;
    }) (c.bring_back.ensures c.if-bring_back.true))
