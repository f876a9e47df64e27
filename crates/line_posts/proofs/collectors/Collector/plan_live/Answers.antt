-- A plan of what is kept, brought back, is one of the whole.
use Rattle.std.proofs.Common.{◌∙◌, length, ap, subst}
use Rattle.line_posts.specs.Collected.{CollectorView}
use Rattle.line_posts.specs.Ends.{in_ends}
use Rattle.line_posts.specs.Forgotten.{taken_history, HaveAllFailed}
use Rattle.line_posts.specs.Kept.{IsPlanned}
use Rattle.line_posts.proofs.ExtensionLemmas.{consistent_later}
use Rattle.line_posts.proofs.ForgetLemmas.{kept_long}
use Rattle.line_posts.proofs.RoundsGathered.{if_ok_then}
use Rattle.line_posts.proofs.collectors.Collector.plan_live.Goals as goal

pub returns-clause-latest : goal.returns-clause-latest
returns-clause-latest c =
    let I = c.self.inside in
    let V = c.args.self.now in
    let F = c.everyone-failed.result in
    let H = taken_history I.opening.value.processes (in_ends I.lines.items) in
    let size = c.n.ensures.value ∙ kept_long I.forgotten H I.catalogue.processes I.catalogue.marks
    c.self.invariant.1 ∙ ap (λ (v : CollectorView). length v.processes) c.self.view_is in
    let all : HaveAllFailed (length V.processes) F = subst
    (λ n. HaveAllFailed n F) size c.everyone-failed.ensures in
    if_ok_then c.plan_kept.result _ _
    (λ plan told. let is : IsPlanned V.processes V.marks F plan = subst
    (λ (v : CollectorView). IsPlanned v.processes v.marks F plan) c.self.view_is
    (told H c.self.invariant.1) in (F, all, is.latest, is.chain)) c.plan_kept.ensures

pub returns-clause-some_sweep : goal.returns-clause-some_sweep
returns-clause-some_sweep c =
    let I = c.self.inside in
    let H = taken_history I.opening.value.processes (in_ends I.lines.items) in
    if_ok_then c.plan_kept.result _ _
    (λ plan told. (told H c.self.invariant.1).some_sweep) c.plan_kept.ensures

pub returns-clause-few_sweeps : goal.returns-clause-few_sweeps
returns-clause-few_sweeps c =
    let I = c.self.inside in
    let H = taken_history I.opening.value.processes (in_ends I.lines.items) in
    if_ok_then c.plan_kept.result _ _
    (λ plan told. (told H c.self.invariant.1).few_sweeps) c.plan_kept.ensures

pub returns-clause-replays : goal.returns-clause-replays
returns-clause-replays c =
    let I = c.self.inside in
    let V = c.args.self.now in
    let F = c.everyone-failed.result in
    let H = taken_history I.opening.value.processes (in_ends I.lines.items) in
    if_ok_then c.plan_kept.result _ _
    (λ plan told. let is : IsPlanned V.processes V.marks F plan = subst
    (λ (v : CollectorView). IsPlanned v.processes v.marks F plan) c.self.view_is
    (told H c.self.invariant.1) in is.replays) c.plan_kept.ensures

pub returns-clause-onward : goal.returns-clause-onward
returns-clause-onward c =
    let I = c.self.inside in
    let V = c.args.self.now in
    let F = c.everyone-failed.result in
    let H = taken_history I.opening.value.processes (in_ends I.lines.items) in
    let size = c.n.ensures.value ∙ kept_long I.forgotten H I.catalogue.processes I.catalogue.marks
    c.self.invariant.1 ∙ ap (λ (v : CollectorView). length v.processes) c.self.view_is in
    let all : HaveAllFailed (length V.processes) F = subst
    (λ n. HaveAllFailed n F) size c.everyone-failed.ensures in
    if_ok_then c.plan_kept.result _ _ (λ plan told later more.
    let is : IsPlanned V.processes V.marks F plan = subst (λ (v : CollectorView). IsPlanned
    v.processes v.marks F plan) c.self.view_is (told H c.self.invariant.1) in
    consistent_later V.processes later more V.marks F plan.line all is.latest.recoverable)
    c.plan_kept.ensures
