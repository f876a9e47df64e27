-- The plan is brought back in its box.
use Rattle.std.proofs.Common.{◌≡◌, sym, ap, ◌∙◌}
use Rattle.line_plan.specs.declared.plans.Plan.{Plan}
use Rattle.line_world.specs.declared.replies.Reply.TheVariants.{Recovered}
use Rattle.line_cuts.specs.Cuts.{Floor}
use Rattle.line_live.specs.CutMachines.{whole_plan, whole_reply}
use Rattle.line_live.proofs.whole_names.whole_reply.Goals as goal

pub returns-in-Recovered : goal.returns-in-Recovered
returns-in-Recovered c =
    let floor : Floor = c.args.floor.now in
    let value : c.bring_plan.new.plan ≡ whole_plan floor c.in-Recovered.plan.value =
    c.bring_plan.ensures ∙ ap (whole_plan floor) c.deref_mut.ensures.value in
    ap (λ (v : Plan). Recovered (record c.in-Recovered.plan { value = v }) c.in-Recovered.states
    c.in-Recovered.incarnations) value
    ∙ ap (whole_reply floor) (sym c.in-Recovered.is)
