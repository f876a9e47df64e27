-- The step that is left is asked of what is kept, and its reply, which has few numbers, is brought
-- back.
use Rattle.std.proofs.Common.{sym, subst}
use Rattle.line_tape.specs.History.{IsHistory}
use Rattle.line_tape.specs.declared.steps.Step.{Step}
use Rattle.line_world.specs.declared.replies.Answer.TheVariants.{Done, Refused}
use Rattle.line_world.specs.declared.replies.Reply.{Reply}
use Rattle.line_world.specs.Machine.{Machine}
use Rattle.line_world.specs.Runs.{Takes}
use Rattle.line_cuts.specs.Cuts.{Floor}
use Rattle.line_live.specs.CutMachines.{cut_step}
use Rattle.line_live.specs.Lives.{TakesLive}
use Rattle.line_live.proofs.FewNumbers.{reply_few}
use Rattle.line_live.proofs.LiveSteps.{living, takes_cut}
use Rattle.line_live.proofs.ShapedMachines.{step_long}
use Rattle.line_live.proofs.kept_steps.step_cut.Goals as goal

pub whole_reply-requires-clause-few : goal.whole_reply-requires-clause-few
whole_reply-requires-clause-few c =
    let old : Machine = c.args.world.now in
    let limits : IsHistory old.history = subst IsHistory c.history-history.ensures.value
    c.n-n.ensures.limits in
    reply_few old limits c.requires.fifo c.history-history.ensures.fit c.args.cut.now c.in-Ok.reply
    c.step.new.self c.in-Ok.ensures.done.0 c.in-Ok.ensures.done.1

pub returns-in-Ok-clause-done : goal.returns-in-Ok-clause-done
returns-in-Ok-clause-done c =
    let old : Machine = c.args.world.now in
    let new : Machine = c.step.new.self in
    let floor : Floor = c.args.floor.now in
    let step : Step = c.args._step.now in
    let takes : Takes old (cut_step floor step) (Done c.in-Ok.reply) new = subst (λ (s : Step).
    Takes old s (Done c.in-Ok.reply) new) (sym c.requires.cut) c.in-Ok.ensures.done in
    subst (λ (reply : Reply). TakesLive (living floor old) step (Done reply) (living floor new))
    (sym c.whole_reply.ensures)
    (takes_cut floor old new step (Done c.in-Ok.reply) c.requires.spared takes)

pub returns-in-Err-clause-refused : goal.returns-in-Err-clause-refused
returns-in-Err-clause-refused c = λ other.
    let old : Machine = c.args.world.now in
    let new : Machine = c.step.new.self in
    let floor : Floor = c.args.floor.now in
    let step : Step = c.args._step.now in
    let takes : Takes old (cut_step floor step) (Refused c.in-Err.refusal) new = subst
    (λ (s : Step). Takes old s (Refused c.in-Err.refusal) new) (sym c.requires.cut)
    (c.in-Err.ensures.refused other) in
    takes_cut floor old new step (Refused c.in-Err.refusal) c.requires.spared takes

pub returns-in-Ok-clause-count : goal.returns-in-Ok-clause-count
returns-in-Ok-clause-count c = step_long c.args.world.now c.args.cut.now c.step.result
    c.step.new.self c.step.ensures.done c.step.ensures.refused c.step.ensures.memory

pub returns-in-Err-clause-count : goal.returns-in-Err-clause-count
returns-in-Err-clause-count c = step_long c.args.world.now c.args.cut.now c.step.result
    c.step.new.self c.step.ensures.done c.step.ensures.refused c.step.ensures.memory
