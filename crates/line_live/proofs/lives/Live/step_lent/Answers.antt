-- As long as nothing was let go, the world that is kept answers.
use Rattle.std.proofs.Common.{◌≢◌, subst}
use Rattle.std.proofs.lemmas.Result.{IfErr-weaker, IfOk-weaker}
use Rattle.line_tape.specs.declared.steps.Step.{Step}
use Rattle.line_tape.specs.StepShown.{step_of_ref}
use Rattle.line_world.specs.declared.replies.Answer.TheVariants.{Done, Refused}
use Rattle.line_world.specs.declared.replies.Reply.{Reply}
use Rattle.line_world.specs.declared.replies.StepError.{StepError}
use Rattle.line_world.specs.declared.replies.StepError.TheVariants.{OutOfMemory}
use Rattle.line_world.specs.Machine.{Machine}
use Rattle.line_world.specs.Runs.{Takes}
use Rattle.line_cuts.specs.Cuts.{Floor}
use Rattle.line_live.specs.Lives.{LiveMachine, TakesLive}
use Rattle.line_live.proofs.FirstFloors.{takes_none}
use Rattle.line_live.proofs.LiveSteps.{living, tallied_first, tallied_live}
use Rattle.line_live.proofs.lives.Live.step_lent.Goals as goal

pub returns-clause-done : goal.returns-clause-done
returns-clause-done c =
    let floor : Floor = c.self.inside.floor in
    let old : Machine = c.self.inside.world in
    let new : Machine = c.step_lent.new.self in
    let step : Step = (step_of_ref c.args.step.now) in
    IfOk-weaker c.step_lent.result (λ (reply : Reply). Takes old step (Done reply) new)
    (λ (reply : Reply). TakesLive c.args.self.now step (Done reply) (living floor new))
    (λ reply takes. subst
    (λ (m : LiveMachine). TakesLive m step (Done reply) (living floor new)) c.self.view_is
    (takes_none floor (c.self.invariant.none c.if-self.false) old new step (Done reply) takes))
    c.step_lent.ensures.done

pub returns-clause-refused : goal.returns-clause-refused
returns-clause-refused c =
    let floor : Floor = c.self.inside.floor in
    let old : Machine = c.self.inside.world in
    let new : Machine = c.step_lent.new.self in
    let step : Step = (step_of_ref c.args.step.now) in
    IfErr-weaker c.step_lent.result
    (λ (e : StepError). e ≢ OutOfMemory → Takes old step (Refused e) new) (λ (e : StepError). e
    ≢ OutOfMemory → TakesLive c.args.self.now step (Refused e) (living floor new))
    (λ e refused other. subst
    (λ (m : LiveMachine). TakesLive m step (Refused e) (living floor new)) c.self.view_is
    (takes_none floor (c.self.invariant.none c.if-self.false) old new step (Refused e)
    (refused other))) c.step_lent.ensures.refused

pub invariant_of-self : goal.invariant_of-self
invariant_of-self c =
    tallied_live c.self.inside.floor c.self.inside.forgot c.self.inside.world c.self.invariant
    (step_of_ref c.args.step.now) c.step_kept.new.world c.step_kept.result
    c.step_kept.ensures.done c.step_kept.ensures.refused c.step_kept.ensures.memory

pub invariant_of-self-2 : goal.invariant_of-self-2
invariant_of-self-2 c =
    tallied_first c.self.inside.floor c.self.inside.forgot c.self.inside.world c.self.invariant
    (c.self.invariant.none c.if-self.false)
    (step_of_ref c.args.step.now) c.step_lent.new.self c.step_lent.result
    c.step_lent.ensures.done c.step_lent.ensures.refused c.step_lent.ensures.memory
