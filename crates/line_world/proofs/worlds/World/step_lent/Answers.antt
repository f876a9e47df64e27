-- The step is the one that is taken.
use Rattle.std.proofs.Common.{subst, sym}
use Rattle.std.specs.Prelude.{IfOk}
use Rattle.line_world.specs.declared.replies.Answer.TheVariants.{Done}
use Rattle.line_tape.specs.declared.steps.StepRef.{StepRef}
use Rattle.line_world.specs.Runs.{Takes}
use Rattle.line_tape.specs.StepShown.{step_of_ref}
use Rattle.line_world.proofs.worlds.World.step_lent.Goals as goal

pub returns-in-Send-clause-done : goal.returns-in-Send-clause-done
returns-in-Send-clause-done c = subst
    (λ (s : StepRef). IfOk c.send.result (λ reply. Takes c.args.self.now (step_of_ref s)
    (Done reply) c.send.new.self)) (sym c.in-Send.is) c.send.ensures.done

pub returns-in-Check-clause-done : goal.returns-in-Check-clause-done
returns-in-Check-clause-done c = subst
    (λ (s : StepRef). IfOk c.check.result (λ reply. Takes c.args.self.now (step_of_ref s)
    (Done reply) c.check.new.self)) (sym c.in-Check.is) c.check.ensures.done

pub returns-in-Begin-clause-done : goal.returns-in-Begin-clause-done
returns-in-Begin-clause-done c = subst
    (λ (s : StepRef). IfOk c.begin.result (λ reply. Takes c.args.self.now (step_of_ref s)
    (Done reply) c.begin.new.self)) (sym c.in-Begin.is) c.begin.ensures.done

pub returns-in-Turn-clause-done : goal.returns-in-Turn-clause-done
returns-in-Turn-clause-done c = subst
    (λ (s : StepRef). IfOk c.turn.result (λ reply. Takes c.args.self.now (step_of_ref s)
    (Done reply) c.turn.new.self)) (sym c.in-Turn.is) c.turn.ensures.done
