-- The step is the one that is taken, its bytes lent.
use Rattle.std.proofs.Common.{ℕ, List, subst, sym, ap, ◌∙◌}
use Rattle.std.specs.Prelude.{IfOk}
use Rattle.line_world.specs.declared.replies.Answer.TheVariants.{Done}
use Rattle.line_tape.specs.declared.steps.Step.{Step}
use Rattle.line_tape.specs.declared.steps.Step.TheVariants.{Send, Check, Begin, Turn}
use Rattle.line_world.specs.Runs.{Takes}
use Rattle.line_world.proofs.worlds.World.step.Goals as goal

pub returns-in-Send-clause-done : goal.returns-in-Send-clause-done
returns-in-Send-clause-done c =
    subst (λ (s : Step). IfOk c.send.result
    (λ reply. Takes c.args.self.now s (Done reply) c.send.new.self))
    (ap (λ (b : List ℕ). Send c.in-Send.from c.in-Send.to b) c.bytes.ensures.value ∙ sym
    c.in-Send.is) c.send.ensures.done

pub returns-in-Check-clause-done : goal.returns-in-Check-clause-done
returns-in-Check-clause-done c =
    subst (λ (s : Step). IfOk c.check.result
    (λ reply. Takes c.args.self.now s (Done reply) c.check.new.self))
    (ap (λ (b : List ℕ). Check c.in-Check.at b) c.bytes-in-Check.ensures ∙ sym c.in-Check.is)
    c.check.ensures.done

pub returns-in-Begin-clause-done : goal.returns-in-Begin-clause-done
returns-in-Begin-clause-done c =
    subst (λ (s : Step). IfOk c.begin.result
    (λ reply. Takes c.args.self.now s (Done reply) c.begin.new.self))
    (ap (λ (b : List ℕ). Begin c.in-Begin.at b) c.bytes-in-Begin.ensures ∙ sym c.in-Begin.is)
    c.begin.ensures.done

pub returns-in-Turn-clause-done : goal.returns-in-Turn-clause-done
returns-in-Turn-clause-done c =
    subst (λ (s : Step). IfOk c.turn.result
    (λ reply. Takes c.args.self.now s (Done reply) c.turn.new.self))
    (ap (λ (b : List ℕ). Turn c.in-Turn.at b) c.bytes-in-Turn.ensures ∙ sym c.in-Turn.is)
    c.turn.ensures.done
