-- One step more was taken and answered.
use Rattle.std.proofs.Common.{ap, ◌∙◌, arith, vec_capacity}
use Rattle.std.proofs.lemmas.Bool.{iff_false}
use Rattle.line_world.specs.declared.replies.Answer.TheVariants.{Done, Refused}
use Rattle.line_world.proofs.RunLemmas.{IsRunTo-push}
use Rattle.line_world.proofs.worlds.World.run.Goals as goal
use Rattle.line_world.proofs.worlds.World.run.Goals.{in-Ok-step, in-Err-step+else-is_out_of_memory}

pub loop-step-preserved : goal.loop-step-preserved
loop-step-preserved c = elim c.match-step.branch [
  | in-Ok-step w ↦ IsRunTo-push c.args.self.now c.args.steps.now c.loop-step.step-index
      c.loop-step.done.items (vec_capacity c.loop-step.done) c.loop-step.self c.step-item.result
      (Done w.in-Ok-step.reply) c.step.new.self
      c.match-step.done.items (vec_capacity c.match-step.done) c.loop-step.invariant
      c.loop-step-test.true c.step-item.is
      w.in-Ok-step.ensures.done
      (ap (λ v. v.items) w.done-is ∙ (rw w.unwrap.ensures at w.push.ensures.items))
      (omega (arith, w.push.ensures.capacity, ap (λ v. vec_capacity v) w.done-is))
  | in-Err-step+else-is_out_of_memory w ↦ IsRunTo-push c.args.self.now c.args.steps.now
      c.loop-step.step-index c.loop-step.done.items (vec_capacity c.loop-step.done) c.loop-step.self
      c.step-item.result (Refused w.in-Err-step.e) c.step.new.self
      c.match-step.done.items (vec_capacity c.match-step.done) c.loop-step.invariant
      c.loop-step-test.true c.step-item.is
      (w.in-Err-step.ensures.refused
      (iff_false w.is_out_of_memory.ensures w.if-is_out_of_memory.false))
      (ap (λ v. v.items) w.done-is ∙
      (rw w.unwrap-in-Err-step.ensures at w.push-in-Err-step.ensures.items))
      (omega (arith, w.push-in-Err-step.ensures.capacity, ap (λ v. vec_capacity v) w.done-is))
]
