-- Each walk finds what an idle history has, and where all do it is idle.
use Rattle.std.proofs.Common.{◌≡◌, ◌<◌, ℕ, List, length, refl, sym, ◌∙◌, arith}
use Rattle.std.proofs.lemmas.Bool.{false≢true}
use Rattle.line_tape.specs.History.{Process}
use Rattle.line_world.proofs.IdleLemmas.{idle_delivered, idle_from, idle_rounds}
use Rattle.line_world.proofs.idle.is_idle.Goals as goal

pub returns-then-not-all_follow : goal.returns-then-not-all_follow
returns-then-not-all_follow c = (
  λ h. absurd (false≢true h),
  λ idle. absurd (false≢true (sym c.if-not-all_follow.true ∙ c.all_follow.ensures.1
      (λ p within. idle_rounds c.args.history.now.processes c.args.last_round p idle))),
)

pub returns-then-not-all_delivered : goal.returns-then-not-all_delivered
returns-then-not-all_delivered c =
    let history : List Process = c.args.history.now.processes in
    let p : ℕ = c.unwrap-p.result in
    let at : p ≡ c.loop-i.i = (rw c.unwrap-p.ensures at c.try_new.ensures).1 in
    let p_within : p < length history = omega
    (arith, at, c.loop-i-test.true, c.n-n.ensures.value) in (
      λ h. absurd (false≢true h),
      λ idle. absurd (false≢true (sym c.if-not-all_delivered.true
          ∙ c.all_delivered.ensures.1
          (λ q q_within. idle_delivered history c.args.last_round p q idle p_within q_within))),
    )

pub returns : goal.returns
returns c =
    let history : List Process = c.args.history.now.processes in (
      λ h. idle_from history c.args.last_round c.n-n.ensures.limits
          (c.all_follow.ensures.0 c.if-not-all_follow.false)
          (λ p p_within. c.loop-i.invariant p
          (omega (arith, p_within, c.loop-i-test.false, c.n-n.ensures.value))),
      λ idle. refl,
    )
