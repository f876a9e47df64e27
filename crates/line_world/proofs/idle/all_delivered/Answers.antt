-- The receivers looked at grow by one.
use Rattle.std.proofs.Common.{◌≡◌, ◌<◌, ℕ, List, length, refl, sym, ◌∙◌, subst, arith}
use Rattle.std.specs.Prelude.{◌==◌}
use Rattle.std.proofs.lemmas.Bool.{false≢true}
use borrow.Author.Count.{below_more}
use Rattle.line_tape.specs.Fit.{received_from, sent_between}
use Rattle.line_tape.specs.History.{Process}
use Rattle.line_world.specs.Deliveries.{AreDelivered}
use Rattle.line_world.proofs.idle.all_delivered.Goals as goal

pub returns-then-not-are_delivered : goal.returns-then-not-are_delivered
returns-then-not-are_delivered c =
    let q : ℕ = c.unwrap-q.result in
    let at : q ≡ c.loop-i.i = (rw c.unwrap-q.ensures at c.try_new.ensures).1 in
    let within : q < length c.args.history.now.processes = omega
    (arith, at, c.loop-i-test.true, c.n-n.ensures.value) in (
      λ h. absurd (false≢true h),
      λ all. absurd
          (false≢true (sym c.if-not-are_delivered.true ∙ c.are_delivered.ensures.1 (all q within))),
    )

pub loop-i-preserved : goal.loop-i-preserved
loop-i-preserved c =
    let history : List Process = c.args.history.now.processes in
    let p : ℕ = c.args.p in
    let at : c.unwrap-q.result ≡ c.loop-i.i = (rw c.unwrap-q.ensures at c.try_new.ensures).1 in
    below_more (λ (q : ℕ). AreDelivered (p == q) (received_from history q p)
    (sent_between history p q)) c.loop-i.i c.loop-i.invariant
    (subst (λ (q : ℕ). AreDelivered (p == q) (received_from history q p) (sent_between history p q))
    at (c.are_delivered.ensures.0 c.if-not-are_delivered.false))

pub returns : goal.returns
returns c = (
  λ h q within. c.loop-i.invariant q
      (omega (arith, within, c.loop-i-test.false, c.n-n.ensures.value)),
  λ h. refl,
)
