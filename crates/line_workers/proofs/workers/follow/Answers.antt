use Rattle.std.proofs.Common.{length, take, refl, ap, inl, inr, arith}
use Rattle.std.proofs.lemmas.List.{length-take-le}
use Rattle.line_posts.proofs.MeetLemmas.{there}
use Rattle.line_workers.proofs.DrillLemmas.{done_long, done_none, done_order}
use Rattle.line_workers.proofs.FaultLemmas.{failed_at}
use Rattle.line_workers.proofs.GateLemmas.{on_more, on_none}
use Rattle.line_workers.proofs.workers.follow.Goals as goal

pub overflow_cast-number : goal.overflow_cast-number
overflow_cast-number g c =
    let t = c.loop-k-test.true in
    let l = c.len-k-end.ensures in
    let S = c.args.script.now.items in
    let n = c.loop-k.k in
    let taken = length-take-le n S (omega (arith, t, l)) in
    let long = done_long (take n S) c.args.post c.loop-k.post c.loop-k.invariant.0 in
    let same = ap length c.tape.ensures.value in
    let value = c.len-limit.ensures.value in
    omega (arith, taken, long, same, value)

pub returns-in-Err-clause-failed : goal.returns-in-Err-clause-failed
returns-in-Err-clause-failed g c =
    let t = c.loop-k-test.true in
    let l = c.len-k-end.ensures in
    let S = c.args.script.now.items in
    failed_at S c.loop-k.k c.index.result.now c.args.post c.loop-k.post c.step.new.post c.in-Err.why
    c.number-p.result _
    (there S S c.loop-k.k c.index.result.now refl (omega (arith, t, l)) c.index.ensures)
    c.loop-k.invariant.0 c.tape.ensures.known c.number-p.ensures.value c.in-Err.ensures.cause refl

pub loop-k-init : goal.loop-k-init
loop-k-init g c = (
  done_none c.args.post,
  on_none
      (g.G.Gate.lets c.args.gate.now) c.args.script.now.items c.args.post,
  inl refl,
)

pub loop-k-preserved : goal.loop-k-preserved
loop-k-preserved g c =
    let t = c.loop-k-test.true in
    let l = c.len-k-end.ensures in
    let S = c.args.script.now.items in
    let (done, on, reported) = c.loop-k.invariant in
    let (turns, allowed) = c.in_default.ensures.let_on in (
      done_order S c.loop-k.k c.index.result.now c.args.post c.loop-k.post c.step.new.post
          (there S S c.loop-k.k c.index.result.now refl (omega (arith, t, l)) c.index.ensures)
          done c.in_default.ensures.done,
      on_more (g.G.Gate.lets c.args.gate.now) S c.loop-k.k c.args.post c.loop-k.post on done
          c.tape.ensures.known allowed,
      inr c.in_default.ensures.reported,
    )
