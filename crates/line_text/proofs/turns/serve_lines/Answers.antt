use Rattle.std.proofs.Common.{◌≡◌, ◌∙◌, ap, arith, refl}
use Rattle.std.specs.Prelude.{Err}
use Rattle.std.proofs.lemmas.Result.{err_from_is_err_and}
use Rattle.line_text.specs.declared.faults.ServeError.TheVariants as errors
use Rattle.line_text.proofs.TurnLemmas.{served_all, served_front, served_none, served_on}
use Rattle.line_text.proofs.TurnLemmas.{served_still, served_until}
use Rattle.line_text.proofs.turns.serve_lines.Goals as goal

pub turns-init : goal.turns-init
turns-init g c = record {
  room = c.requires.room;
  served = served_none _ _ _ _ _ _ c.requires.fresh;
  heard = refl;
  sound = refl;
  unended = refl;
}

pub returns-in_err-more-clause-write : goal.returns-in_err-more-clause-write
returns-in_err-more-clause-write g c is =
    let passed_on = err_from_is_err_and c.from_residual.result c.from_residual.ensures.1 in
    let was : c.take_turn.result ≡ Err c.in_err-more.field-0.0 = c.in_err-more.was in
    let same : c.take_turn.result ≡ Err errors.Write = cc in
    served_front _ _ _ _ _ _ _ _ _ _ c.turns.invariant.served _ _ _ (c.take_turn.ensures.write same)

pub returns-then-not-more-clause-ok : goal.returns-then-not-more-clause-ok
returns-then-not-more-clause-ok g c =
    let turn = rw c.if-not-more.true at c.in_ok-more.ensures.ok in
    served_all _ _ _ _ _ _ _ _ _ _ c.turns.invariant.served _ _ _ _ turn
    (c.in_ok-more.ensures.end c.if-not-more.true c.turns.invariant.room)

pub turns-preserved : goal.turns-preserved
turns-preserved g c =
    let turn = rw c.if-not-more.false at c.in_ok-more.ensures.ok in
    record {
      room = omega arith;
      served = served_on _ _ _ _ _ _ _ _ _ _ c.turns.invariant.served _ _ _ _ turn;
      heard = c.in_ok-more.ensures.faults.0 ∙ c.turns.invariant.heard;
      sound = c.in_ok-more.ensures.faults.1 ∙ c.turns.invariant.sound;
      unended = (rw c.if-not-more.false at c.in_ok-more.ensures.ended) ∙ c.turns.invariant.unended;
    }

pub returns-in_err-more-clause-read : goal.returns-in_err-more-clause-read
returns-in_err-more-clause-read g c is =
    let passed_on = err_from_is_err_and c.from_residual.result c.from_residual.ensures.1 in
    let was : c.take_turn.result ≡ Err c.in_err-more.field-0.0 = c.in_err-more.was in
    let same : c.take_turn.result ≡ Err errors.Read = cc in
    let lost = c.take_turn.ensures.read same in
    served_until _ _ _ _ _ _ _ _ _ _ c.turns.invariant.served _ _ _ lost.2
    (ap g.K.Sink.taken lost.1)

pub returns-clause-read : goal.returns-clause-read
returns-clause-read g c is = served_still _ _ _ _ _ _ _ _ _ _ c.turns.invariant.served
