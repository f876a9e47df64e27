use Rattle.std.proofs.Common.{◌∙◌, arith, inr, refl, sym}
use Rattle.line_text.proofs.WindowLemmas.{codes_if_err, ends_not, ends_once, failed_if_err}
use Rattle.line_text.proofs.WindowLemmas.{more_come, none_come, ok_part, on_any_ok, told_if_err}
use Rattle.line_text.proofs.WindowLemmas.{too_much, whole_if_ok}
use Rattle.line_text.proofs.windows.read_lines.Goals as goal

pub loop-turn-init : goal.loop-turn-init
loop-turn-init g c = record {
  moved = omega arith;
  within = omega arith;
  room = c.in-Ok.ensures.room;
  sound = refl;
  unended = refl;
  counted = omega arith;
  come = none_come _ _ _ c.requires (rw c.in-Ok.ensures.none refl);
}

pub returns-then-count-eq0-clause-whole : goal.returns-then-count-eq0-clause-whole
returns-then-count-eq0-clause-whole g c =
    whole_if_ok c.take_last.result _ _ _ _ _ c.loop-turn.read c.in-Ok-hear.count _ _ _ _
    c.loop-turn.invariant.within (omega
    (arith, c.in-Ok-hear.ensures.gives, c.loop-turn.invariant.counted)) c.if-count-eq0.true
    c.in-Ok-hear.ensures.moves (c.in-Ok-hear.ensures.end c.if-count-eq0.true) c.take_last.ensures.ok
    c.loop-turn.invariant.come

pub returns-then-count-eq0-clause-codes : goal.returns-then-count-eq0-clause-codes
returns-then-count-eq0-clause-codes g c = codes_if_err c.take_last.result c.take_last.ensures.err

pub returns-then-count-eq0-clause-failed : goal.returns-then-count-eq0-clause-failed
returns-then-count-eq0-clause-failed g c =
    failed_if_err c.take_last.result _ c.take_last.ensures.err

pub returns-then-count-eq0-clause-heard : goal.returns-then-count-eq0-clause-heard
returns-then-count-eq0-clause-heard g c =
    on_any_ok c.take_last.result _ (c.in-Ok-hear.ensures.sound ∙ c.loop-turn.invariant.sound)

pub returns-then-count-eq0-clause-told : goal.returns-then-count-eq0-clause-told
returns-then-count-eq0-clause-told g c =
    told_if_err c.take_last.result _ (c.in-Ok-hear.ensures.sound ∙ c.loop-turn.invariant.sound)

pub returns-then-count-eq0-clause-ended : goal.returns-then-count-eq0-clause-ended
returns-then-count-eq0-clause-ended g c = ends_once c.take_last.result _ _ _ c.in-Ok-hear.count
    c.take_last.ensures.err c.if-count-eq0.true c.in-Ok-hear.ensures.ended
    c.loop-turn.invariant.unended

pub returns-then-count-read-clause-failed : goal.returns-then-count-read-clause-failed
returns-then-count-read-clause-failed g c = λ code.
    inr
    (too_much _ _ _ _ _ c.loop-turn.read c.in-Ok-hear.count _ _ _ c.in-Ok-hear.ensures.moves
    (omega (arith, c.if-count-read.true, c.loop-turn.invariant.within))
    (omega (arith, c.in-Ok-hear.ensures.gives, c.loop-turn.invariant.counted))
    c.loop-turn.invariant.come)

pub loop-turn-preserved : goal.loop-turn-preserved
loop-turn-preserved g c =
    let taken = ok_part c.take_lines.result _
    (sym c.is_err.ensures.value ∙ c.if-is_err.false) c.take_lines.ensures.read in
    record {
      moved = omega (arith, c.loop-turn.invariant.moved, c.if-count-eq0.false);
      within = omega (arith, c.if-count-read.false, c.loop-turn.invariant.within);
      room = ok_part c.take_lines.result _
          (sym c.is_err.ensures.value ∙ c.if-is_err.false) c.take_lines.ensures.room;
      sound = c.in-Ok-hear.ensures.sound ∙ c.loop-turn.invariant.sound;
      unended = ends_not _ _ _ c.in-Ok-hear.count c.if-count-eq0.false c.in-Ok-hear.ensures.ended
          c.loop-turn.invariant.unended;
      counted = omega (arith, c.in-Ok-hear.ensures.gives, c.loop-turn.invariant.counted);
      come = more_come _ _ _ c.loop-turn.read c.in-Ok-hear.count _ _ _ _ _ taken
          c.in-Ok-hear.ensures.moves c.loop-turn.invariant.come;
    }
