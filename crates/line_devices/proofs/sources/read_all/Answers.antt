use Rattle.std.proofs.Common.{arith}
use Rattle.line_devices.proofs.PutLemmas.{all_read, all_told, fills_both, fills_front, fills_then}
use Rattle.line_devices.proofs.sources.read_all.Goals as goal

pub returns-in_default-clause-lost : goal.returns-in_default-clause-lost
returns-in_default-clause-lost g c =
    fills_then _ _ _ _ c.loop-turn.invariant.read c.in_default.ensures.lost

pub returns-then-count-eq0-clause-whole : goal.returns-then-count-eq0-clause-whole
returns-then-count-eq0-clause-whole g c =
    let done = c.in-Ok.ensures.end (omega arith) c.if-count-eq0.true in
    record {
      few = c.loop-turn.invariant.within;
      counted =
          omega (arith, c.in-Ok.ensures.gives, c.loop-turn.invariant.counted, c.if-count-eq0.true);
      told = λ xs told. (
        all_told _ _ _ xs told c.loop-turn.invariant.read done,
        all_read _ _ _ _ _ _ xs told c.loop-turn.invariant.read c.if-count-eq0.true
            c.in-Ok.ensures.moves done,
      );
    }

pub returns-then-count-len-clause-lost : goal.returns-then-count-len-clause-lost
returns-then-count-len-clause-lost g c =
    fills_front _ _ _ (fills_both _ _ _ _ _ c.loop-turn.invariant.read c.in-Ok.ensures.moves)

pub returns-then-is_err-clause-lost : goal.returns-then-is_err-clause-lost
returns-then-is_err-clause-lost g c =
    fills_front _ _ _ (fills_both _ _ _ _ _ c.loop-turn.invariant.read c.in-Ok.ensures.moves)
