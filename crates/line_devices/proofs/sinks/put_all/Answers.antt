use Rattle.std.proofs.Common.{◌∙◌, ◌≤◌, ◌+◌, ap, arith, length}
use Rattle.std.proofs.lemmas.List.{length-drop}
use Rattle.std.proofs.lemmas.Result.{err_from_is_err_and}
use Rattle.line_devices.proofs.PutLemmas.{front_more, puts_more, slice_from}
use Rattle.line_devices.proofs.sinks.put_all.Goals as goal

pub returns-in_err-at-clause-err : goal.returns-in_err-at-clause-err
returns-in_err-at-clause-err g c =
    let passed_on = err_from_is_err_and c.from_residual.result c.from_residual.ensures.1 in
    let front = rw (slice_from c.loop-at.at c.args.bytes.now) at c.in_err-at.ensures.front in
    rw passed_on.1 (front_more _ _ _ c.loop-at.at c.args.bytes.now c.loop-at.invariant.put front)

pub loop-at-preserved : goal.loop-at-preserved
loop-at-preserved g c =
    let rest = slice_from c.loop-at.at c.args.bytes.now in
    let moves = rw rest at c.in_ok-at.ensures.moves in
    let within : c.loop-at.at + c.in_ok-at.field-0 ≤ length c.args.bytes.now = omega (
      arith,
      ap
          length rest,
      length-drop c.loop-at.at c.args.bytes.now,
      c.in_ok-at.ensures.within,
    ) in
    record {
      within = within;
      put = puts_more _ _ _ c.loop-at.at c.in_ok-at.field-0 c.args.bytes.now c.loop-at.invariant.put
          moves;
      sound = c.in_ok-at.ensures.sound ∙ c.loop-at.invariant.sound;
    }
