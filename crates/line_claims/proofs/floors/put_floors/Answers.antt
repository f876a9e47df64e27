use Rattle.std.proofs.Common.{◌<◌, ◌≤◌, ℕ, arith}
use Rattle.std.specs.Prelude.{slice_index_or}
use Rattle.line_devices.proofs.OutputLemmas.{out_all, out_front, out_more, out_none}
use Rattle.line_claims.proofs.PartLemmas.{next_floors, no_floors}
use Rattle.line_claims.proofs.floors.put_floors.Goals as goal

pub loop-p-init : goal.loop-p-init
loop-p-init g c = out_none _ _ _ _

pub loop-p-preserved : goal.loop-p-preserved
loop-p-preserved g c =
    let at : ℕ → ℕ × ℕ = λ p. (
      slice_index_or c.args.floor.now.checks.now p 0,
      slice_index_or
          c.args.floor.now.sends.now p 0,
    ) in
    let lt : c.loop-p.p < c.args.n = omega arith in
    out_more _ _
    (next_floors at c.args.n c.loop-p.p lt) c.loop-p.invariant c.in_ok-put_floor.ensures

pub returns-in_err-put_floor : goal.returns-in_err-put_floor
returns-in_err-put_floor g c =
    let at : ℕ → ℕ × ℕ = λ p. (
      slice_index_or c.args.floor.now.checks.now p 0,
      slice_index_or
          c.args.floor.now.sends.now p 0,
    ) in
    let lt : c.loop-p.p < c.args.n = omega arith in
    out_front _ _ _ _ _ (next_floors at c.args.n c.loop-p.p lt) c.loop-p.invariant
    c.in_err-put_floor.ensures c.from_residual.ensures.1

pub returns : goal.returns
returns g c =
    let at : ℕ → ℕ × ℕ = λ p. (
      slice_index_or c.args.floor.now.checks.now p 0,
      slice_index_or
          c.args.floor.now.sends.now p 0,
    ) in
    let le : c.args.n ≤ c.loop-p.p = omega arith in
    out_all tt (no_floors at c.args.n c.loop-p.p le) c.loop-p.invariant
