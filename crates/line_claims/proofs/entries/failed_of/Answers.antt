use Rattle.std.proofs.Common.{◌∙◌, sym, ◌<◌, ◌≤◌, length, arith}
use Rattle.std.proofs.lemmas.Bool.{le-ltb, lt-ltb}
use Rattle.std.proofs.lemmas.Result.{err_from_is_err_and}
use Rattle.line_claims.proofs.EntryLemmas.{failed_start, failed_more, failed_refused, failed_fault}
use Rattle.line_claims.proofs.EntryLemmas.{failed_end, failed_end_refused}
use Rattle.line_claims.proofs.entries.failed_of.Goals.{in-Ok, in-Err}
use Rattle.line_claims.proofs.entries.failed_of.Goals as goal

pub loop-place-init : goal.loop-place-init
loop-place-init c = rw c.empty-failed.ensures.value (failed_start c.args.n c.args.row.now)

pub returns-in_err-p : goal.returns-in_err-p
returns-in_err-p c =
    let p = err_from_is_err_and c.from_residual.result c.from_residual.ensures.1 in
    let lt : c.loop-place.place < length c.args.row.now = omega arith in
    rw (p.1, p.2)
    (sym (failed_fault _ _ _ _ _ _ lt (sym c.in_err-p.ensures)) ∙ c.loop-place.invariant)

pub loop-place-preserved : goal.loop-place-preserved
loop-place-preserved c =
    let lt : c.loop-place.place < length c.args.row.now = omega arith in
    elim c.match-try_new.branch [
      | in-Ok w ↦ rw (w.failed-is, w.below-is, w.with-failed.ensures.value, w.in-Ok.ensures.1)
          (sym (failed_more _ _ _ _ _ _ lt (sym c.in_ok-p.ensures) (lt-ltb _ _ w.in-Ok.ensures.0)) ∙
          c.loop-place.invariant)
      | in-Err w ↦ rw (w.failed-is, w.below-is)
          (sym (failed_refused _ _ _ _ _ _ lt (sym c.in_ok-p.ensures)
          (le-ltb _ _ (omega (arith, w.in-Err.ensures)))) ∙ c.loop-place.invariant)
    ]

pub returns-then-not-below : goal.returns-then-not-below
returns-then-not-below c =
    let le : length c.args.row.now ≤ c.loop-place.place = omega arith in
    sym (failed_end_refused c.args.n c.loop-place.place c.loop-place.failed c.args.row.now le) ∙ rw
    c.if-not-below.true at c.loop-place.invariant

pub returns : goal.returns
returns c =
    let le : length c.args.row.now ≤ c.loop-place.place = omega arith in
    sym (failed_end c.args.n c.loop-place.place c.loop-place.failed c.args.row.now le) ∙ rw
    c.if-not-below.false at c.loop-place.invariant
