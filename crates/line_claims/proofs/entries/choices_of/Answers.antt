use Rattle.std.proofs.Common.{◌∙◌, ◌<◌, ◌≤◌, sym, refl, length, arith, length-append}
use Rattle.std.proofs.lemmas.Result.{err_from_is_err_and}
use Rattle.line_names.specs.declared.choices.Choice.{Choice}
use Rattle.line_claims.proofs.EntryLemmas.{line_start, line_more, line_fault, line_end}
use Rattle.line_claims.proofs.entries.choices_of.Goals as goal

pub loop-place-init : goal.loop-place-init
loop-place-init c = record {
  long = rw c.new-line.ensures refl;
  so_far = rw c.new-line.ensures (line_start c.args.row.now);
}

pub returns-in_err-choice : goal.returns-in_err-choice
returns-in_err-choice c =
    let p = err_from_is_err_and c.from_residual.result c.from_residual.ensures.1 in
    let lt : c.loop-place.place < length c.args.row.now = omega arith in
    rw (p.1, p.2)
    (sym (line_fault _ _ _ _ lt (sym c.in_err-choice.ensures)) ∙ c.loop-place.invariant.so_far)

pub loop-place-preserved : goal.loop-place-preserved
loop-place-preserved c =
    let lt : c.loop-place.place < length c.args.row.now = omega arith in
    let long = c.loop-place.invariant.long in
    record {
      long = rw c.push.ensures (omega (arith, length-append {A = Choice}, long));
      so_far = rw c.push.ensures
          (sym (line_more _ _ _ _ lt (sym c.in_ok-choice.ensures)) ∙ c.loop-place.invariant.so_far);
    }

pub returns : goal.returns
returns c =
    let le : length c.args.row.now ≤ c.loop-place.place = omega arith in
    sym (line_end _ _ _ le) ∙ c.loop-place.invariant.so_far
