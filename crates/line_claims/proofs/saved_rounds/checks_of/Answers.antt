use Rattle.std.proofs.Common.{◌<◌, ◌≤◌, ◌∙◌, length, sym, arith}
use Rattle.std.proofs.lemmas.Result.{err_from_is_err_and}
use Rattle.line_claims.proofs.SavedRoundLemmas.{checks_end, checks_fault, checks_more}
use Rattle.line_claims.proofs.saved_rounds.checks_of.Goals as goal

pub returns-in_err-check : goal.returns-in_err-check
returns-in_err-check c =
    let p = err_from_is_err_and c.from_residual-in_err-check.result
    c.from_residual-in_err-check.ensures.1 in
    let lt : c.loop-value.value < length c.args.history.now.processes = omega arith in
    let read = rw (
      c.field-text.ensures,
      c.from-most.ensures,
      c.checks-last.ensures.value,
      c.tape.ensures.events,
      c.in-Ok.ensures.1,
    ) at c.in_err-check.ensures.exact in
    rw (p.1, p.2) (sym c.loop-value.invariant ∙ checks_fault _ _ _ _ _ lt c.requires (sym read))

pub loop-value-preserved : goal.loop-value-preserved
loop-value-preserved c =
    let lt : c.loop-value.value < length c.args.history.now.processes = omega arith in
    let read = rw (
      c.field-text.ensures,
      c.from-most.ensures,
      c.checks-last.ensures.value,
      c.tape.ensures.events,
      c.in-Ok.ensures.1,
    ) at c.in_ok-check.ensures.exact in
    rw c.in_ok-push.ensures.items
    (sym (checks_more _ _ _ _ _ lt c.requires (sym read)) ∙ c.loop-value.invariant)

pub returns : goal.returns
returns c =
    let le : length c.args.history.now.processes ≤ c.loop-value.value = omega arith in
    sym c.loop-value.invariant ∙ checks_end _ _ _ _ le
