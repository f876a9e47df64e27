use Rattle.std.proofs.Common.{◌<◌, ◌∙◌, arith, length, sym}
use Rattle.line_claims.proofs.ReadingLemmas.{tape_begun, tape_closed, tape_missing, tape_refused}
use Rattle.line_claims.proofs.ReadingLemmas.{tapes_end}
use Rattle.line_claims.proofs.histories.take_next_tape.Goals as goal

pub returns-then-tapes-n-clause-exact : goal.returns-then-tapes-n-clause-exact
returns-then-tapes-n-clause-exact c = λ rest. tape_closed _ _ _ _ _ rest c.requires.other ∙
    tapes_end _ _ _ _ _ (omega (arith, c.if-tapes-n.true, c.n-n.ensures.value))

pub returns-then-not-is_named-clause-exact : goal.returns-then-not-is_named-clause-exact
returns-then-not-is_named-clause-exact c =
    let lt : c.args.tapes.now < length c.args.history.now.processes = rw c.n-n.ensures.value at
    c.in-Ok.ensures.0 in
    λ rest. rw c.fault_at.ensures (tape_closed _ _ _ _ _ rest c.requires.other ∙ tape_missing _ _ _
    _ _ rest lt (sym c.is_named.ensures ∙ c.if-not-is_named.true))

pub returns-in-Ok-tape_of-clause-exact : goal.returns-in-Ok-tape_of-clause-exact
returns-in-Ok-tape_of-clause-exact c =
    let lt : c.args.tapes.now < length c.args.history.now.processes = rw c.n-n.ensures.value at
    c.in-Ok.ensures.0 in
    λ rest. tape_closed _ _ _ _ _ rest c.requires.other ∙ tape_begun _ _ _ _ _ _ rest lt
    (sym c.is_named.ensures ∙ c.if-not-is_named.false)
    (rw c.in-Ok.ensures.1 at c.in-Ok-tape_of.ensures.ok)

pub returns-in-Err-clause-exact : goal.returns-in-Err-clause-exact
returns-in-Err-clause-exact c =
    let lt : c.args.tapes.now < length c.args.history.now.processes = rw c.n-n.ensures.value at
    c.in-Ok.ensures.0 in
    λ rest. rw c.fault_at-in-Err.ensures
    (tape_closed _ _ _ _ _ rest c.requires.other ∙ tape_refused _ _ _ _ _ rest _ lt
    (sym c.is_named.ensures ∙ c.if-not-is_named.false)
    (rw c.in-Ok.ensures.1 at c.in-Err.ensures.err))
