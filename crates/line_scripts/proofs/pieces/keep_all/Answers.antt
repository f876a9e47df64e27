use Rattle.std.proofs.Common.{◌≡◌, ◌+◌, ap, arith, length}
use Rattle.line_scripts.proofs.ReadLemmas.{ended_at, kept_more, kept_no_more}
use Rattle.line_scripts.proofs.pieces.keep_all.Goals as goal

pub returns-then-not-branch : goal.returns-then-not-branch
returns-then-not-branch c =
    let none = rw c.if-not-branch.true at c.in_ok-next_row.ensures.ok in
    ended_at _ _ _ _ _ none.0 c.records.invariant

pub returns-in-Err : goal.returns-in-Err
returns-in-Err c =
    let row = rw c.if-not-branch.false at c.in_ok-next_row.ensures.ok in
    let number : c.count.result + c.args.first ≡ length c.records.commands + c.args.first = omega
    (arith, c.count.ensures.count, ap length c.in-Err.ensures.err) in
    rw c.error_at.ensures
    (kept_no_more _ _ _ _ _ _ _ _ _ row number c.in-Err.ensures.exact c.records.invariant)

pub records-preserved : goal.records-preserved
records-preserved c =
    let row = rw c.if-not-branch.false at c.in_ok-next_row.ensures.ok in
    kept_more _ _ _ _ _ _ _ _ row c.in-Ok.ensures.exact c.records.invariant
