-- By whether a claim says where the processes go on.
use Rattle.std.proofs.Common.{◌≡◌, ap, length, arith}
use Rattle.line_claims.specs.Texts.{check_view}
use Rattle.line_text.proofs.JudgeLemmas.{verdict_none, verdict_some}
use Rattle.line_text.proofs.judgings.verdict_of.Goals as goal

pub returns-then-count-eq0 : goal.returns-then-count-eq0
returns-then-count-eq0 c =
    let none : length c.args.check.now.claim.starts.items
    ≡ 0 = omega (arith, ap length c.as_slice-starts.ensures.value) in
    verdict_none c.args.check.now.claim.starts.items
    (check_view c.args.check.now) _ none c.verdict_of_line.ensures

pub returns : goal.returns
returns c =
    let some : length c.args.check.now.claim.starts.items ≡ 0
    → ⊥ = λ e. absurd (omega (arith, e, ap length c.as_slice-starts.ensures.value)) in
    verdict_some c.args.check.now.claim.starts.items
    (check_view c.args.check.now) _ some c.verdict_of_answer.ensures
