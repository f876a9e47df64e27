use Rattle.std.proofs.Common.{◌<◌, ◌≤◌, ◌∙◌, ap, length, sym, arith}
use Rattle.line_claims.specs.Claims.{claim_view}
use Rattle.line_claims.specs.Versions.{starts_in}
use Rattle.line_claims.proofs.ReadingLemmas.{goes_by, start_fault, start_missing, start_read}
use Rattle.line_claims.proofs.ReadingLemmas.{starts_taken}
use Rattle.line_claims.proofs.claims.take_start.Goals as goal

pub returns-then-taken-count-clause-exact : goal.returns-then-taken-count-clause-exact
returns-then-taken-count-clause-exact c =
    let all : starts_in c.args.version c.args.n ≤ length c.args.claim.now.starts.items = omega
    (arith, ap length c.as_slice-starts.ensures.value, c.starts_in-count.ensures) in
    goes_by c.take_replay.result _ _ _ _ (λ rest. starts_taken c.args.version c.args.n
    (claim_view c.args.claim.now) c.args.number _ all) c.take_replay.ensures.exact

pub returns-then-not-is_named-clause-exact : goal.returns-then-not-is_named-clause-exact
returns-then-not-is_named-clause-exact c = λ rest.
    let more : length c.args.claim.now.starts.items < starts_in c.args.version c.args.n = omega
    (arith, ap length c.as_slice-starts.ensures.value, c.starts_in-count.ensures) in
    rw c.fault_at.ensures (start_missing c.args.version c.args.n (claim_view c.args.claim.now) _ _
    rest more (sym c.is_named.ensures ∙ c.if-not-is_named.true))

pub returns-in-Ok-clause-exact : goal.returns-in-Ok-clause-exact
returns-in-Ok-clause-exact c = λ rest.
    let more : length c.args.claim.now.starts.items < starts_in c.args.version c.args.n = omega
    (arith, ap length c.as_slice-starts.ensures.value, c.starts_in-count.ensures) in
    start_read c.args.version c.args.n (claim_view c.args.claim.now) _ _ _ rest more (sym
    c.is_named.ensures ∙ c.if-not-is_named.false) c.in-Ok.ensures.exact c.in-Ok.ensures.more

pub returns-in-Err-clause-exact : goal.returns-in-Err-clause-exact
returns-in-Err-clause-exact c = λ rest.
    let more : length c.args.claim.now.starts.items < starts_in c.args.version c.args.n = omega
    (arith, ap length c.as_slice-starts.ensures.value, c.starts_in-count.ensures) in
    rw c.error_at.ensures (start_fault c.args.version c.args.n (claim_view c.args.claim.now) _ _
    rest _ more (sym c.is_named.ensures ∙ c.if-not-is_named.false) c.in-Err.ensures.exact)
