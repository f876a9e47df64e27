-- An answer without a fault is right, and its line is the latest.
use Rattle.std.proofs.Common.{◌≡◌, List, refl, subst}
use Rattle.line_check.specs.Answers.{IsRightAnswer, WholeAnswer}
use Rattle.line_check.specs.Faults.{IsFirstFaultOfAnswer}
use Rattle.line_claims.specs.Claims.{Claim, claim_view}
use Rattle.line_tape.specs.History.{Process}
use Rattle.line_text.specs.Judgings.{answer_in}
use Rattle.line_text.proofs.JudgeLemmas.{answer_same, answer_with}
use Rattle.line_text.proofs.judgings.verdict_of_answer.Goals as goal

pub returns-in-Ok : goal.returns-in-Ok
returns-in-Ok c = λ start others.
    let history : List Process = c.args.check.now.history.processes in
    let claim : Claim = claim_view c.args.check.now.claim in
    let same : answer_with claim.line c.as_slice-certificate.result.now c.as_slice-starts.result.now
    c.as_slice-replays.result.now ≡ answer_in claim
    = answer_same claim _ _ _ c.as_slice-certificate.ensures.value c.as_slice-starts.ensures.value
    c.as_slice-replays.ensures.value in
    let right : IsRightAnswer history claim.marks claim.failed (answer_in claim) = subst
    (IsRightAnswer history claim.marks claim.failed) same (c.in-Ok.ensures.ok.0 refl) in (
      record { shape = right.shape; chain = right.chain; latest = c.in-Ok.ensures.latest refl },
      right,
    )

pub returns-in-Err : goal.returns-in-Err
returns-in-Err c = λ start others.
    let history : List Process = c.args.check.now.history.processes in
    let claim : Claim = claim_view c.args.check.now.claim in
    let same : answer_with claim.line c.as_slice-certificate.result.now c.as_slice-starts.result.now
    c.as_slice-replays.result.now ≡ answer_in claim
    = answer_same claim _ _ _ c.as_slice-certificate.ensures.value c.as_slice-starts.ensures.value
    c.as_slice-replays.ensures.value in
    subst (λ (answer : WholeAnswer). IsFirstFaultOfAnswer history claim.marks claim.failed answer
    c.in-Err.fault) same c.in-Err.ensures.fault
