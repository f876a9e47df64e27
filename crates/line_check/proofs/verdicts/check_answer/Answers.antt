-- An answer that has a fault is not right.
use Rattle.std.proofs.Common.{◌≡◌, length, ap, ◌∙◌, refl, arith}
use Rattle.std.proofs.lemmas.Bool.{false≢true}
use Rattle.line_check.specs.Faults.{of_replays}
use Rattle.line_check.proofs.StartLemmas.{many-starts}
use Rattle.line_check.proofs.verdicts.check_answer.Goals as goal

pub returns-then-answer-n-clause-ok : goal.returns-then-answer-n-clause-ok
returns-then-answer-n-clause-ok c = (
  λ h. absurd (false≢true h),
  λ right.
      let counted : length c.args.answer.now.starts.now
      ≡ length c.args.history.now.processes = ap length right.starts_are ∙ many-starts
      c.args.history.now.processes c.args.answer.now.line.now in
      absurd (omega (arith, counted)),
)

pub returns-in-Err-clause-fault : goal.returns-in-Err-clause-fault
returns-in-Err-clause-fault c =
    let claim = c.in_ok-check_certificate.ensures.ok.0 refl in
    of_replays claim.0 claim.1 (c.in_ok-check_starts.ensures.ok.0 refl) c.in-Err.ensures.fault
