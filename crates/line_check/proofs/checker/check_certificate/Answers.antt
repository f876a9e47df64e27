-- A claim that has a fault is not valid.
use Rattle.std.proofs.Common.{◌∙◌, refl, sym, Result, Ok, Err, IsOk, IsErr}
use Rattle.std.proofs.lemmas.Bool.{false≢true}
use Rattle.line_laws.proofs.ChainLemmas.{latest_from_chain}
use Rattle.line_check.specs.Verdict.{IsFirstFault, misshapen, other_line, inconsistent}
use Rattle.line_check.specs.declared.faults.CertFault.{CertFault}
use Rattle.line_check.proofs.FollowLemmas.{fault-chain, led-to}
use Rattle.line_check.proofs.checker.check_certificate.Goals as goal

-- no result is both
one-of-both : (result : Result Unit CertFault) → IsOk result → IsErr result → ⊥
one-of-both (Ok done) ok err = false≢true err
one-of-both (Err fault) ok err = false≢true ok

pub returns-then-not-has_shape-clause-fault : goal.returns-then-not-has_shape-clause-fault
returns-then-not-has_shape-clause-fault c = rw c.of_no_entry.ensures
    (misshapen (λ shape. false≢true (sym c.if-not-has_shape.true ∙ c.has_shape.ensures.1 shape)))

pub returns-in_err-ceilings-clause-ok : goal.returns-in_err-ceilings-clause-ok
returns-in_err-ceilings-clause-ok c = (
  λ h. absurd (one-of-both c.from_residual.result h c.from_residual.ensures.0),
  λ h. absurd (fault-chain c.args.history.now.processes c.args.marks.now c.args.failed.now
      c.args.certificate.now c.args.line.now
      (c.in_err-ceilings.ensures.fault c.args.line.now h.0) h.0 h.1),
)

-- the entries lead to another line
differs : (c : goal.After-of_no_entry-then-not-is_same)
    → IsFirstFault c.args.history.now.processes c.args.marks.now c.args.failed.now
    c.args.certificate.now c.args.line.now c.of_no_entry-then-not-is_same.result.entry
    c.of_no_entry-then-not-is_same.result.code
differs c =
    rw c.of_no_entry-then-not-is_same.ensures
    (other_line c.in_ok-ceilings.ceilings
    (c.has_shape.ensures.0 c.if-not-has_shape.false) c.in_ok-ceilings.ensures.led
    (λ same. false≢true (sym c.if-not-is_same.true ∙ c.is_same.ensures.1 same)))

pub returns-then-not-is_same-clause-ok : goal.returns-then-not-is_same-clause-ok
returns-then-not-is_same-clause-ok c = (
  λ h. absurd (false≢true h),
  λ h. absurd (fault-chain c.args.history.now.processes c.args.marks.now c.args.failed.now
      c.args.certificate.now c.args.line.now (differs c) h.0 h.1),
)

pub returns-then-not-is_same-clause-fault : goal.returns-then-not-is_same-clause-fault
returns-then-not-is_same-clause-fault c = differs c

pub returns-then-not-is_consistent-clause-fault : goal.returns-then-not-is_consistent-clause-fault
returns-then-not-is_consistent-clause-fault c =
    rw c.of_no_entry-then-not-is_consistent.ensures
    (inconsistent (c.has_shape.ensures.0 c.if-not-has_shape.false)
    (led-to c.args.history.now.processes c.args.marks.now c.args.failed.now c.args.certificate.now
    c.in_ok-ceilings.ceilings c.args.line.now c.in_ok-ceilings.ensures.led
    (c.is_same.ensures.0 c.if-not-is_same.false))
    (λ sound. false≢true (sym c.if-not-is_consistent.true ∙ c.is_consistent.ensures.1 sound)))

pub returns-clause-ok : goal.returns-clause-ok
returns-clause-ok c = (
  λ h. (
    c.has_shape.ensures.0 c.if-not-has_shape.false,
    record {
      leads = led-to c.args.history.now.processes c.args.marks.now c.args.failed.now
          c.args.certificate.now c.in_ok-ceilings.ceilings c.args.line.now
          c.in_ok-ceilings.ensures.led (c.is_same.ensures.0 c.if-not-is_same.false);
      consistent = c.is_consistent.ensures.0 c.if-not-is_consistent.false;
    },
  ),
  λ h. refl,
)

pub returns-clause-latest : goal.returns-clause-latest
returns-clause-latest c = λ h. latest_from_chain c.args.history.now.processes c.args.marks.now
    c.args.failed.now c.args.certificate.now c.args.line.now (record {
      leads = led-to c.args.history.now.processes c.args.marks.now c.args.failed.now
          c.args.certificate.now c.in_ok-ceilings.ceilings c.args.line.now
          c.in_ok-ceilings.ensures.led
          (c.is_same.ensures.0 c.if-not-is_same.false);
      consistent = c.is_consistent.ensures.0 c.if-not-is_consistent.false;
    })
