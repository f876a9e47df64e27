use Rattle.std.proofs.Common.{refl}
use Rattle.line_check.proofs.checker.check_consistent.Goals as goal

pub returns-clause-ok : goal.returns-clause-ok
returns-clause-ok c = (
  λ h. (
    c.is_line.ensures.0 c.if-not-is_line.false,
    c.is_consistent.ensures.0
        c.if-not-is_consistent.false,
  ),
  λ h. refl,
)

pub returns-clause-consistent : goal.returns-clause-consistent
returns-clause-consistent c =
    (λ h. absurd cc, λ h. absurd (h.1 (c.is_consistent.ensures.0 c.if-not-is_consistent.false)))
