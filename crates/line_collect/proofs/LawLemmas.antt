-- What changes nothing.
use Rattle.std.proofs.Common.{◌≡◌, ◌∙◌, ℕ, ap}
use Rattle.std.specs.Prelude.{None, Option, Result, Some}
use Rattle.line_fields.specs.declared.faults.Fault.{Fault}
use Rattle.line_fields.specs.declared.faults.ReadError.{ReadError}
use Rattle.line_fields.specs.Records.{Record}
use Rattle.line_collect.specs.Answers.{Refused}
use Rattle.line_collect.specs.Collecting.{Faulted, HearsReport, Replied}
use Rattle.line_collect.specs.Lives.{LiveCollectionView}

-- a fault
pub same_after_fault : (old new : Option LiveCollectionView) (one : Result Record Fault)
    (error : ReadError) → HearsReport old one (Faulted error) new → new ≡ old
same_after_fault None new one error h = h.1
same_after_fault (Some collected) new one error h = h.1

-- a refusal
pub same_after_refusal : (old new : Option LiveCollectionView) (one : Result Record Fault)
    (code : ℕ) → HearsReport old one (Replied (Refused code)) new → new ≡ old
same_after_refusal None new one code h = absurd h
same_after_refusal (Some collected) new one code (report, read, later, answers, new_is) =
    new_is ∙ ap (λ (v : LiveCollectionView). Some v) answers.1
