use Rattle.std.proofs.Common.{sym, ◌∙◌}
use Rattle.std.proofs.lemmas.Bool.{false≢true}
use Rattle.line_check.specs.Faults.{not_in_transit, differs, repeated}
use Rattle.line_check.proofs.replays.fault_of_replay.Goals as goal

pub returns-then-not-is_in_transit : goal.returns-then-not-is_in_transit
returns-then-not-is_in_transit c = λ replays apart. not_in_transit
    (λ transit. false≢true (sym c.if-not-is_in_transit.true ∙ c.is_in_transit.ensures.1 transit))

pub returns-then-not-is_due : goal.returns-then-not-is_due
returns-then-not-is_due c = λ replays apart. differs
    (c.is_in_transit.ensures.0 c.if-not-is_in_transit.false)
    (λ due. false≢true (sym c.if-not-is_due.true ∙ c.is_due.ensures.1 due))

pub returns : goal.returns
returns c = λ replays apart. repeated (c.is_in_transit.ensures.0 c.if-not-is_in_transit.false)
    (c.is_due.ensures.0 c.if-not-is_due.false) apart
