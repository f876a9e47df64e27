use Rattle.std.proofs.Common.{sym}
use Rattle.line_devices.proofs.OutputLemmas.{outputs_as, outputs_none}
use Rattle.line_fields.proofs.OutletLemmas.{one_text}
use Rattle.line_claims.specs.Records.{bar_record}
use Rattle.line_claims.proofs.marks.put_bar_of.Goals as goal

pub returns-in-Some : goal.returns-in-Some
returns-in-Some g c = rw (sym c.in-Some.ensures) (outputs_as _ _ _ _ _ _ _ _ _ (one_text
    (bar_record c.args.p c.in-Some.bar)) (rw c.get-place.ensures.value at c.put_numbers.ensures))

pub returns-in-None : goal.returns-in-None
returns-in-None g c = rw (sym c.in-None.ensures) (outputs_none _ _ _ _)
