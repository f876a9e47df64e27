use Rattle.std.proofs.Common.{refl}
use Rattle.line_devices.proofs.OutputLemmas.{outputs_both, outputs_held, outputs_lost}
use Rattle.line_fields.proofs.outlets.add_far.Goals as goal

pub returns-in_err-put_all : goal.returns-in_err-put_all
returns-in_err-put_all g c = outputs_lost _ _ _ _ _ _ _ _ _ (rw c.as_slice.ensures.value at
    c.in_err-put_all.ensures.err) c.in_err-put_all.ensures.failed c.from_residual.ensures.1

pub returns-then-has_spare_room : goal.returns-then-has_spare_room
returns-then-has_spare_room g c = outputs_held _ _ _ _ _ _ _ _
    (rw c.as_slice.ensures.value at c.in_ok-put_all.ensures.ok) c.in_ok-put_all.ensures.sound
    (rw (c.push_text.ensures.text, c.clear.ensures.items) refl)

pub returns : goal.returns
returns g c =
    outputs_both c.put_all-2.result _ _ _ _ _ _ _ _ _
    (rw c.as_slice.ensures.value at c.in_ok-put_all.ensures.ok) c.in_ok-put_all.ensures.sound
    c.clear.ensures.items c.put_all-2.ensures.ok c.put_all-2.ensures.err
    c.put_all-2.ensures.sound c.put_all-2.ensures.failed
