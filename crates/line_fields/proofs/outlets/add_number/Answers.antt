use Rattle.std.proofs.Common.{◌∷◌, sym}
use Rattle.std.specs.Prelude.{decimal}
use Rattle.std.proofs.lemmas.List.{append-nil}
use Rattle.line_devices.proofs.OutputLemmas.{outputs_as, outputs_more}
use Rattle.line_fields.proofs.outlets.add_number.Goals as goal

pub returns-then-not-has_spare_room : goal.returns-then-not-has_spare_room
returns-then-not-has_spare_room g c =
    outputs_as _ _ _ _ _ _ _ _ _ (sym (append-nil (44 ∷ decimal c.args.value))) c.begin_far.ensures

pub returns : goal.returns
returns g c = outputs_more tt _ _ c.args.text.now.items _
    (44 ∷ decimal c.args.value) c.push_field.ensures.text
