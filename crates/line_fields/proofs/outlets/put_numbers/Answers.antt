use Rattle.std.proofs.Common.{◌∷◌, map}
use Rattle.std.specs.Prelude.{decimal}
use Rattle.line_devices.proofs.OutputLemmas.{outputs_more}
use Rattle.line_fields.specs.Texts.{record_text}
use Rattle.line_fields.proofs.OutletLemmas.{begun, ended}
use Rattle.line_fields.proofs.outlets.put_numbers.Goals as goal

pub returns : goal.returns
returns g c =
    outputs_more tt _ _ _ _ (record_text (c.args.name.now ∷ map decimal c.args.numbers.now))
    (rw c.writer.view_is at (ended _ _ _ (c.args.name.now ∷ map decimal c.args.numbers.now)
    (begun _ _ _ c.args.name.now c.args.numbers.now c.push_word.ensures.text
    c.push_numbers.ensures.text) c.push_reserved.ensures.items))
