use Rattle.line_devices.proofs.OutputLemmas.{outputs_more}
use Rattle.line_fields.proofs.outlets.add.Goals as goal

pub returns : goal.returns
returns g c = outputs_more tt _ _ c.args.text.now.items _ c.args.bytes.now c.push_word.ensures.text
