use Rattle.std.proofs.Common.{◌∷◌, [], refl}
use Rattle.line_devices.proofs.OutputLemmas.{outputs_front, outputs_on}
use Rattle.line_fields.proofs.outlets.add_word.Goals as goal

pub returns-in_err-add : goal.returns-in_err-add
returns-in_err-add g c = outputs_front _ _ _ _
    (44 ∷ []) c.args.word.now _ refl c.in_err-add.ensures c.from_residual.ensures.1

pub returns : goal.returns
returns g c = outputs_on _ (44 ∷ []) c.args.word.now _ refl c.in_ok-add.ensures c.add-2.ensures
