use Rattle.std.proofs.Common.{◌∷◌, map, sym}
use Rattle.std.specs.Prelude.{decimal}
use Rattle.std.specs.List.{join_with_byte}
use Rattle.std.proofs.lemmas.List.{append-nil}
use Rattle.line_devices.proofs.OutputLemmas.{outputs_as, outputs_more}
use Rattle.line_fields.proofs.OutletLemmas.{begun}
use Rattle.line_fields.proofs.outlets.begin_record.Goals as goal

pub returns-then-not-has_room_for_all : goal.returns-then-not-has_room_for_all
returns-then-not-has_room_for_all g c = outputs_as _ _ _ _ _ _ _ _ _
    (sym (append-nil (join_with_byte 44 (c.args.name.now ∷ map decimal c.args.numbers.now))))
    (rw c.writer.view_is at c.begin_far.ensures)

pub returns : goal.returns
returns g c =
    outputs_more tt _ _ _ _ (join_with_byte 44 (c.args.name.now ∷ map decimal c.args.numbers.now))
    (rw c.writer.view_is at (begun _ _ _ c.args.name.now c.args.numbers.now c.push_word.ensures.text
    c.push_numbers.ensures.text))
