use Rattle.std.proofs.Common.{◌∷◌, [], ◌∙◌, List, ℕ, ap, arith, refl, sym}
use Rattle.std.specs.List.{flat_map}
use Rattle.std.proofs.lemmas.List.{append-nil}
use Rattle.line_devices.proofs.OutputLemmas.{out_all, out_front, out_more, out_none, outputs_front}
use Rattle.line_devices.proofs.OutputLemmas.{outputs_more, outputs_on}
use Rattle.line_fields.specs.Texts.{hex_pair, hex_text}
use Rattle.line_fields.proofs.OutletLemmas.{digits_of, end_left, parts_left}
use Rattle.line_fields.proofs.outlets.add_bytes.Goals as goal

pub returns-in_err-add : goal.returns-in_err-add
returns-in_err-add g c = outputs_front _ _ _ _ (44 ∷ [])
    (hex_text c.args.bytes.now) _ refl c.in_err-add.ensures c.from_residual.ensures.1

pub returns-then-has_spare_room : goal.returns-then-has_spare_room
returns-then-has_spare_room g c = outputs_on _ (44 ∷ [])
    (hex_text c.args.bytes.now) _ refl c.in_ok-add.ensures
    (outputs_more tt _ _ c.add.new.text.items _ (hex_text c.args.bytes.now) c.push_hex.ensures)

pub loop-i-init : goal.loop-i-init
loop-i-init g c =
    out_more (44 ∷ []) _ (ap (λ (ds : List ℕ). 44 ∷ ds) (digits_of c.args.bytes.now ∙ sym
    (append-nil (flat_map hex_pair c.args.bytes.now)))) (out_none _ _ _ _) c.in_ok-add.ensures

pub loop-i-preserved : goal.loop-i-preserved
loop-i-preserved g c = out_more _ _
    (parts_left hex_pair c.args.bytes.now c.loop-i.i 0 [] (omega arith)) c.loop-i.invariant
    (rw (c.hex_digit.ensures, c.hex_digit-in-loop-i.ensures) at c.in_ok-add-2.ensures)

pub returns-in_err-add-2 : goal.returns-in_err-add-2
returns-in_err-add-2 g c =
    out_front _ _ _ _ _
    (parts_left hex_pair c.args.bytes.now c.loop-i.i 0 [] (omega arith)) c.loop-i.invariant
    (rw (c.hex_digit.ensures, c.hex_digit-in-loop-i.ensures) at c.in_err-add-2.ensures)
    c.from_residual-in_err-add-2.ensures.1

pub returns : goal.returns
returns g c =
    out_all tt (end_left hex_pair c.args.bytes.now c.loop-i.i [] (omega arith)) c.loop-i.invariant
