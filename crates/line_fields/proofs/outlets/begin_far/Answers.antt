use Rattle.std.proofs.Common.{◌++◌, ◌∷◌, ◌∙◌, List, ℕ, ap, arith}
use Rattle.std.specs.Prelude.{decimal}
use Rattle.std.specs.List.{flat_map}
use Rattle.line_devices.proofs.OutputLemmas.{out_front, out_more, out_none, outputs_front}
use Rattle.line_devices.proofs.OutputLemmas.{outputs_on}
use Rattle.line_fields.proofs.OutletLemmas.{end_left, join_ends, parts_left}
use Rattle.line_fields.proofs.outlets.begin_far.Goals as goal

abbrev part : ℕ → List ℕ
part n = 44 ∷ decimal n

pub returns-in_err-add : goal.returns-in_err-add
returns-in_err-add g c =
    outputs_front _ _ _ _ c.args.name.now (flat_map part c.args.numbers.now ++ c.args.end.now) _
    (join_ends decimal c.args.name.now c.args.numbers.now c.args.end.now)
    c.in_err-add.ensures c.from_residual.ensures.1

pub loop-i-init : goal.loop-i-init
loop-i-init g c = out_more c.args.name.now _ (join_ends decimal c.args.name.now c.args.numbers.now
    c.args.end.now) (out_none _ _ _ _) c.in_ok-add.ensures

pub loop-i-preserved : goal.loop-i-preserved
loop-i-preserved g c = out_more _ _
    (parts_left part c.args.numbers.now c.loop-i.i 0 c.args.end.now (omega arith))
    c.loop-i.invariant
    (rw (c.as_bytes.ensures.value, c.format.ensures.text) at c.in_ok-add_word.ensures)

pub returns-in_err-add_word : goal.returns-in_err-add_word
returns-in_err-add_word g c =
    out_front _ _ _ _ _
    (parts_left part c.args.numbers.now c.loop-i.i 0 c.args.end.now (omega arith))
    c.loop-i.invariant (rw (c.as_bytes.ensures.value, c.format.ensures.text) at
    c.in_err-add_word.ensures) c.from_residual-in_err-add_word.ensures.1

pub returns : goal.returns
returns g c =
    let before = c.loop-i.invariant in
    outputs_on _ before.done c.args.end.now _
    (before.parts ∙ ap (λ (t : List ℕ). before.done ++ t) (end_left part c.args.numbers.now
    c.loop-i.i c.args.end.now (omega arith))) before.out c.add-2.ensures
