use Rattle.std.proofs.Common.{◌∙◌, List, ℕ, ap, arith, sym}
use Rattle.std.proofs.lemmas.List.{length-take-le}
use Rattle.csv.specs.Records.{fields_of}
use Rattle.line_fields.specs.Records.{Record, field}
use Rattle.line_fields.specs.Rows.{fields_held}
use Rattle.line_fields.proofs.EndLemmas.{held_first, held_further, held_past, within_line}
use Rattle.line_fields.proofs.records.FieldRow.field.Goals as goal

pub slice_bounds-result-end : goal.slice_bounds-result-end
slice_bounds-result-end c =
    let s = c.self.inside in
    sym (length-take-le _ _ (within_line s.line.now s.ends.items c.as_slice-ends.result.now
    c.args.place c.as_slice-ends.ensures.value c.self.invariant c.if-place-ends.true).within)

pub returns-then-place-eq0 : goal.returns-then-place-eq0
returns-then-place-eq0 c =
    let s = c.self.inside in
    let view = ap (λ (ends : List ℕ). fields_held s.line.now ends (fields_of s.record))
    c.as_slice-ends.ensures.value ∙ c.self.view_is in
    sym (held_first s.line.now c.as_slice-ends.result.now
    (fields_of s.record) c.args.place c.if-place-ends.true (omega (arith, c.if-place-eq0.true)))
    ∙ ap (λ (fields : Record). field fields c.args.place) view

pub returns-then-place-ends : goal.returns-then-place-ends
returns-then-place-ends c =
    let s = c.self.inside in
    let view = ap (λ (ends : List ℕ). fields_held s.line.now ends (fields_of s.record))
    c.as_slice-ends.ensures.value ∙ c.self.view_is in
    sym (held_further s.line.now c.as_slice-ends.result.now
    (fields_of s.record) c.args.place c.if-place-ends.true (omega
    (arith, c.if-place-eq0.false))) ∙ ap (λ (fields : Record). field fields c.args.place) view

pub returns : goal.returns
returns c =
    let s = c.self.inside in
    let view = ap (λ (ends : List ℕ). fields_held s.line.now ends (fields_of s.record))
    c.as_slice-ends.ensures.value ∙ c.self.view_is in
    sym (held_past s.line.now c.as_slice-ends.result.now (fields_of s.record) c.args.place
    (sym c.is_empty.ensures ∙ c.if-is_empty.false) (omega arith)) ∙ ap
    (λ (fields : Record). field fields c.args.place) view
