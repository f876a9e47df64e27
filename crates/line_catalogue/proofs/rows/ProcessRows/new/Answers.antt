-- The row of a process that has done nothing.
use Rattle.std.proofs.Common.{◌∷◌, [], ℕ, false, List, length, map, ap, ◌∙◌}
use Rattle.std.proofs.Common.{arith}
use Rattle.std.specs.Prelude.{replicate}
use Rattle.std.proofs.lemmas.List.{length-replicate}
use Rattle.line_catalogue.specs.declared.laid.TheConstants.{MOST_PARTS}
use Rattle.line_catalogue.specs.Laid.{row_of}
use Rattle.line_catalogue.specs.Rows.{new_row}
use Rattle.line_catalogue.proofs.FirstRows.{first-shows}
use Rattle.line_catalogue.proofs.LaidLemmas.{Shows}
use Rattle.line_catalogue.proofs.rows.ProcessRows.new.Goals as goal

whole : (c : goal.In_ok-present)
    → Shows c.in_ok-lanes.lanes.items c.in_ok-rows.rows.items false (replicate MOST_PARTS 0)
    c.in_ok-present.present c.args.n (new_row 0 0 (replicate c.args.n 0) ∷ [])
whole c =
    rw (
      c.in_ok-lanes.ensures.items_if_clones_equal (λ y same. same),
      c.in_ok-rows.ensures,
      c.in_ok-present.ensures,
      c.min-first.ensures,
      c.part_count-parts.ensures,
    )
    (first-shows c.args.n c.requires.some)

pub invariant_of-result : goal.invariant_of-result
invariant_of-result c =
    ((whole c).laid, record { rows_fit = omega arith; vectors_fit = omega arith })

pub returns-clause-rows : goal.returns-clause-rows
returns-clause-rows c =
    ap (λ m. map (row_of m c.in_ok-lanes.lanes.items) c.in_ok-rows.rows.items)
    (ap (λ (xs : List ℕ). length xs) c.in_ok-present.ensures ∙ length-replicate c.args.n 0)
    ∙ (whole c).shows
