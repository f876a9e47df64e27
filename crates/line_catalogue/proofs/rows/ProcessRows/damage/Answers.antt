-- One row is damaged, and its vector stands where it stood.
use Rattle.std.proofs.Common.{true, ◌<◌, List, length, set, ap, ◌∙◌, arith}
use Rattle.std.proofs.lemmas.List.{length-map, length-set}
use Rattle.line_catalogue.specs.declared.kept_rows.KeptRow.{KeptRow}
use Rattle.line_catalogue.specs.Kept.{RowsView}
use Rattle.line_catalogue.specs.Laid.{row_of}
use Rattle.line_catalogue.specs.Rows.{with_damage}
use Rattle.line_catalogue.proofs.LaidLemmas.{damage-shown, damage-start, laid-same}
use Rattle.line_catalogue.proofs.rows.ProcessRows.damage.Goals as goal

there : (c : goal.After-self-1) → c.args.check < length c.self.inside.rows.items
there c = omega (
  arith,
  c.requires,
  ap (λ (v : RowsView). length v.rows) c.self.view_is,
  length-map
      c.self.inside.rows.items (row_of (length c.self.inside.present) c.self.inside.lanes.items),
)

pub invariant_of-self : goal.invariant_of-self
invariant_of-self c =
    let rows : List KeptRow = c.self.inside.rows.items in
    let row : KeptRow = c.index_mut.result.now in
    let new : KeptRow = record row { damaged = true } in (
      laid-same rows (set rows c.args.check new) (length-set rows c.args.check new)
          (damage-start rows c.args.check row (there c) c.index_mut.ensures.value)
          c.self.inside.lanes.items c.self.inside.heard c.self.inside.starts
          c.self.inside.present c.self.invariant.0,
      c.self.invariant.1,
    )

pub returns-clause-rows : goal.returns-clause-rows
returns-clause-rows c =
    damage-shown c.self.inside.rows.items c.args.check c.index_mut.result.now
    (there c) c.index_mut.ensures.value (length c.self.inside.present) c.self.inside.lanes.items
    ∙ ap (λ (v : RowsView). with_damage v.rows c.args.check) c.self.view_is
