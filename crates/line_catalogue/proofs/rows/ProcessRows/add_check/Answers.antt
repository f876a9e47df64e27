-- The vector of the new row is the last among the lanes.
use Rattle.std.proofs.Common.{◌≡◌, ◌+◌, ◌-◌, ◌*◌, ◌++◌, ◌∷◌, [], ℕ, false, List, length}
use Rattle.std.proofs.Common.{map, take, ap, sym, ◌∙◌, vec_len, arith}
use Rattle.std.proofs.lemmas.List.{length-map}
use Rattle.std.proofs.Math.Nat.{add-mul}
use Rattle.line_vectors.specs.Parts.{part_count}
use Rattle.line_catalogue.specs.Kept.{RowsView}
use Rattle.line_catalogue.specs.Laid.{row_of, width_of}
use Rattle.line_catalogue.specs.Rows.{new_row}
use Rattle.line_catalogue.proofs.LaidLemmas.{Shows, few-lanes, row-laid}
use Rattle.line_catalogue.proofs.rows.ProcessRows.add_check.Goals as goal

pub lay-requires-clause-few : goal.lay-requires-clause-few
lay-requires-clause-few c =
    few-lanes (length c.self.inside.rows.items) (vec_len c.self.inside.lanes)
    (length c.self.inside.present) (omega (
      arith,
      c.requires.few,
      ap (λ (v : RowsView). length v.rows) c.self.view_is,
      length-map c.self.inside.rows.items
          (row_of (length c.self.inside.present) c.self.inside.lanes.items),
    )) c.n.ensures.limit (omega (arith, c.self.invariant.0.few, c.self.inside.lanes.ok.0))

pub overflow_cast-len : goal.overflow_cast-len
overflow_cast-len c = omega (
  arith,
  c.len.ensures,
  c.lay.ensures.len,
  few-lanes (length c.self.inside.rows.items) (vec_len c.self.inside.lanes)
      (length c.self.inside.present) (omega (
        arith,
        c.requires.few,
        ap (λ (v : RowsView). length v.rows) c.self.view_is,
        length-map c.self.inside.rows.items
            (row_of (length c.self.inside.present) c.self.inside.lanes.items),
      )) c.n.ensures.limit (omega (arith, c.self.invariant.0.few, c.self.inside.lanes.ok.0)),
)

whole : (c : goal.After-self-2-1)
    → Shows c.lay.new.lanes.items c.push_reserved.new.self.items false c.lay.new.starts
    c.self.inside.present (length c.self.inside.present)
    (map (row_of (length c.self.inside.present) c.self.inside.lanes.items) c.self.inside.rows.items
    ++ new_row c.args.place c.args.sends c.self.inside.present ∷ [])
whole c =
    let lanes : List ℕ = c.self.inside.lanes.items in
    let longer : List ℕ = c.lay.new.lanes.items in
    let present : List ℕ = c.self.inside.present in
    let start : c.len.result - c.part_count-parts.result
    ≡ length longer - part_count (length present) =
    omega (
      arith,
      c.len.ensures,
      c.lay.new.lanes.ok.0,
      c.part_count-parts.ensures,
      ap part_count c.n.ensures.value,
    )
    in
    let kept : take (length lanes) longer ≡ lanes =
    ap (λ k. take k longer) (sym c.self.inside.lanes.ok.0) ∙ c.lay.ensures.kept in
    rw (c.push_reserved.ensures.items, start)
    (row-laid lanes longer c.self.inside.starts c.lay.new.starts present
    c.self.inside.rows.items c.self.inside.heard c.args.place c.args.sends c.self.invariant.0 kept
    (omega (arith, c.lay.ensures.longer, c.self.inside.lanes.ok.0, c.lay.new.lanes.ok.0))
    (omega (arith, c.lay.ensures.len, c.self.inside.lanes.ok.0, c.lay.new.lanes.ok.0))
    c.lay.ensures.last c.lay.ensures.held)

-- the room is one more than what is left of it
room-split : (c : goal.After-self-2-1) → c.self.inside.room ≡ c.self.inside.room - 1 + 1
room-split c = omega (arith, c.requires.room, ap (λ (v : RowsView). v.room) c.self.view_is)

pub invariant_of-self : goal.invariant_of-self
invariant_of-self c = (
  (whole c).laid,
  record {
    rows_fit = omega (
      arith,
      c.self.invariant.1.rows_fit,
      c.push_reserved.ensures.len,
      c.push_reserved.ensures.capacity,
    );
    vectors_fit = omega (
      arith,
      c.self.invariant.1.vectors_fit,
      c.requires.room,
      ap (λ (v : RowsView). v.room) c.self.view_is,
      c.lay.ensures.len,
      c.lay.ensures.capacity,
      add-mul (c.self.inside.room - 1) 1 (width_of (length c.self.inside.present)),
      ap (λ k. k * width_of (length c.self.inside.present)) (room-split c),
    );
  },
)

pub returns-clause-rows : goal.returns-clause-rows
returns-clause-rows c =
    (whole c).shows ∙ ap
    (λ (v : RowsView). v.rows ++ new_row c.args.place c.args.sends v.present ∷ [])
    c.self.view_is
