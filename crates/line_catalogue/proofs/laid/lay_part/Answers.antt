-- The part is put after the lanes, and begins where they ended.
use Rattle.std.proofs.Common.{◌≡◌, ◌-◌, ◌*◌, ◌<◌, ℕ, List, length, take, drop, ap}
use Rattle.std.proofs.Common.{min, ◌∙◌, arith}
use Rattle.std.proofs.lemmas.List.{length-set}
use Rattle.line_vectors.specs.declared.parts.TheConstants.{PART}
use Rattle.line_vectors.proofs.PartLemmas.{part-length}
use Rattle.line_catalogue.proofs.LayLemmas.{part-laid}
use Rattle.line_catalogue.proofs.laid.lay_part.Goals as goal

-- how long the part is
long : (present lanes part : List ℕ) (k : ℕ) → k * PART < length present → lanes ≡ present
    → part ≡ take PART (drop (k * PART) lanes) → length part ≡ min PART (length present - k * PART)
long present lanes part k before lanes_is part_is =
    ap (λ (xs : List ℕ). length xs) (part_is ∙ ap (λ (xs : List ℕ). take PART (drop (k * PART) xs))
    lanes_is) ∙ part-length present k before

pub unwrap-requires : goal.unwrap-requires
unwrap-requires c = c.extend_from_slice.ensures.succeeds (omega (
  arith,
  c.requires.room,
  long c.args.present.now c.lanes.result.now c.part_of_lanes.result.now c.args.k
      (omega (arith, c.requires.part)) c.lanes.ensures c.part_of_lanes.ensures,
))

pub returns-then-starts-k-clause-few : goal.returns-then-starts-k-clause-few
returns-then-starts-k-clause-few c = grind (
  arith,
  c.extend_from_slice.ensures.len,
  c.unwrap.ensures,
  long c.args.present.now c.lanes.result.now c.part_of_lanes.result.now c.args.k
      (omega (arith, c.requires.part)) c.lanes.ensures c.part_of_lanes.ensures,
)

pub returns-then-starts-k-clause-held : goal.returns-then-starts-k-clause-held
returns-then-starts-k-clause-held c =
    let start : c.len-start.result ≡ length c.args.lanes.now.items = omega
    (arith, c.len-start.ensures, c.args.lanes.now.ok.0) in
    rw (
      c.extend_from_slice.ensures.items,
      c.unwrap.ensures,
      c.part_of_lanes.ensures,
      c.lanes.ensures,
      start,
    )
    (part-laid c.args.lanes.now.items c.args.starts.now c.args.present.now c.args.k
    (omega (
      arith,
      c.requires.part,
      c.requires.few_parts,
      c.unwrap.array_long,
      length-set c.args.starts.now c.args.k c.len-start.result,
    )) c.requires.part c.requires.held)
