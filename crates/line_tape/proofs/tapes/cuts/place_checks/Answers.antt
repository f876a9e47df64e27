-- From the last check back to those that are settled.
use Rattle.std.proofs.Common.{◌≡◌, ◌<◌, ◌+◌, ◌-◌, length, take, refl, sym, ap, ◌∙◌, subst, arith}
use Rattle.line_tape.specs.declared.tapes.CheckRow.{CheckRow}
use Rattle.line_tape.specs.Event.{checks}
use Rattle.line_tape.specs.Shown.{event_of_ref}
use Rattle.line_tape.proofs.ShownLemmas.{shown_is}
use Rattle.line_tape.proofs.IndexLemmas.{ArePlaced, placed-start, placed-other, placed-some}
use Rattle.line_tape.proofs.IndexLemmas.{placed-within, placed-check, placed-done}
use Rattle.line_tape.proofs.tapes.cuts.place_checks.Goals as goal

pub loop-i-init : goal.loop-i-init
loop-i-init c = record {
  placed = subst
      (λ k. ArePlaced c.args.events.now c.args.rows.now.items c.args.rows.now.items k
      c.len-index.result) (sym c.len-i.ensures)
      (placed-start c.args.events.now c.args.rows.now.items c.len-index.result c.requires.count
      (omega (arith, c.len-index.ensures, c.args.rows.now.ok.0)));
  from = omega (arith, c.len-i.ensures, c.requires.within);
  many = refl;
  capacity = refl;
}

pub overflow_sub-index : goal.overflow_sub-index
overflow_sub-index c =
    placed-some c.args.events.now c.args.rows.now.items c.loop-i.rows.items c.loop-i.i
    c.loop-i.index (event_of_ref c.at.result) (omega arith) (omega arith)
    (shown_is c.args.events.now (c.loop-i.i - 1) (event_of_ref c.at.result) c.at.ensures)
    c.loop-i.invariant.placed (sym c.is_check.ensures ∙ c.if-is_check.true)

pub index_mut-requires : goal.index_mut-requires
index_mut-requires c =
    let within : c.loop-i.index - 1 < length c.loop-i.rows.items = placed-within c.args.events.now
    c.args.rows.now.items c.loop-i.rows.items c.loop-i.i c.loop-i.index
    (event_of_ref c.at.result) (omega arith) (omega arith)
    (shown_is c.args.events.now (c.loop-i.i - 1) (event_of_ref c.at.result) c.at.ensures)
    c.loop-i.invariant.placed (sym c.is_check.ensures ∙ c.if-is_check.true) c.requires.count in
    omega (arith, c.loop-i.rows.ok.0)

pub loop-i-preserved-then-is_check : goal.loop-i-preserved-then-is_check
loop-i-preserved-then-is_check c =
    let row : CheckRow = c.index_mut.result.now in
    record {
      placed = placed-check c.args.events.now c.args.rows.now.items c.loop-i.rows.items c.loop-i.i
          c.loop-i.index (event_of_ref c.at.result) (omega arith) (omega arith)
          (shown_is c.args.events.now (c.loop-i.i - 1) (event_of_ref c.at.result) c.at.ensures)
          c.loop-i.invariant.placed row (record row { place = c.loop-i.i - 1 + 1 })
          (sym c.is_check.ensures ∙ c.if-is_check.true) c.requires.count c.index_mut.ensures.value
          (omega arith) refl refl;
      from = omega arith;
      many = c.loop-i.invariant.many;
      capacity = c.loop-i.invariant.capacity;
    }

pub loop-i-preserved : goal.loop-i-preserved
loop-i-preserved c = record {
  placed = placed-other c.args.events.now c.args.rows.now.items c.loop-i.rows.items c.loop-i.i
      c.loop-i.index (event_of_ref c.at.result) (omega arith) (omega arith)
      (shown_is c.args.events.now (c.loop-i.i - 1) (event_of_ref c.at.result) c.at.ensures)
      c.loop-i.invariant.placed (sym c.is_check.ensures ∙ c.if-is_check.false);
  from = omega arith;
  many = c.loop-i.invariant.many;
  capacity = c.loop-i.invariant.capacity;
}

pub returns-clause-rows : goal.returns-clause-rows
returns-clause-rows c =
    let last : c.loop-i.i ≡ c.args.settled = omega (arith, c.loop-i.invariant.from) in
    placed-done c.args.events.now c.args.rows.now.items c.loop-i.rows.items c.loop-i.i
    c.loop-i.index c.loop-i.invariant.placed (λ k d within. c.requires.places k d
    (omega (arith, ap (λ n. checks (take n c.args.events.now)) last)))
