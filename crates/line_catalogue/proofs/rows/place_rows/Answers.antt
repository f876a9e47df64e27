-- From the last check back to one that stands where it did.
use Rattle.std.proofs.Common.{◌≡◌, ◌<◌, ◌-◌, ℕ, List, length, get_or, inl, inr, sym, ap, ◌∙◌, arith}
use Rattle.std.proofs.lemmas.Bool.{cases_lt}
use Rattle.std.proofs.lemmas.List.{get_or_default}
use Rattle.line_names.specs.declared.choices.Choice.TheVariants.{Check as AtCheck}
use Rattle.line_tape.specs.declared.events.Event.{Event}
use Rattle.line_tape.specs.Front.{place}
use Rattle.line_catalogue.specs.declared.kept_rows.KeptRow.{KeptRow}
use Rattle.line_catalogue.proofs.LaidLemmas.{laid-same, placed-shown, step-kept}
use Rattle.line_catalogue.proofs.rows.place_rows.Goals as goal

pub returns-then-index-place-clause-rows : goal.returns-then-index-place-clause-rows
returns-then-index-place-clause-rows c = λ n lanes in_step.
    let tape : List Event = c.args.tape.now.events in
    let old : List KeptRow = c.args.rows.now.items in
    let rows : List KeptRow = c.loop-c.rows.items in
    let at : ℕ = c.loop-c.c - 1 in
    let within : at < length old = omega (arith, c.loop-c.invariant.within) in
    let row : KeptRow = c.index.result.now in
    let told : c.unwrap-place.result
    ≡ place tape (AtCheck at) = (rw c.unwrap-place.ensures at c.place.ensures).1 in
    let same : (d : KeptRow) → (get_or old at d).place ≡ place tape (AtCheck at) = λ d.
    sym (c.loop-c.invariant.left at d (omega arith)) ∙ ap (λ (r : KeptRow). r.place)
    (get_or_default rows at d row (omega (arith, within, c.loop-c.invariant.count)) ∙ sym
    c.index.ensures) ∙ c.if-index-place.true ∙ told
    in
    placed-shown tape old rows n lanes (record {
      count = c.loop-c.invariant.count;
      places = λ k d h. elim (cases_lt k c.loop-c.c) [
        | inl below ↦ c.loop-c.invariant.left k d below ∙ step-kept tape old n lanes in_step k at d
            (omega (arith, below)) within (same d)
        | inr behind ↦ c.loop-c.invariant.placed k d (omega arith) h
      ];
      sends_same = c.loop-c.invariant.sends_same;
      damaged_same = c.loop-c.invariant.damaged_same;
      start_same = c.loop-c.invariant.start_same;
    })

pub returns-then-index-place-clause-laid : goal.returns-then-index-place-clause-laid
returns-then-index-place-clause-laid c = laid-same c.args.rows.now.items c.loop-c.rows.items
    c.loop-c.invariant.count c.loop-c.invariant.start_same

pub returns-clause-rows : goal.returns-clause-rows
returns-clause-rows c = λ n lanes in_step.
    placed-shown c.args.tape.now.events c.args.rows.now.items c.loop-c.rows.items n lanes (record {
      count = c.loop-c.invariant.count;
      places = λ k d h. c.loop-c.invariant.placed k d (omega arith) h;
      sends_same = c.loop-c.invariant.sends_same;
      damaged_same = c.loop-c.invariant.damaged_same;
      start_same = c.loop-c.invariant.start_same;
    })
