use Rattle.std.proofs.Common.{◌≡◌, ◌<◌, ◌≤◌, ℕ, List, get_or, length, sym, arith}
use Rattle.std.proofs.lemmas.Option.{get_or_from_slice_get, slice_get_within}
use Rattle.line_devices.proofs.OutputLemmas.{out_all, out_front, out_more, out_none}
use Rattle.line_fields.proofs.OutletLemmas.{item_left, no_item_left}
use Rattle.line_tape.specs.declared.events.Event.{Event}
use Rattle.line_tape.specs.Shown.{event_of_ref}
use Rattle.line_claims.specs.Ranges.{FitsWords}
use Rattle.line_claims.specs.Records.{event_record}
use Rattle.line_claims.proofs.MemoryLemmas.{front_fits}
use Rattle.line_claims.proofs.writers.put_events.Goals as goal

pub loop-i-init : goal.loop-i-init
loop-i-init g c = record { part = out_none _ _ _ _; fits = tt }

pub loop-i-preserved : goal.loop-i-preserved
loop-i-preserved g c =
    let events : List Event = c.args.events.now in
    let i : ℕ = c.loop-i.i in
    let event : Event = event_of_ref c.at.result in
    let within : i < length events = slice_get_within events i event c.at.ensures in
    let there : event
    ≡ get_or events i event = sym (get_or_from_slice_get events i event event c.at.ensures) in
    let next = item_left event_record events i event within there in
    record {
      part = out_more _ _ next c.loop-i.invariant.part c.in_ok-put_event.ensures.put;
      fits = front_fits FitsWords events i event within there c.loop-i.invariant.fits
          c.in_ok-put_event.ensures.fits;
    }

pub returns-in_err-put_event-clause-put : goal.returns-in_err-put_event-clause-put
returns-in_err-put_event-clause-put g c =
    let events : List Event = c.args.events.now in
    let i : ℕ = c.loop-i.i in
    let event : Event = event_of_ref c.at.result in
    let within : i < length events = slice_get_within events i event c.at.ensures in
    let there : event
    ≡ get_or events i event = sym (get_or_from_slice_get events i event event c.at.ensures) in
    let next = item_left event_record events i event within there in
    out_front _ _ _ _ _ next c.loop-i.invariant.part c.in_err-put_event.ensures.put
    c.from_residual.ensures.1

pub returns-clause-put : goal.returns-clause-put
returns-clause-put g c =
    let le : length c.args.events.now ≤ c.loop-i.i = omega arith in
    out_all tt (no_item_left event_record c.args.events.now c.loop-i.i le) c.loop-i.invariant.part
