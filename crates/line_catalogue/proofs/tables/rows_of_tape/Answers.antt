-- One event more, and what it adds.
use Rattle.std.proofs.Common.{◌≡◌, ◌+◌, ◌++◌, ◌∷◌, [], ◌<◌, List, ℕ, Bor, length, take, get_or}
use Rattle.std.proofs.Common.{refl, sym, ap, ◌∙◌, subst, arith}
use Rattle.std.proofs.lemmas.List.{take_more, length-take}
use Rattle.std.proofs.lemmas.Option.{get_or_from_slice_get}
use Rattle.line_tape.specs.declared.events.Event.{Event}
use Rattle.line_tape.specs.declared.events.Event.TheVariants.{Recv, Check, Mark}
use Rattle.line_tape.specs.declared.events.EventRef.{EventRef}
use Rattle.line_tape.specs.declared.events.EventRef.TheVariants.{Send as SendRef, Recv as RecvRef}
use Rattle.line_tape.specs.declared.events.EventRef.TheVariants.{Check as CheckRef, Mark as MarkRef}
use Rattle.line_tape.specs.Event.{sends, NamesBelow}
use Rattle.line_tape.specs.Shown.{event_of_ref}
use Rattle.line_tape.proofs.RowLemmas.{checks_le, sends_le}
use Rattle.line_vectors.specs.Reach.{reach_of}
use Rattle.line_vectors.proofs.ReachLemmas.{length-reach, reach-none}
use Rattle.line_catalogue.specs.declared.kept_rows.Row.{Row}
use Rattle.line_catalogue.specs.Kept.{RowsView}
use Rattle.line_catalogue.specs.Rows.{AreRows, vector_after_event, row_added, with_row}
use Rattle.line_catalogue.proofs.CheckLemmas.{AreRows-added, AreRows-start, heard-added, sends-more}
use Rattle.line_catalogue.proofs.CheckLemmas.{sends-same}
use Rattle.line_catalogue.proofs.tables.rows_of_tape.Goals.{in-Send, in_default}
use Rattle.line_catalogue.proofs.tables.rows_of_tape.Goals as goal

-- no other event than a send is one
unsent : (tape : List Event) (event : EventRef) → ((to inc : ℕ) (body : Bor (List ℕ))
    → event ≡ SendRef to inc body → ⊥) → sends (tape ++ event_of_ref event ∷ []) ≡ sends tape
unsent tape (SendRef to inc body) not = absurd (not to inc body refl)
unsent tape (RecvRef message) not = sends-same tape (Recv message) refl
unsent tape (CheckRef state round) not = sends-same tape (Check state.now round) refl
unsent tape (MarkRef from round) not = sends-same tape (Mark from round) refl

pub loop-i-init : goal.loop-i-init
loop-i-init c = record {
  rows = AreRows-start c.args.n c.in_ok-process.process.rows c.in_ok-process.ensures.rows;
  present = c.in_ok-process.ensures.present ∙ sym (reach-none c.args.n);
  sent_is = refl;
}

pub append-requires-clause-few : goal.append-requires-clause-few
append-requires-clause-few c =
    let events : List Event = c.args.tape.now.events in
    let i : ℕ = c.loop-i.i in
    let within : i < length events = omega (arith, c.loop-i-test.true, c.len-i-end.ensures.value) in
    omega (
      arith,
      within,
      ap
          (λ (xs : List Row). length xs) c.reserve.ensures.same.0,
      c.loop-i.invariant.rows.count,
      checks_le (take i events),
      length-take i events,
      c.len-i-end.ensures.limits.few,
    )

pub append-requires-clause-named : goal.append-requires-clause-named
append-requires-clause-named c =
    let n : ℕ = c.args.n in
    let events : List Event = c.args.tape.now.events in
    let i : ℕ = c.loop-i.i in
    let es : List Event = take i events in
    let event : Event = event_of_ref c.event-event.result in
    let within : i < length events = omega (arith, c.loop-i-test.true, c.len-i-end.ensures.value) in
    let at : get_or events i event
    ≡ event = get_or_from_slice_get events i event event c.event-event.ensures in
    let named : NamesBelow n event = subst (NamesBelow n) at (c.requires.named i event within) in
    let long : length c.reserve.new.self.present ≡ n = ap (λ (xs : List ℕ). length xs)
    (c.reserve.ensures.same.1 ∙ c.loop-i.invariant.present) ∙ length-reach n es in
    subst (λ k. NamesBelow k event) (sym long) named

pub overflow_add-sent : goal.overflow_add-sent
overflow_add-sent c =
    let events : List Event = c.args.tape.now.events in
    let i : ℕ = c.loop-i.i in
    omega (
      arith,
      c.loop-i-test.true,
      c.len-i-end.ensures.value,
      c.loop-i.invariant.sent_is,
      sends_le (take i events),
      length-take i events,
      c.len-i-end.ensures.limits.few,
    )

pub loop-i-preserved : goal.loop-i-preserved
loop-i-preserved c =
    let n : ℕ = c.args.n in
    let events : List Event = c.args.tape.now.events in
    let i : ℕ = c.loop-i.i in
    let es : List Event = take i events in
    let event : Event = event_of_ref c.event-event.result in
    let within : i < length events = omega (arith, c.loop-i-test.true, c.len-i-end.ensures.value) in
    let at : get_or events i event
    ≡ event = get_or_from_slice_get events i event event c.event-event.ensures in
    let named : NamesBelow n event = subst (NamesBelow n) at (c.requires.named i event within) in
    let old : RowsView = c.loop-i.process in
    let more : take (i + 1) events ≡ es
    ++ event ∷ [] = take_more events i event within ∙ ap (λ (e : Event). es ++ e ∷ []) at in
    let place : i + 1 ≡ length es + 1 = omega (arith, within, length-take i events) in
    let rows : c.append.new.self.rows
    ≡ with_row old.rows (row_added (length es + 1) (sends es) old.present event) =
    c.append.ensures.rows
    ∙ ap (λ (xs : List Row). with_row xs
    (row_added (i + 1) c.loop-i.sent c.reserve.new.self.present event)) c.reserve.ensures.same.0
    ∙ ap (λ (ys : List ℕ). with_row old.rows (row_added (i + 1) c.loop-i.sent ys event))
    c.reserve.ensures.same.1
    ∙ ap (λ k. with_row old.rows (row_added k c.loop-i.sent old.present event)) place
    ∙ ap (λ k. with_row old.rows (row_added (length es + 1) k old.present event))
    c.loop-i.invariant.sent_is
    in
    record {
      rows = subst (λ (xs : List Event). AreRows n xs [] c.append.new.self.rows) (sym more)
          (subst (AreRows n (es ++ event ∷ []) []) (sym rows)
          (AreRows-added n es event [] old.rows old.present
          (λ k d h. absurd (omega (arith, h))) c.loop-i.invariant.present c.loop-i.invariant.rows));
      present = c.append.ensures.present ∙ ap
          (λ (ys : List ℕ). vector_after_event ys event) c.reserve.ensures.same.1 ∙ heard-added n es
          event old.present named c.loop-i.invariant.present ∙ ap (reach_of n) (sym more);
      sent_is = elim c.match-event.branch [
        | in-Send w ↦ w.sent-is ∙ ap (λ k. k + 1) c.loop-i.invariant.sent_is ∙ sym
            (sends-more es w.in-Send.to w.in-Send.inc w.in-Send.body.now) ∙ ap (λ (e : Event). sends
            (es ++ e ∷ [])) (sym (ap event_of_ref w.in-Send.is)) ∙ ap sends (sym more)
        | in_default w ↦ w.sent-is ∙ c.loop-i.invariant.sent_is ∙ sym
            (unsent es c.event-event.result w.in_default.not-Send) ∙ ap sends (sym more)
      ];
    }
