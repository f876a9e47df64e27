-- Receipt by receipt.
use Rattle.std.proofs.Common.{◌≡◌, ◌<◌, ◌≤◌, suc, ◌+◌, ◌++◌, ◌∷◌, [], ℕ, List, length, take, get_or}
use Rattle.std.proofs.Common.{refl, sym, ap, ◌∙◌, subst, arith}
use Rattle.std.specs.List.{slice_get}
use Rattle.std.specs.Prelude.{Some}
use Rattle.std.proofs.lemmas.List.{take_all}
use Rattle.std.proofs.lemmas.Option.{get_or_from_slice_get, slice_get_within}
use Rattle.line_names.specs.declared.messages.MsgName.{MsgName}
use Rattle.line_names.specs.Lines.{choice_at}
use Rattle.line_tape.specs.declared.events.Event.{Event}
use Rattle.line_tape.specs.declared.events.Event.TheVariants.{Recv}
use Rattle.line_tape.specs.Front.{front, place}
use Rattle.line_tape.specs.History.{tape_at}
use Rattle.line_tape.specs.Line.{events_before}
use Rattle.line_tape.specs.Received.{with_seen, AreTold}
use Rattle.line_tape.specs.Transit.{names_received}
use Rattle.line_tape.proofs.ReceivedLemmas.{name_before, names_within, receipt_of, receipts_of}
use Rattle.line_tape.proofs.ReceivedLemmas.{seen-next, seen-receipts, seen-start, told-alike}
use Rattle.line_tape.proofs.ReceivedLemmas.{told-same}
use Rattle.line_tape.proofs.flags.add_receipts.Goals as goal

pub loop-i-init : goal.loop-i-init
loop-i-init c = record {
  count = refl;
  told = λ seen told. told-same c.args.history.now.processes c.args.line.now seen (with_seen seen
      c.args.q (seen c.args.q ++ [])) c.args.received.now.items (seen-start seen c.args.q) told;
}

pub receipt-requires : goal.receipt-requires
receipt-requires c =
    let tape : List Event = c.tape-tape.result.now.events in
    let before : List Event = front tape c.at-choice.result in
    names_within tape (place tape c.at-choice.result) c.loop-i.i
    (omega (arith, c.receipts_before-i-end.ensures))

pub loop-i-preserved : goal.loop-i-preserved
loop-i-preserved c =
    let i : ℕ = c.loop-i.i in
    let tape : List Event = tape_at c.args.history.now.processes c.args.q in
    let n : ℕ = place tape (choice_at c.args.line.now c.args.q) in
    let names : List MsgName = names_received
    (events_before c.args.history.now.processes c.args.line.now c.args.q) in
    let events : List Event = receipts_of names in
    let m : MsgName = c.receipt.result in
    let many : c.receipts_before-i-end.result
    ≡ length names = c.receipts_before-i-end.ensures ∙ ap
    (λ (t : List Event). length (names_received (front t c.at-choice.result)))
    c.tape-tape.ensures.events ∙ ap
    (λ choice. length (names_received (front tape choice))) c.at-choice.ensures in
    let there : slice_get (names_received tape) i ≡ Some m = ap (λ (t : List Event). slice_get
    (names_received t) i) (sym c.tape-tape.ensures.events) ∙ c.receipt.ensures in
    let at : slice_get events i ≡ Some (Recv m) = receipt_of names i m
    (name_before tape n i m (omega (arith, many)) there) in
    let within : i < length events = slice_get_within events i (Recv m) at in
    let is : Recv m
    ≡ get_or events i (Recv m) = sym (get_or_from_slice_get events i (Recv m) (Recv m) at) in
    record {
      count = c.add_receipt.ensures.count ∙ c.loop-i.invariant.count;
      told = λ seen told.
          let so_far : ℕ → List Event = with_seen seen c.args.q (seen c.args.q ++ take i events) in
          told-same c.args.history.now.processes c.args.line.now
          (with_seen so_far c.args.q (so_far c.args.q ++ Recv m ∷ []))
          (with_seen seen c.args.q (seen c.args.q ++ take (i + 1) events))
          c.add_receipt.new.received.items (seen-next seen c.args.q events i (Recv m) within is)
          (c.add_receipt.ensures.told c.args.line.now so_far
          (c.loop-i.invariant.told seen told));
    }

pub returns-clause-told : goal.returns-clause-told
returns-clause-told c = λ seen told.
    let q : ℕ = c.args.q in
    let tape : List Event = tape_at c.args.history.now.processes q in
    let before : List Event = events_before c.args.history.now.processes c.args.line.now q in
    let events : List Event = receipts_of (names_received before) in
    let many : c.receipts_before-i-end.result
    ≡ length (names_received before) = c.receipts_before-i-end.ensures ∙ ap
    (λ (t : List Event). length (names_received (front t c.at-choice.result)))
    c.tape-tape.ensures.events ∙ ap
    (λ choice. length (names_received (front tape choice))) c.at-choice.ensures in
    let all : take c.loop-i.i events ≡ events = take_all c.loop-i.i events
    (omega (arith, many, length-receipts (names_received before))) in
    told-alike c.args.history.now.processes c.args.line.now (with_seen seen q (seen q ++ events))
    (with_seen seen q (seen q ++ before)) c.loop-i.received.items (seen-receipts seen q before)
    (subst (λ (xs : List Event). AreTold c.args.history.now.processes c.args.line.now (with_seen
    seen q (seen q ++ xs)) c.loop-i.received.items) all (c.loop-i.invariant.told seen told))
  where
    length-receipts : (names : List MsgName) → length (receipts_of names) ≡ length names
    length-receipts [] = refl
    length-receipts (x ∷ xs) = ap suc (length-receipts xs)
