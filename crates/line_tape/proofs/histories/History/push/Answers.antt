-- One tape takes the event, or refuses it and stays.
use Rattle.std.proofs.Common.{◌≡◌, ◌<◌, ◌++◌, ◌∷◌, [], length, map, set, List, ℕ, sym, ap, ◌∙◌}
use Rattle.std.proofs.Common.{subst, arith}
use Rattle.std.specs.Prelude.{Result, Ok, Err, OnErr, All}
use Rattle.std.proofs.lemmas.List.{length-map}
use Rattle.std.proofs.lemmas.List.Elements.{All-push}
use Rattle.line_tape.specs.declared.events.Event.{Event}
use Rattle.line_tape.specs.declared.histories.ProcessTape.{ProcessTape}
use Rattle.line_tape.specs.Event.{NamesBelow}
use Rattle.line_tape.specs.History.{Process, process_at, IsProcess, IsHistory, with_event}
use Rattle.line_tape.specs.Plain.{process_kept, tape_room}
use Rattle.line_tape.specs.Views.{HistoryView, room_at}
use Rattle.line_tape.proofs.HistoryLemmas.{IsHistory-set, IsHistory-at, plain-old, plain-written}
use Rattle.line_tape.proofs.HistoryLemmas.{plain-same, room-old, room-new, room-other}
use Rattle.line_tape.proofs.histories.History.push.Goals as goal

on_err : {T E P : Type 0} (r : Result T E) → P → OnErr r P
on_err (Ok x) p = tt
on_err (Err e) p = p

pub invariant_of-self : goal.invariant_of-self
invariant_of-self c =
    let items : List ProcessTape = c.self.inside.processes.items in
    let at : c.get-2.result ≡ c.args.p = c.get-2.ensures.value in
    let seen : map process_kept items
    ≡ c.args.self.now.processes = ap (λ (h : HistoryView). h.processes) c.self.view_is in
    let below : c.args.p < length c.args.self.now.processes = omega
    (arith, c.if-get-n.false, c.get.ensures.value, c.n-n.ensures.value) in
    let within : c.get-2.result < length items = omega
    (arith, below, ap (λ (xs : List Process). length xs) seen, length-map items process_kept) in
    let old : ProcessTape = c.index_mut.result.now in
    let new : ProcessTape = record { incarnation = old.incarnation; tape = c.push.new.self } in
    let unseen : process_kept new
    ≡ process_kept old = ap (λ (xs : List Event). let process : Process = record
    { incarnation = old.incarnation; tape = xs } in process) c.in_err-push.ensures.err in
    let same : map process_kept (set items c.get-2.result new) ≡ map process_kept items = plain-same
    items c.get-2.result old new within c.index_mut.ensures.value unseen in
    subst IsHistory (sym same) c.self.invariant

pub returns-in_err-push-clause-err : goal.returns-in_err-push-clause-err
returns-in_err-push-clause-err c =
    let items : List ProcessTape = c.self.inside.processes.items in
    let at : c.get-2.result ≡ c.args.p = c.get-2.ensures.value in
    let seen : map process_kept items
    ≡ c.args.self.now.processes = ap (λ (h : HistoryView). h.processes) c.self.view_is in
    let below : c.args.p < length c.args.self.now.processes = omega
    (arith, c.if-get-n.false, c.get.ensures.value, c.n-n.ensures.value) in
    let within : c.get-2.result < length items = omega
    (arith, below, ap (λ (xs : List Process). length xs) seen, length-map items process_kept) in
    let old : ProcessTape = c.index_mut.result.now in
    let new : ProcessTape = record { incarnation = old.incarnation; tape = c.push.new.self } in
    let unseen : process_kept new
    ≡ process_kept old = ap (λ (xs : List Event). let process : Process = record
    { incarnation = old.incarnation; tape = xs } in process) c.in_err-push.ensures.err in
    let same : map process_kept (set items c.get-2.result new) ≡ map process_kept items = plain-same
    items c.get-2.result old new within c.index_mut.ensures.value unseen in
    on_err c.from_residual.result (same ∙ seen)

pub returns-in_err-push-clause-spent : goal.returns-in_err-push-clause-spent
returns-in_err-push-clause-spent c =
    let items : List ProcessTape = c.self.inside.processes.items in
    let at : c.get-2.result ≡ c.args.p = c.get-2.ensures.value in
    let seen : map process_kept items
    ≡ c.args.self.now.processes = ap (λ (h : HistoryView). h.processes) c.self.view_is in
    let below : c.args.p < length c.args.self.now.processes = omega
    (arith, c.if-get-n.false, c.get.ensures.value, c.n-n.ensures.value) in
    let within : c.get-2.result < length items = omega
    (arith, below, ap (λ (xs : List Process). length xs) seen, length-map items process_kept) in
    let old : ProcessTape = c.index_mut.result.now in
    let new : ProcessTape = record { incarnation = old.incarnation; tape = c.push.new.self } in
    let here : room_at c.args.self.now c.args.p
    ≡ old.tape.room = ap (λ (h : HistoryView). room_at h c.args.p) (sym c.self.view_is) ∙ ap
    (λ k. room_at (record { processes = map process_kept items; rooms = map tape_room items })
    k) (sym at) ∙ room-old items c.get-2.result old new within c.index_mut.ensures.value in
    let there : room_at
    (record {
      processes = map process_kept (set items c.get-2.result new);
      rooms = map tape_room
          (set items c.get-2.result new);
    }) c.args.p
    ≡ c.push.new.self.room = ap
    (λ k. room_at
    (record {
      processes = map process_kept (set items c.get-2.result new);
      rooms = map tape_room
          (set items c.get-2.result new);
    }) k)
    (sym at) ∙ room-new items c.get-2.result old new within c.index_mut.ensures.value in
    omega (arith, c.push.ensures.spent)

pub returns-in_err-push-clause-others : goal.returns-in_err-push-clause-others
returns-in_err-push-clause-others c =
    let items : List ProcessTape = c.self.inside.processes.items in
    let at : c.get-2.result ≡ c.args.p = c.get-2.ensures.value in
    let seen : map process_kept items
    ≡ c.args.self.now.processes = ap (λ (h : HistoryView). h.processes) c.self.view_is in
    let below : c.args.p < length c.args.self.now.processes = omega
    (arith, c.if-get-n.false, c.get.ensures.value, c.n-n.ensures.value) in
    let within : c.get-2.result < length items = omega
    (arith, below, ap (λ (xs : List Process). length xs) seen, length-map items process_kept) in
    let old : ProcessTape = c.index_mut.result.now in
    let new : ProcessTape = record { incarnation = old.incarnation; tape = c.push.new.self } in
    λ q apart. room-other items c.get-2.result old new within c.index_mut.ensures.value q
    (λ e. apart (e ∙ at)) ∙ ap (λ (h : HistoryView). room_at h q) c.self.view_is

pub invariant_of-self-2 : goal.invariant_of-self-2
invariant_of-self-2 c =
    let items : List ProcessTape = c.self.inside.processes.items in
    let at : c.get-2.result ≡ c.args.p = c.get-2.ensures.value in
    let seen : map process_kept items
    ≡ c.args.self.now.processes = ap (λ (h : HistoryView). h.processes) c.self.view_is in
    let below : c.args.p < length c.args.self.now.processes = omega
    (arith, c.if-get-n.false, c.get.ensures.value, c.n-n.ensures.value) in
    let within : c.get-2.result < length items = omega
    (arith, below, ap (λ (xs : List Process). length xs) seen, length-map items process_kept) in
    let old : ProcessTape = c.index_mut.result.now in
    let new : ProcessTape = record { incarnation = old.incarnation; tape = c.push.new.self } in
    let grown : process_kept new
    ≡ record (process_kept old) { tape = old.tape.events ++ c.args.event ∷ [] } = ap
    (λ (xs : List Event). let process : Process = record
    { incarnation = old.incarnation; tape = xs } in process) c.in_ok-push.ensures.ok in
    let was : process_at (map process_kept items) c.get-2.result ≡ process_kept old = plain-old
    items c.get-2.result old new within c.index_mut.ensures.value in
    let before : IsProcess (length (map process_kept items)) (process_kept old) = subst
    (IsProcess (length (map process_kept items))) was (IsHistory-at (map process_kept items)
    c.get-2.result (omega (arith, length-map items process_kept)) c.self.invariant) in
    let named : NamesBelow (length (map process_kept items)) c.args.event = subst
    (λ (n : ℕ). NamesBelow n c.args.event) (c.n-n.ensures.value ∙ ap (λ (xs : List Process).
    length xs) (sym seen)) (c.names_below.ensures.0 c.if-not-names_below.false) in
    let after : IsProcess (length (map process_kept items))
    (process_kept new) = record {
      tape = c.push.ensures.limits;
      named = subst
          (All (NamesBelow (length (map process_kept items)))) (sym c.in_ok-push.ensures.ok)
          (All-push (NamesBelow (length (map process_kept items))) old.tape.events c.args.event
          before.named named);
    } in
    subst IsHistory
    (sym (plain-written items c.get-2.result old new within c.index_mut.ensures.value))
    (IsHistory-set (map process_kept items) c.get-2.result
    (process_kept new) after c.self.invariant)

pub returns-clause-ok : goal.returns-clause-ok
returns-clause-ok c =
    let items : List ProcessTape = c.self.inside.processes.items in
    let at : c.get-2.result ≡ c.args.p = c.get-2.ensures.value in
    let seen : map process_kept items
    ≡ c.args.self.now.processes = ap (λ (h : HistoryView). h.processes) c.self.view_is in
    let below : c.args.p < length c.args.self.now.processes = omega
    (arith, c.if-get-n.false, c.get.ensures.value, c.n-n.ensures.value) in
    let within : c.get-2.result < length items = omega
    (arith, below, ap (λ (xs : List Process). length xs) seen, length-map items process_kept) in
    let old : ProcessTape = c.index_mut.result.now in
    let new : ProcessTape = record { incarnation = old.incarnation; tape = c.push.new.self } in
    let grown : process_kept new
    ≡ record (process_kept old) { tape = old.tape.events ++ c.args.event ∷ [] } = ap
    (λ (xs : List Event). let process : Process = record
    { incarnation = old.incarnation; tape = xs } in process) c.in_ok-push.ensures.ok in
    let was : process_at (map process_kept items) c.get-2.result ≡ process_kept old = plain-old
    items c.get-2.result old new within c.index_mut.ensures.value in
    plain-written items c.get-2.result old new within c.index_mut.ensures.value ∙ ap
    (set (map process_kept items) c.get-2.result)
    (grown ∙ ap (λ
    (process : Process). let more : Process = record process
    { tape = process.tape ++ c.args.event ∷ [] } in more) (sym was)) ∙ ap
    (λ k. with_event (map process_kept items) k c.args.event) at ∙ ap
    (λ (h : List Process). with_event h c.args.p c.args.event) seen

pub returns-clause-spent : goal.returns-clause-spent
returns-clause-spent c =
    let items : List ProcessTape = c.self.inside.processes.items in
    let at : c.get-2.result ≡ c.args.p = c.get-2.ensures.value in
    let seen : map process_kept items
    ≡ c.args.self.now.processes = ap (λ (h : HistoryView). h.processes) c.self.view_is in
    let below : c.args.p < length c.args.self.now.processes = omega
    (arith, c.if-get-n.false, c.get.ensures.value, c.n-n.ensures.value) in
    let within : c.get-2.result < length items = omega
    (arith, below, ap (λ (xs : List Process). length xs) seen, length-map items process_kept) in
    let old : ProcessTape = c.index_mut.result.now in
    let new : ProcessTape = record { incarnation = old.incarnation; tape = c.push.new.self } in
    let here : room_at c.args.self.now c.args.p
    ≡ old.tape.room = ap (λ (h : HistoryView). room_at h c.args.p) (sym c.self.view_is) ∙ ap
    (λ k. room_at (record { processes = map process_kept items; rooms = map tape_room items })
    k) (sym at) ∙ room-old items c.get-2.result old new within c.index_mut.ensures.value in
    let there : room_at
    (record {
      processes = map process_kept (set items c.get-2.result new);
      rooms = map tape_room
          (set items c.get-2.result new);
    }) c.args.p
    ≡ c.push.new.self.room = ap
    (λ k. room_at
    (record {
      processes = map process_kept (set items c.get-2.result new);
      rooms = map tape_room
          (set items c.get-2.result new);
    }) k)
    (sym at) ∙ room-new items c.get-2.result old new within c.index_mut.ensures.value in
    omega (arith, c.push.ensures.spent)

pub returns-clause-others : goal.returns-clause-others
returns-clause-others c =
    let items : List ProcessTape = c.self.inside.processes.items in
    let at : c.get-2.result ≡ c.args.p = c.get-2.ensures.value in
    let seen : map process_kept items
    ≡ c.args.self.now.processes = ap (λ (h : HistoryView). h.processes) c.self.view_is in
    let below : c.args.p < length c.args.self.now.processes = omega
    (arith, c.if-get-n.false, c.get.ensures.value, c.n-n.ensures.value) in
    let within : c.get-2.result < length items = omega
    (arith, below, ap (λ (xs : List Process). length xs) seen, length-map items process_kept) in
    let old : ProcessTape = c.index_mut.result.now in
    let new : ProcessTape = record { incarnation = old.incarnation; tape = c.push.new.self } in
    λ q apart. room-other items c.get-2.result old new within c.index_mut.ensures.value q
    (λ e. apart (e ∙ at)) ∙ ap (λ (h : HistoryView). room_at h q) c.self.view_is
