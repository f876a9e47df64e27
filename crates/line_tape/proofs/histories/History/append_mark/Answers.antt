-- One tape takes the event.
use Rattle.std.proofs.Common.{◌≡◌, ◌<◌, ◌++◌, ◌∷◌, [], length, map, set, List, sym, ap, ◌∙◌, subst}
use Rattle.std.proofs.Common.{arith}
use Rattle.std.specs.Prelude.{All}
use Rattle.std.proofs.lemmas.List.{get_or-map, length-map}
use Rattle.std.proofs.lemmas.List.Elements.{All-push}
use Rattle.line_tape.specs.declared.events.Event.TheVariants.{Mark}
use Rattle.line_tape.specs.declared.events.Event.{Event}
use Rattle.line_tape.specs.declared.histories.ProcessTape.{ProcessTape}
use Rattle.line_tape.specs.Event.{NamesBelow}
use Rattle.line_tape.specs.History.{Process, fresh, process_at, tape_at, IsProcess, IsHistory}
use Rattle.line_tape.specs.History.{with_event}
use Rattle.line_tape.specs.Plain.{process_kept, tape_room}
use Rattle.line_tape.specs.Views.{HistoryView, room_at}
use Rattle.line_tape.proofs.HistoryLemmas.{IsHistory-set, IsHistory-at, plain-written, room-old}
use Rattle.line_tape.proofs.HistoryLemmas.{room-new, room-other}
use Rattle.line_tape.proofs.histories.History.append_mark.Goals as goal

pub append_mark-requires-clause-room : goal.append_mark-requires-clause-room
append_mark-requires-clause-room c =
    let items : List ProcessTape = c.self.inside.processes.items in
    let at : c.get.result ≡ c.args.p = c.get.ensures.value in
    let seen : map process_kept items
    ≡ c.args.self.now.processes = ap (λ (h : HistoryView). h.processes) c.self.view_is in
    let within : c.get.result < length items = omega (
      arith,
      c.requires.process,
      at,
      ap
          (λ (xs : List Process). length xs) seen,
      length-map items process_kept,
    ) in
    let old : ProcessTape = c.index_mut.result.now in
    let here : room_at c.args.self.now c.args.p
    ≡ old.tape.room = ap (λ (h : HistoryView). room_at h c.args.p) (sym c.self.view_is) ∙ ap
    (λ k. room_at (record { processes = map process_kept items; rooms = map tape_room items })
    k) (sym at) ∙ room-old items c.get.result old old within c.index_mut.ensures.value in
    omega (arith, c.requires.room, here)

pub append_mark-requires-clause-few : goal.append_mark-requires-clause-few
append_mark-requires-clause-few c =
    let items : List ProcessTape = c.self.inside.processes.items in
    let at : c.get.result ≡ c.args.p = c.get.ensures.value in
    let seen : map process_kept items
    ≡ c.args.self.now.processes = ap (λ (h : HistoryView). h.processes) c.self.view_is in
    let within : c.get.result < length items = omega (
      arith,
      c.requires.process,
      at,
      ap
          (λ (xs : List Process). length xs) seen,
      length-map items process_kept,
    ) in
    let old : ProcessTape = c.index_mut.result.now in
    let was : process_at (map process_kept items) c.get.result
    ≡ process_kept old = get_or-map process_kept items c.get.result old fresh within ∙ ap
    process_kept (sym c.index_mut.ensures.value) in
    let tape_is : tape_at c.args.self.now.processes c.args.p ≡ old.tape.events =
    ap (λ (h : List Process). tape_at h c.args.p) (sym seen) ∙ ap (λ k. tape_at
    (map process_kept items) k) (sym at) ∙ ap (λ (process : Process). process.tape) was in
    omega (arith, c.requires.few, ap (λ (es : List Event). length es) tape_is)

pub invariant_of-self : goal.invariant_of-self
invariant_of-self c =
    let items : List ProcessTape = c.self.inside.processes.items in
    let at : c.get.result ≡ c.args.p = c.get.ensures.value in
    let seen : map process_kept items
    ≡ c.args.self.now.processes = ap (λ (h : HistoryView). h.processes) c.self.view_is in
    let within : c.get.result < length items = omega (
      arith,
      c.requires.process,
      at,
      ap
          (λ (xs : List Process). length xs) seen,
      length-map items process_kept,
    ) in
    let old : ProcessTape = c.index_mut.result.now in
    let new : ProcessTape = record { incarnation = old.incarnation; tape = c.append_mark.new.self }
    in
    let was : process_at (map process_kept items) c.get.result
    ≡ process_kept old = get_or-map process_kept items c.get.result old fresh within ∙ ap
    process_kept (sym c.index_mut.ensures.value) in
    let grown : process_kept new
    ≡ record (process_kept old)
    { tape = old.tape.events ++ (Mark c.args.from c.args.round) ∷ [] } = ap
    (λ (xs : List Event). let process : Process = record
    { incarnation = old.incarnation; tape = xs } in process) c.append_mark.ensures.events in
    let before : IsProcess (length (map process_kept items)) (process_kept old) = subst
    (IsProcess (length (map process_kept items))) was (IsHistory-at (map process_kept items)
    c.get.result (omega (arith, within, length-map items process_kept)) c.self.invariant) in
    let named : NamesBelow (length (map process_kept items)) (Mark c.args.from c.args.round) = subst
    (λ (h : List Process). NamesBelow (length h) (Mark c.args.from c.args.round))
    (sym seen) c.requires.from in
    let after : IsProcess (length (map process_kept items))
    (process_kept new) = record {
      tape = c.append_mark.ensures.limits;
      named = subst
          (All (NamesBelow (length (map process_kept items)))) (sym c.append_mark.ensures.events)
          (All-push (NamesBelow (length (map process_kept items))) old.tape.events
          (Mark c.args.from c.args.round) before.named named);
    } in
    subst IsHistory
    (sym (plain-written items c.get.result old new within c.index_mut.ensures.value))
    (IsHistory-set (map process_kept items) c.get.result
    (process_kept new) after c.self.invariant)

pub returns-clause-processes : goal.returns-clause-processes
returns-clause-processes c =
    let items : List ProcessTape = c.self.inside.processes.items in
    let at : c.get.result ≡ c.args.p = c.get.ensures.value in
    let seen : map process_kept items
    ≡ c.args.self.now.processes = ap (λ (h : HistoryView). h.processes) c.self.view_is in
    let within : c.get.result < length items = omega (
      arith,
      c.requires.process,
      at,
      ap
          (λ (xs : List Process). length xs) seen,
      length-map items process_kept,
    ) in
    let old : ProcessTape = c.index_mut.result.now in
    let new : ProcessTape = record { incarnation = old.incarnation; tape = c.append_mark.new.self }
    in
    let was : process_at (map process_kept items) c.get.result
    ≡ process_kept old = get_or-map process_kept items c.get.result old fresh within ∙ ap
    process_kept (sym c.index_mut.ensures.value) in
    let grown : process_kept new
    ≡ record (process_kept old)
    { tape = old.tape.events ++ (Mark c.args.from c.args.round) ∷ [] } = ap
    (λ (xs : List Event). let process : Process = record
    { incarnation = old.incarnation; tape = xs } in process) c.append_mark.ensures.events in
    plain-written items c.get.result old new within c.index_mut.ensures.value ∙ ap
    (set (map process_kept items) c.get.result)
    (grown ∙ ap (λ
    (process : Process). let more : Process = record process
    { tape = process.tape ++ (Mark c.args.from c.args.round) ∷ [] } in more) (sym was)) ∙ ap
    (λ k. with_event (map process_kept items) k (Mark c.args.from c.args.round)) at ∙ ap
    (λ (h : List Process). with_event h c.args.p (Mark c.args.from c.args.round)) seen

pub returns-clause-spent : goal.returns-clause-spent
returns-clause-spent c =
    let items : List ProcessTape = c.self.inside.processes.items in
    let at : c.get.result ≡ c.args.p = c.get.ensures.value in
    let seen : map process_kept items
    ≡ c.args.self.now.processes = ap (λ (h : HistoryView). h.processes) c.self.view_is in
    let within : c.get.result < length items = omega (
      arith,
      c.requires.process,
      at,
      ap
          (λ (xs : List Process). length xs) seen,
      length-map items process_kept,
    ) in
    let old : ProcessTape = c.index_mut.result.now in
    let new : ProcessTape = record { incarnation = old.incarnation; tape = c.append_mark.new.self }
    in
    let here : room_at c.args.self.now c.args.p
    ≡ old.tape.room = ap (λ (h : HistoryView). room_at h c.args.p) (sym c.self.view_is) ∙ ap
    (λ k. room_at (record { processes = map process_kept items; rooms = map tape_room items })
    k) (sym at) ∙ room-old items c.get.result old new within c.index_mut.ensures.value in
    let there : room_at
    (record {
      processes = map process_kept (set items c.get.result new);
      rooms = map tape_room
          (set items c.get.result new);
    }) c.args.p
    ≡ c.append_mark.new.self.room = ap
    (λ k. room_at
    (record {
      processes = map process_kept (set items c.get.result new);
      rooms = map tape_room
          (set items c.get.result new);
    }) k)
    (sym at) ∙ room-new items c.get.result old new within c.index_mut.ensures.value in
    omega (arith, c.append_mark.ensures.room)

pub returns-clause-others : goal.returns-clause-others
returns-clause-others c =
    let items : List ProcessTape = c.self.inside.processes.items in
    let at : c.get.result ≡ c.args.p = c.get.ensures.value in
    let seen : map process_kept items
    ≡ c.args.self.now.processes = ap (λ (h : HistoryView). h.processes) c.self.view_is in
    let within : c.get.result < length items = omega (
      arith,
      c.requires.process,
      at,
      ap
          (λ (xs : List Process). length xs) seen,
      length-map items process_kept,
    ) in
    let old : ProcessTape = c.index_mut.result.now in
    let new : ProcessTape = record { incarnation = old.incarnation; tape = c.append_mark.new.self }
    in
    λ q apart. room-other items c.get.result old new within c.index_mut.ensures.value q
    (λ e. apart (e ∙ at)) ∙ ap (λ (h : HistoryView). room_at h q) c.self.view_is
