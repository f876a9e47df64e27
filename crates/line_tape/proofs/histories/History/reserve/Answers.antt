-- One tape gets room, and nothing else is seen to change.
use Rattle.std.proofs.Common.{◌≡◌, ◌<◌, ◌≤◌, length, map, set, List, ℕ, sym, ap, ◌∙◌, subst, arith}
use Rattle.std.specs.Prelude.{OnOk}
use Rattle.std.proofs.lemmas.List.{length-map}
use Rattle.line_tape.specs.declared.events.Event.{Event}
use Rattle.line_tape.specs.declared.histories.ProcessTape.{ProcessTape}
use Rattle.line_tape.specs.History.{Process, IsHistory}
use Rattle.line_tape.specs.Plain.{process_kept, tape_room}
use Rattle.line_tape.specs.Views.{HistoryView, room_at}
use Rattle.line_tape.proofs.HistoryLemmas.{plain-same, room-old, room-new, room-other}
use Rattle.line_tape.proofs.histories.History.reserve.Goals as goal

pub invariant_of-self : goal.invariant_of-self
invariant_of-self c =
    let items : List ProcessTape = c.self.inside.processes.items in
    let at : c.get.result ≡ c.args.p = c.get.ensures.value in
    let seen : map process_kept items
    ≡ c.args.self.now.processes = ap (λ (h : HistoryView). h.processes) c.self.view_is in
    let rooms : map tape_room items
    ≡ c.args.self.now.rooms = ap (λ (h : HistoryView). h.rooms) c.self.view_is in
    let within : c.get.result < length items = omega (
      arith,
      c.requires,
      ap
          (λ (xs : List Process). length xs) seen,
      length-map items process_kept,
    ) in
    let old : ProcessTape = c.index_mut.result.now in
    let new : ProcessTape = record
    { incarnation = c.index_mut.result.now.incarnation; tape = c.reserve.new.self } in
    let unseen : process_kept new
    ≡ process_kept old = ap (λ (xs : List Event). let process : Process = record
    { incarnation = old.incarnation; tape = xs } in process) c.reserve.ensures.same in
    let same : map process_kept (set items c.get.result new) ≡ map process_kept items = plain-same
    items c.get.result old new within c.index_mut.ensures.value unseen in
    subst IsHistory (sym same) c.self.invariant

pub returns-clause-same : goal.returns-clause-same
returns-clause-same c =
    let items : List ProcessTape = c.self.inside.processes.items in
    let at : c.get.result ≡ c.args.p = c.get.ensures.value in
    let seen : map process_kept items
    ≡ c.args.self.now.processes = ap (λ (h : HistoryView). h.processes) c.self.view_is in
    let rooms : map tape_room items
    ≡ c.args.self.now.rooms = ap (λ (h : HistoryView). h.rooms) c.self.view_is in
    let within : c.get.result < length items = omega (
      arith,
      c.requires,
      ap
          (λ (xs : List Process). length xs) seen,
      length-map items process_kept,
    ) in
    let old : ProcessTape = c.index_mut.result.now in
    let new : ProcessTape = record
    { incarnation = c.index_mut.result.now.incarnation; tape = c.reserve.new.self } in
    let unseen : process_kept new
    ≡ process_kept old = ap (λ (xs : List Event). let process : Process = record
    { incarnation = old.incarnation; tape = xs } in process) c.reserve.ensures.same in
    let same : map process_kept (set items c.get.result new) ≡ map process_kept items = plain-same
    items c.get.result old new within c.index_mut.ensures.value unseen in
    same ∙ seen

pub returns-clause-ok : goal.returns-clause-ok
returns-clause-ok c =
    let items : List ProcessTape = c.self.inside.processes.items in
    let at : c.get.result ≡ c.args.p = c.get.ensures.value in
    let seen : map process_kept items
    ≡ c.args.self.now.processes = ap (λ (h : HistoryView). h.processes) c.self.view_is in
    let rooms : map tape_room items
    ≡ c.args.self.now.rooms = ap (λ (h : HistoryView). h.rooms) c.self.view_is in
    let within : c.get.result < length items = omega (
      arith,
      c.requires,
      ap
          (λ (xs : List Process). length xs) seen,
      length-map items process_kept,
    ) in
    let old : ProcessTape = c.index_mut.result.now in
    let new : ProcessTape = record
    { incarnation = c.index_mut.result.now.incarnation; tape = c.reserve.new.self } in
    let there : room_at
    (record {
      processes = map process_kept (set items c.get.result new);
      rooms = map tape_room
          (set items c.get.result new);
    }) c.args.p
    ≡ c.reserve.new.self.room = ap
    (λ k. room_at
    (record {
      processes = map process_kept (set items c.get.result new);
      rooms = map tape_room
          (set items c.get.result new);
    }) k)
    (sym at) ∙ room-new items c.get.result old new within c.index_mut.ensures.value in
    subst (λ (n : ℕ). OnOk c.reserve.result (c.args.k ≤ n)) (sym there) c.reserve.ensures.ok

pub returns-clause-room : goal.returns-clause-room
returns-clause-room c =
    let items : List ProcessTape = c.self.inside.processes.items in
    let at : c.get.result ≡ c.args.p = c.get.ensures.value in
    let seen : map process_kept items
    ≡ c.args.self.now.processes = ap (λ (h : HistoryView). h.processes) c.self.view_is in
    let rooms : map tape_room items
    ≡ c.args.self.now.rooms = ap (λ (h : HistoryView). h.rooms) c.self.view_is in
    let within : c.get.result < length items = omega (
      arith,
      c.requires,
      ap
          (λ (xs : List Process). length xs) seen,
      length-map items process_kept,
    ) in
    let old : ProcessTape = c.index_mut.result.now in
    let new : ProcessTape = record
    { incarnation = c.index_mut.result.now.incarnation; tape = c.reserve.new.self } in
    let here : room_at c.args.self.now c.args.p
    ≡ old.tape.room = ap (λ (h : HistoryView). room_at h c.args.p) (sym c.self.view_is) ∙ ap
    (λ k. room_at (record { processes = map process_kept items; rooms = map tape_room items })
    k) (sym at) ∙ room-old items c.get.result old new within c.index_mut.ensures.value in
    let there : room_at
    (record {
      processes = map process_kept (set items c.get.result new);
      rooms = map tape_room
          (set items c.get.result new);
    }) c.args.p
    ≡ c.reserve.new.self.room = ap
    (λ k. room_at
    (record {
      processes = map process_kept (set items c.get.result new);
      rooms = map tape_room
          (set items c.get.result new);
    }) k)
    (sym at) ∙ room-new items c.get.result old new within c.index_mut.ensures.value in
    omega (arith, c.reserve.ensures.room)

pub returns-clause-others : goal.returns-clause-others
returns-clause-others c =
    let items : List ProcessTape = c.self.inside.processes.items in
    let at : c.get.result ≡ c.args.p = c.get.ensures.value in
    let seen : map process_kept items
    ≡ c.args.self.now.processes = ap (λ (h : HistoryView). h.processes) c.self.view_is in
    let rooms : map tape_room items
    ≡ c.args.self.now.rooms = ap (λ (h : HistoryView). h.rooms) c.self.view_is in
    let within : c.get.result < length items = omega (
      arith,
      c.requires,
      ap
          (λ (xs : List Process). length xs) seen,
      length-map items process_kept,
    ) in
    let old : ProcessTape = c.index_mut.result.now in
    let new : ProcessTape = record
    { incarnation = c.index_mut.result.now.incarnation; tape = c.reserve.new.self } in
    λ q apart. room-other items c.get.result old new within c.index_mut.ensures.value q
    (λ e. apart (e ∙ at)) ∙ ap (λ (h : HistoryView). room_at h q) c.self.view_is
