-- One process goes on under another incarnation, its tape as it was.
use Rattle.std.proofs.Common.{◌≡◌, ◌<◌, length, map, set, List, refl, sym, ap, ◌∙◌, subst, arith}
use Rattle.std.proofs.lemmas.List.{length-map}
use Rattle.line_tape.specs.declared.histories.ProcessTape.{ProcessTape}
use Rattle.line_tape.specs.History.{Process, process_at, IsProcess, IsHistory, with_incarnation}
use Rattle.line_tape.specs.Plain.{process_kept, tape_room}
use Rattle.line_tape.specs.Views.{HistoryView}
use Rattle.line_tape.proofs.HistoryLemmas.{IsHistory-set, IsHistory-at, plain-old, plain-written}
use Rattle.line_tape.proofs.HistoryLemmas.{rooms-same}
use Rattle.line_tape.proofs.histories.History.set_incarnation.Goals as goal

pub invariant_of-self : goal.invariant_of-self
invariant_of-self c =
    let items : List ProcessTape = c.self.inside.processes.items in
    let at : c.get.result ≡ c.args.p = c.get.ensures.value in
    let seen : map process_kept items
    ≡ c.args.self.now.processes = ap (λ (h : HistoryView). h.processes) c.self.view_is in
    let rooms : map tape_room items
    ≡ c.args.self.now.rooms = ap (λ (h : HistoryView). h.rooms) c.self.view_is in
    let within : c.get.result < length items = omega (
      arith,
      c.requires,
      ap
          (λ (xs : List Process). length xs) seen,
      length-map items process_kept,
    ) in
    let old : ProcessTape = c.index_mut.result.now in
    let new : ProcessTape = record
    { incarnation = c.args.incarnation; tape = c.index_mut.result.now.tape } in
    let before : IsProcess (length (map process_kept items)) (process_kept old) = subst
    (IsProcess (length (map process_kept items)))
    (plain-old items c.get.result old new within c.index_mut.ensures.value)
    (IsHistory-at (map process_kept items) c.get.result
    (omega (arith, length-map items process_kept)) c.self.invariant) in
    subst IsHistory
    (sym (plain-written items c.get.result old new within c.index_mut.ensures.value))
    (IsHistory-set (map process_kept items) c.get.result (process_kept new)
    (record { tape = before.tape; named = before.named }) c.self.invariant)

pub returns-clause-processes : goal.returns-clause-processes
returns-clause-processes c =
    let items : List ProcessTape = c.self.inside.processes.items in
    let at : c.get.result ≡ c.args.p = c.get.ensures.value in
    let seen : map process_kept items
    ≡ c.args.self.now.processes = ap (λ (h : HistoryView). h.processes) c.self.view_is in
    let rooms : map tape_room items
    ≡ c.args.self.now.rooms = ap (λ (h : HistoryView). h.rooms) c.self.view_is in
    let within : c.get.result < length items = omega (
      arith,
      c.requires,
      ap
          (λ (xs : List Process). length xs) seen,
      length-map items process_kept,
    ) in
    let old : ProcessTape = c.index_mut.result.now in
    let new : ProcessTape = record
    { incarnation = c.args.incarnation; tape = c.index_mut.result.now.tape } in
    let was : process_at (map process_kept items) c.get.result ≡ process_kept old = plain-old items
    c.get.result old new within c.index_mut.ensures.value in
    plain-written items c.get.result old new within c.index_mut.ensures.value ∙ ap
    (λ (process : Process). set (map process_kept items) c.get.result
    (record process { incarnation = c.args.incarnation })) (sym was) ∙ ap
    (λ k. with_incarnation (map process_kept items) k c.args.incarnation) at ∙ ap
    (λ (h : List Process). with_incarnation h c.args.p c.args.incarnation) seen

pub returns-clause-rooms : goal.returns-clause-rooms
returns-clause-rooms c =
    let items : List ProcessTape = c.self.inside.processes.items in
    let at : c.get.result ≡ c.args.p = c.get.ensures.value in
    let seen : map process_kept items
    ≡ c.args.self.now.processes = ap (λ (h : HistoryView). h.processes) c.self.view_is in
    let rooms : map tape_room items
    ≡ c.args.self.now.rooms = ap (λ (h : HistoryView). h.rooms) c.self.view_is in
    let within : c.get.result < length items = omega (
      arith,
      c.requires,
      ap
          (λ (xs : List Process). length xs) seen,
      length-map items process_kept,
    ) in
    let old : ProcessTape = c.index_mut.result.now in
    let new : ProcessTape = record
    { incarnation = c.args.incarnation; tape = c.index_mut.result.now.tape } in
    rooms-same items c.get.result old new within c.index_mut.ensures.value refl ∙ rooms
