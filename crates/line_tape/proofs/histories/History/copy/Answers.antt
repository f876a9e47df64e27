-- Process by process, what is seen of the copy is what is seen of the history.
use Rattle.std.proofs.Common.{◌≡◌, ◌+◌, ◌++◌, ◌∷◌, [], map, take, List, ℕ, sym, ap, ◌∙◌, arith}
use Rattle.std.proofs.lemmas.List.{take_more, map-append, take-map}
use Rattle.line_tape.specs.declared.events.Event.{Event}
use Rattle.line_tape.specs.declared.histories.ProcessTape.{ProcessTape}
use Rattle.line_tape.specs.History.{Process}
use Rattle.line_tape.specs.Plain.{process_kept}
use Rattle.line_tape.specs.Views.{HistoryView}
use Rattle.line_tape.proofs.histories.History.copy.Goals as goal

pub loop-process-preserved : goal.loop-process-preserved
loop-process-preserved c =
    let items : List ProcessTape = c.deref-process-items.result.now in
    let i : ℕ = c.loop-process.process-index in
    let item : ProcessTape = c.process-item.result in
    let made : ProcessTape = record { incarnation = item.incarnation; tape = c.in_ok-copy.field-0 }
    in
    let seen : map process_kept items
    ≡ c.args.self.now.processes = ap (map process_kept) c.deref-process-items.ensures.value ∙ ap
    (λ (h : HistoryView). h.processes) c.self.view_is in
    let more : take (i + 1) items ≡ take i items ++ item ∷ [] = take_more items i item
    (omega arith) ∙ ap (λ (x : ProcessTape). take i items ++ x ∷ []) (sym c.process-item.is) in
    let alike : process_kept made
    ≡ process_kept item = ap (λ (xs : List Event). let process : Process = record
    { incarnation = item.incarnation; tape = xs } in process) c.in_ok-copy.ensures in
    let pushed : c.push.new.self.items
    ≡ c.loop-process.processes.items ++ made ∷ [] = c.in_ok-push.ensures.items in
    ap (map process_kept) pushed ∙ map-append process_kept c.loop-process.processes.items
    (made ∷ []) ∙ ap (λ (xs : List Process). xs ++ process_kept made ∷ [])
    (c.loop-process.invariant ∙ ap (take i) (sym seen) ∙ take-map process_kept i items) ∙ ap
    (λ (x : Process). map process_kept (take i items) ++ x ∷ []) alike ∙ sym
    (map-append process_kept (take i items) (item ∷ [])) ∙ ap (map process_kept)
    (sym more) ∙ sym (take-map process_kept (i + 1) items) ∙ ap (take (i + 1)) seen
