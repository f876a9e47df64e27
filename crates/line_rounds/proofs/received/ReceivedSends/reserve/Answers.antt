-- The flags are alike, and there is one for the next send.
use Rattle.std.proofs.Common.{◌≡◌, ◌≤◌, ◌<◌, ℕ, Bool, false, List, [], length, get_or, set, sym, ap}
use Rattle.std.proofs.Common.{◌∙◌, subst, arith}
use Rattle.std.proofs.lemmas.List.{get_or_default, get_or-set_same}
use Rattle.std.proofs.lemmas.Result.{on_ok_weaker}
use Rattle.line_tape.specs.declared.events.Event.TheVariants.{Send}
use Rattle.line_tape.specs.History.{with_event}
use Rattle.line_rounds.specs.Flags.{flags_of, AreFlagged}
use Rattle.line_rounds.proofs.FlagLemmas.{AreFlagged-row, AreFlagged-sent}
use Rattle.line_rounds.proofs.received.ReceivedSends.reserve.Goals as goal

pub returns-clause-same : goal.returns-clause-same
returns-clause-same c = λ history are.
    let kept : List (List Bool) = c.args.self.now in
    let items : List (List Bool) = c.self.inside.processes.items in
    let p : ℕ = c.args.p in
    let old : List Bool = c.index_mut.result.now in
    let row : List Bool = c.reserve.new.self in
    let many : length items
    ≡ length kept = ap (λ (v : List (List Bool)). length v) c.self.view_is in
    let own : old
    ≡ flags_of items p = c.index_mut.ensures.value ∙ ap (λ (i : ℕ). get_or items i old)
    c.get.ensures.value ∙ get_or_default items p old [] (omega (arith, c.requires, many)) in
    let before : AreFlagged history items = subst (AreFlagged history) (sym c.self.view_is) are in
    let more : length (flags_of items p) ≤ length row = omega
    (arith, c.reserve.ensures.more, ap (λ (v : List Bool). length v) own) in
    subst (λ (i : ℕ). AreFlagged history (set items i row)) (sym c.get.ensures.value)
    (AreFlagged-row history items p row (omega (arith, c.requires, many))
    (λ k. c.reserve.ensures.same k ∙ ap (λ (v : List Bool). get_or v k false) own) more before)

pub returns-clause-ok : goal.returns-clause-ok
returns-clause-ok c = on_ok_weaker c.reserve.result (λ room history to inc body are fit count.
    let kept : List (List Bool) = c.args.self.now in
    let items : List (List Bool) = c.self.inside.processes.items in
    let p : ℕ = c.args.p in
    let none : List Bool = [] in
    let old : List Bool = c.index_mut.result.now in
    let row : List Bool = c.reserve.new.self in
    let many : length items
    ≡ length kept = ap (λ (v : List (List Bool)). length v) c.self.view_is in
    let within : p < length items = omega (arith, c.requires, many) in
    let own : old ≡ flags_of items p = c.index_mut.ensures.value ∙ ap (λ
    (i : ℕ). get_or items i old) c.get.ensures.value ∙ get_or_default items p old none within in
    let before : AreFlagged history items = subst (AreFlagged history) (sym c.self.view_is) are in
    let p_in : p < length history = omega (arith, within, before.count) in
    let long : length old ≡ length (flags_of items p) = ap (λ (v : List Bool). length v) own in
    let more : length (flags_of items p) ≤ length row = omega
    (arith, c.reserve.ensures.more, long) in
    let after : AreFlagged history (set items p row) = AreFlagged-row history items p row within (λ
    k. c.reserve.ensures.same k ∙ ap (λ (v : List Bool). get_or v k false) own) more before in
    let one : c.args.sends < length row = room (omega (arith, count, long, before.enough p p_in)) in
    let there : length (flags_of (set items p row) p)
    ≡ length row = ap (λ (v : List Bool). length v) (get_or-set_same items p row none within) in
    subst (λ (i : ℕ). AreFlagged (with_event history p (Send to inc body)) (set items i row))
    (sym c.get.ensures.value)
    (AreFlagged-sent history p to inc body (set items p row) p_in fit
    (omega (arith, one, there, count)) after)) c.reserve.ensures.ok
