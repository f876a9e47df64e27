-- The flag of the message is set.
use Rattle.std.proofs.Common.{◌≡◌, ℕ, Bool, true, List, [], length, get_or, set, sym, ap, ◌∙◌}
use Rattle.std.proofs.Common.{subst, arith}
use Rattle.std.proofs.lemmas.List.{get_or_default}
use Rattle.line_names.specs.declared.messages.MsgName.{MsgName}
use Rattle.line_tape.specs.declared.events.Event.TheVariants.{Recv}
use Rattle.line_tape.specs.History.{with_event}
use Rattle.line_rounds.specs.Flags.{flags_of, AreFlagged}
use Rattle.line_rounds.proofs.FlagLemmas.{with_flag, AreFlagged-received}
use Rattle.line_rounds.proofs.received.ReceivedSends.receive.Goals as goal

pub returns-clause-received : goal.returns-clause-received
returns-clause-received c = λ history to are within sent.
    let kept : List (List Bool) = c.args.self.now in
    let items : List (List Bool) = c.self.inside.processes.items in
    let m : MsgName = c.args.message.now in
    let old : List Bool = c.index_mut.result.now in
    let many : length items
    ≡ length kept = ap (λ (v : List (List Bool)). length v) c.self.view_is in
    let own : old
    ≡ flags_of items m.from = c.index_mut.ensures.value ∙ ap
    (λ (i : ℕ). get_or items i old) c.get.ensures.value ∙ get_or_default items m.from old []
    (omega (arith, c.requires, many)) in
    let row : c.write.new.self ≡ set (flags_of items m.from) m.number true = c.write.ensures ∙ ap
    (λ (v : List Bool). set v m.number true) own in
    let is : set items c.get.result c.write.new.self ≡ with_flag kept m.from m.number true =
    ap (λ (i : ℕ). set items i c.write.new.self) c.get.ensures.value ∙ ap
    (λ (v : List Bool). set items m.from v) row ∙ ap
    (λ (v : List (List Bool)). with_flag v m.from m.number true) c.self.view_is in
    subst (AreFlagged (with_event history to (Recv m))) (sym is)
    (AreFlagged-received history to m kept within sent are)
