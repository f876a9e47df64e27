use Rattle.std.proofs.Common.{◌≡◌, map, take}
use Rattle.line_names.specs.declared.messages.MsgName.{MsgName}
use Rattle.line_catalogue.proofs.numbers.Numbers.of_both.Given as goal

abbrev pub invariant-loop-message : goal.invariant-loop-message
invariant-loop-message l =
    l.numbers.items ≡ map (λ (m : MsgName). m.number) (take l.message-index l.messages)
