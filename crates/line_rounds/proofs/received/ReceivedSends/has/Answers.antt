-- The flag of the message tells.
use Rattle.std.proofs.Common.{◌≡◌, ℕ, Bool, false, List, [], length, get_or, ap, ◌∙◌, arith}
use Rattle.std.proofs.lemmas.List.{get_or_default}
use Rattle.line_rounds.specs.Flags.{flags_of}
use Rattle.line_rounds.proofs.received.ReceivedSends.has.Goals as goal

pub returns : goal.returns
returns c = λ history to are sent.
    let kept : List (List Bool) = c.args.self.now in
    let items : List (List Bool) = c.self.inside.processes.items in
    let from : ℕ = c.args.message.now.from in
    let row : List Bool = c.index.result.now in
    let many : length items
    ≡ length kept = ap (λ (v : List (List Bool)). length v) c.self.view_is in
    let row_is : row ≡ flags_of kept from = c.index.ensures ∙ ap
    (λ (i : ℕ). get_or items i row) c.get.ensures.value
    ∙ get_or_default items from row [] (omega (arith, c.requires, many)) ∙ ap
    (λ (v : List (List Bool)). flags_of v from) c.self.view_is in
    c.is_set.ensures ∙ ap (λ (v : List Bool). get_or v c.args.message.now.number false) row_is ∙
    are.each to c.args.message.now sent
