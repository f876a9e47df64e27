-- Lai and Yang's rule at the colours that the turns tell.
use Rattle.std.proofs.Common.{◌≡◌, ◌<◌, ℕ, List, length, get_or, ap, ◌∙◌, subst, arith}
use Rattle.std.specs.Option.{SomeIff}
use Rattle.std.proofs.lemmas.List.{get_or_default}
use Rattle.line_names.specs.declared.messages.MsgName.{MsgName}
use Rattle.line_tape.specs.Colours.{colour, message_colour}
use Rattle.line_tape.specs.History.{tape_at}
use Rattle.line_rounds.specs.Kept.{ProcessTurns, turns_at, no_turns}
use Rattle.line_rounds.proofs.TurnedLemmas.{message_colour_is}
use Rattle.line_rounds.proofs.colours.Colours.before_receive.Goals as goal

pub returns : goal.returns
returns c = λ history are coloured held.
    let kept : List ProcessTurns = c.args.self.now in
    let items : List ProcessTurns = c.self.inside.processes.items in
    let message : MsgName = c.args.message.now in
    let to : ℕ = c.args.to in
    let sender : ProcessTurns = c.index-sender.result.now in
    let receiver : ProcessTurns = c.index-receiver.result.now in
    let many : length items
    ≡ length kept = ap (λ (v : List ProcessTurns). length v) c.self.view_is in
    let sender_is : sender ≡ turns_at kept message.from = c.index-sender.ensures ∙ ap
    (λ (i : ℕ). get_or items i sender) c.get.ensures.value
    ∙ get_or_default items message.from sender no_turns (omega (arith, c.requires.from, many)) ∙ ap
    (λ (v : List ProcessTurns). turns_at v message.from) c.self.view_is in
    let receiver_is : receiver ≡ turns_at kept to = c.index-receiver.ensures ∙ ap
    (λ (i : ℕ). get_or items i receiver) c.get-2.ensures.value
    ∙ get_or_default items to receiver no_turns (omega (arith, c.requires.to, many)) ∙ ap
    (λ (v : List ProcessTurns). turns_at v to) c.self.view_is in
    let found : c.colour_at-colour.result
    ≡ message_colour history message = message_colour_is history kept message sender
    c.colour_at-colour.result are coloured held c.requires.from sender_is
    c.colour_at-colour.ensures in
    let own : c.receiver.inside.colour
    ≡ colour (tape_at history to) = ap (λ (v : ProcessTurns). v.colour) (c.receiver.view_is ∙
    receiver_is) ∙ (are.each to (omega (arith, c.requires.to, are.count))).colour_is in
    subst (λ (v : ℕ). SomeIff c.before_receive.result (colour (tape_at history to) < v) v) found
    (subst (λ (v : ℕ). SomeIff c.before_receive.result
    (v < c.colour_at-colour.result) c.colour_at-colour.result) own c.before_receive.ensures)
