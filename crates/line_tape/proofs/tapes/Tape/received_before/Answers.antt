-- The receipts before a choice are the first ones of the tape.
use Rattle.std.proofs.Common.{◌≡◌, ℕ, List, length, take, sym, ap, ◌∙◌, subst}
use Rattle.std.specs.List.{Contains}
use Rattle.line_names.specs.declared.messages.MsgName.{MsgName}
use Rattle.line_tape.specs.declared.events.Event.{Event}
use Rattle.line_tape.specs.Front.{front, place}
use Rattle.line_tape.specs.Transit.{names_received, received_name}
use Rattle.line_tape.specs.Views.{TapeView}
use Rattle.line_tape.proofs.RowLemmas.{told_front}
use Rattle.line_tape.proofs.TransitLemmas.{names_contain}
use Rattle.line_tape.proofs.tapes.Tape.received_before.Goals as goal

pub returns : goal.returns
returns c =
    let tape : List Event = c.args.self.now.events in
    let before : List Event = front tape c.args.choice in
    let m : MsgName = c.args.message.now in
    let seen : c.self.inside.log.events ≡ tape = ap (λ (t : TapeView). t.events) c.self.view_is in
    let names : c.self.inside.receipts.names
    ≡ names_received tape = c.self.invariant.received ∙ ap names_received seen in
    let fronts : take c.row.result.receipts c.self.inside.receipts.names
    ≡ names_received before = ap
    (λ (n : ℕ). take n c.self.inside.receipts.names) c.row.ensures.receipts ∙ ap
    (take (length (names_received before))) names ∙ sym
    (told_front received_name tape (place tape c.args.choice)) in (
      λ h. (names_contain before m).0
          (subst (λ (xs : List MsgName). Contains xs m) fronts (c.is_before.ensures.0 h)),
      λ k.
          c.is_before.ensures.1
          (subst (λ (xs : List MsgName). Contains xs m) (sym fronts)
          ((names_contain before m).1 k)),
    )
