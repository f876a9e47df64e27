-- What the event receives.
use Rattle.std.proofs.Common.{◌++◌, ◌∷◌, [], List, sym, ap, subst, OnOk}
use Rattle.line_names.specs.declared.messages.MsgName.{MsgName}
use Rattle.line_tape.specs.declared.events.Event.{Event}
use Rattle.line_tape.specs.Shown.{event_of_ref}
use Rattle.line_tape.specs.Transit.{names_received}
use Rattle.line_catalogue.specs.Left.{AreIn}
use Rattle.line_catalogue.proofs.numbers.add_receipt.Goals as goal

pub returns-in-Recv-clause-added : goal.returns-in-Recv-clause-added
returns-in-Recv-clause-added c =
    subst (λ (e : Event). OnOk c.add_name.result
    ((names : List MsgName) → AreIn names c.args.ends.now c.args.rows.now.items
    → AreIn (names ++ names_received (e ∷ [])) c.args.ends.now c.add_name.new.rows.items))
    (sym (ap event_of_ref c.in-Recv.is)) c.add_name.ensures.added
