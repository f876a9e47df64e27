-- What has settled is left to look at.
use Rattle.std.proofs.Common.{List, ℕ}
use Rattle.line_names.specs.declared.choices.Choice.{Choice}
use Rattle.line_names.specs.declared.messages.MsgName.{MsgName}
use Rattle.line_tape.specs.History.{Process}
use Rattle.line_catalogue.proofs.LeftLemmas.{IsLedger-open, AreLeft-settled}
use Rattle.line_catalogue.proofs.ledgers.Ledger.settle.Goals as goal

pub invariant_of-self : goal.invariant_of-self
invariant_of-self c =
    let history : List Process = c.self.inside.history.processes in
    let line : List Choice = c.present_line-line.result in
    let starts : List ℕ = c.in-Ok.settled.starts.items in
    let places : List ℕ = c.move_places.new.places.items in
    let left : List MsgName = c.in-Ok.settled.left.items in
    IsLedger-open history starts places left (AreLeft-settled history line starts places left
    c.in-Ok.ensures c.move_places.ensures.count c.move_places.ensures.places)
