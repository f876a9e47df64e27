-- What is in transit at the line is left to look at.
use Rattle.std.proofs.Common.{◌≡◌, ℕ, List, sym, ap, ◌∙◌, subst}
use Rattle.line_names.specs.declared.choices.Choice.{Choice}
use Rattle.line_names.specs.declared.messages.MsgName.{MsgName}
use Rattle.line_tape.specs.History.{Process}
use Rattle.line_tape.specs.Transit.{in_transit}
use Rattle.line_tape.specs.Views.{HistoryView}
use Rattle.line_catalogue.specs.Left.{AreLeft}
use Rattle.line_catalogue.proofs.LeftLemmas.{IsLedger-open, AreLeft-line}
use Rattle.line_catalogue.proofs.ledgers.Ledger.keep.Goals as goal

pub invariant_of-self : goal.invariant_of-self
invariant_of-self c =
    let history : List Process = c.self.inside.history.processes in
    let line : List Choice = c.args.line.now in
    let starts : List ℕ = c.move_starts.new.starts.items in
    let places : List ℕ = c.move_places.new.places.items in
    let seen : history
    ≡ c.args.self.now.processes = ap (λ (v : HistoryView). v.processes) c.self.view_is in
    let told : c.args.messages.items ≡ in_transit history line = c.requires.transit ∙ ap
    (λ (h : List Process). in_transit h line) (sym seen) in
    IsLedger-open history starts places c.args.messages.items
    (subst (λ (left : List MsgName). AreLeft history starts places left) (sym told)
    (AreLeft-line history line starts places c.move_starts.ensures.count
    c.move_places.ensures.count c.move_starts.ensures.starts c.move_places.ensures.places))
