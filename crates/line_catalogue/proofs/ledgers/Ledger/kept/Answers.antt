-- The kept line is closed where the ledger says so.
use Rattle.std.proofs.Common.{◌≡◌, ℕ, List, sym, ap, subst}
use Rattle.line_tape.specs.History.{Process}
use Rattle.line_tape.specs.Views.{HistoryView}
use Rattle.line_catalogue.specs.Left.{AreClosed}
use Rattle.line_catalogue.proofs.ledgers.Ledger.kept.Goals as goal

pub returns-clause-closed : goal.returns-clause-closed
returns-clause-closed c = λ on.
    let history : List Process = c.self.inside.history.processes in
    let seen : history
    ≡ c.args.self.now.processes = ap (λ (v : HistoryView). v.processes) c.self.view_is in
    let told : AreClosed history c.self.inside.starts.items c.as_slice-2.result.now = subst
    (AreClosed history c.self.inside.starts.items) (sym c.as_slice-2.ensures.value)
    (c.self.invariant.told on) in
    subst (λ (h : List Process). AreClosed h c.as_slice.result.now c.as_slice-2.result.now) seen
    (subst (λ (starts : List ℕ). AreClosed history starts c.as_slice-2.result.now)
    (sym c.as_slice.ensures.value) told)
