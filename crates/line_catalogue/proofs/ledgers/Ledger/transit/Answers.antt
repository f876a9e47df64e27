-- The kept line is closed where the ledger says so.
use Rattle.std.proofs.Common.{List, sym, ap, subst}
use Rattle.line_tape.specs.History.{Process}
use Rattle.line_tape.specs.Views.{HistoryView}
use Rattle.line_catalogue.specs.Left.{AreClosed}
use Rattle.line_catalogue.proofs.ledgers.Ledger.transit.Goals as goal

pub find_transit-requires-clause-closed : goal.find_transit-requires-clause-closed
find_transit-requires-clause-closed c = λ on. subst
    (λ (h : List Process). AreClosed h c.kept.result.starts.now c.kept.result.places.now)
    (sym (ap (λ (v : HistoryView). v.processes) c.self.view_is)) (c.kept.ensures.closed on)
