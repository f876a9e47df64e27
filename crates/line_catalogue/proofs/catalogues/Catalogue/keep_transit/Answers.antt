-- The history stays as it is.
use Rattle.std.proofs.Common.{sym, subst}
use Rattle.line_tape.specs.Views.{HistoryView}
use Rattle.line_catalogue.specs.Kept.{IsCatalogue}
use Rattle.line_catalogue.proofs.catalogues.Catalogue.keep_transit.Goals as goal

pub invariant_of-self : goal.invariant_of-self
invariant_of-self c =
    subst (λ (v : HistoryView). IsCatalogue v.processes c.self.inside.marks c.self.inside.rows.rows
    c.self.inside.rows.presents) (sym c.keep.ensures) c.self.invariant
