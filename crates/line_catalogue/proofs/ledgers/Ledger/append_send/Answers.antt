-- An event keeps what is left right.
use Rattle.std.proofs.Common.{List, length, sym, ap, subst, arith}
use Rattle.line_tape.specs.declared.events.Event.TheVariants.{Send}
use Rattle.line_tape.specs.History.{Process}
use Rattle.line_tape.specs.Views.{HistoryView}
use Rattle.line_catalogue.specs.Left.{IsLedger}
use Rattle.line_catalogue.proofs.LeftLemmas.{IsLedger-event}
use Rattle.line_catalogue.proofs.ledgers.Ledger.append_send.Goals as goal

pub invariant_of-self : goal.invariant_of-self
invariant_of-self c =
    subst (λ (h : List Process). IsLedger h c.self.inside.starts.items c.self.inside.places.items
    c.self.inside.left.items c.self.inside.closed) (sym c.append_send.ensures.processes)
    (IsLedger-event c.self.inside.history.processes c.self.inside.starts.items
    c.self.inside.places.items c.self.inside.left.items c.self.inside.closed c.args.p
    (Send c.args.to c.args.inc c.args.body.now) (omega (
      arith,
      c.requires.process,
      ap
          (λ (v : HistoryView). length v.processes) c.self.view_is,
    )) c.self.invariant)
