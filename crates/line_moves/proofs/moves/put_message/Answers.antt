-- A send under the present incarnation agrees.
use Rattle.std.proofs.Common.{◌≡◌, ℕ, List, length, sym, ap, ◌∙◌, subst, arith}
use Rattle.line_tape.specs.declared.events.Event.TheVariants.{Send}
use Rattle.line_tape.specs.History.{Process, incarnation_at}
use Rattle.line_catalogue.specs.Agreement.{AgreesNext}
use Rattle.line_moves.proofs.AgreeLemmas.{AgreesNext-send}
use Rattle.line_moves.proofs.moves.put_message.Goals as goal

pub append_send-requires-clause-agrees : goal.append_send-requires-clause-agrees
append_send-requires-clause-agrees c =
    let history : List Process = c.reserve.new.self.processes in
    let inc : c.incarnation-inc.result
    ≡ incarnation_at history c.args.from = c.incarnation-inc.ensures ∙ ap
    (λ (h : List Process). incarnation_at h c.args.from) c.history.ensures.processes in
    subst (λ (i : ℕ). AgreesNext history c.args.from (Send c.args.to i c.args.body.now)) (sym inc)
    (AgreesNext-send history c.history.ensures.agrees c.args.from
    (omega (
      arith,
      c.requires.from,
      ap (λ (h : List Process). length h)
          c.in_ok-reserve.ensures.processes,
    )) c.args.to c.args.body.now)
