-- A check agrees.
use Rattle.std.proofs.Common.{List, length, None, ap, arith}
use Rattle.line_tape.specs.History.{Process}
use Rattle.line_moves.proofs.AgreeLemmas.{AgreesNext-check}
use Rattle.line_moves.proofs.moves.add_check.Goals as goal

pub append-requires-clause-agrees : goal.append-requires-clause-agrees
append-requires-clause-agrees c =
    AgreesNext-check c.reserve.new.self.processes c.history.ensures.agrees c.args.at
    (omega (
      arith,
      c.requires.at,
      ap
          (λ (h : List Process). length h) c.in_ok-reserve.ensures.processes,
    )) c.args.state None
