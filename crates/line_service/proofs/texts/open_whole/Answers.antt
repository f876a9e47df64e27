use Rattle.std.proofs.Common.{subst}
use Rattle.line_text.specs.Openings.{IsUnopened}
use Rattle.line_service.specs.Served.{parts_of}
use Rattle.line_service.specs.declared.machines.Served.{Served}
use Rattle.line_service.proofs.texts.open_whole.Goals as goal

pub returns-in-Err-clause-err : goal.returns-in-Err-clause-err
returns-in-Err-clause-err c = subst (λ (served : Served). IsUnopened
    (parts_of served) c.in-Err.cause) c.in-Text.ensures.value c.in-Err.ensures.err
