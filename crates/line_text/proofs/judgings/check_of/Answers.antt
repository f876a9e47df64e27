use Rattle.line_text.proofs.WindowLemmas.{check_codes, check_if_err, check_if_ok, ended_if}
use Rattle.line_text.proofs.WindowLemmas.{read_if_err, wider_codes}
use Rattle.line_text.proofs.judgings.check_of.Goals as goal

pub returns-clause-spelt : goal.returns-clause-spelt
returns-clause-spelt g c =
    check_if_ok c.into_check.result _ _ _ _ _ c.in_ok-read_lines.ensures.whole c.into_check.ensures

pub returns-clause-text : goal.returns-clause-text
returns-clause-text g c =
    check_if_err c.into_check.result _ _ _ _ _ c.in_ok-read_lines.ensures.whole c.into_check.ensures

pub returns-clause-read : goal.returns-clause-read
returns-clause-read g c =
    let whole = c.in_ok-read_lines.ensures.whole in
    read_if_err c.into_check.result _
    (check_codes c.into_check.result whole.0 _ whole.2 c.into_check.ensures)

pub returns-clause-codes : goal.returns-clause-codes
returns-clause-codes g c =
    let whole = c.in_ok-read_lines.ensures.whole in
    wider_codes c.into_check.result
    (check_codes c.into_check.result whole.0 _ whole.2 c.into_check.ensures)

pub returns-clause-ended : goal.returns-clause-ended
returns-clause-ended g c =
    let whole = c.in_ok-read_lines.ensures.whole in
    ended_if c.into_check.result _ _ (check_codes c.into_check.result whole.0 _ whole.2
    c.into_check.ensures) c.in_ok-read_lines.ensures.ended
