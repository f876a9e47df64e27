use Rattle.line_text.proofs.WindowLemmas.{ended_if, fault_if_err, read_if_err, script_codes}
use Rattle.line_text.proofs.WindowLemmas.{spelt_if_ok, wider_codes}
use Rattle.line_text.proofs.engines.script_of.Goals as goal

pub returns-clause-spelt : goal.returns-clause-spelt
returns-clause-spelt g c = spelt_if_ok c.into_script.result _ _ _ _ _
    c.in_ok-read_lines.ensures.whole c.into_script.ensures.exact

pub returns-clause-text : goal.returns-clause-text
returns-clause-text g c = fault_if_err c.into_script.result _ _ _ _ _
    c.in_ok-read_lines.ensures.whole c.into_script.ensures.exact

pub returns-clause-read : goal.returns-clause-read
returns-clause-read g c = read_if_err c.into_script.result _
    (script_codes c.into_script.result c.into_script.ensures.codes)

pub returns-clause-codes : goal.returns-clause-codes
returns-clause-codes g c =
    wider_codes c.into_script.result (script_codes c.into_script.result c.into_script.ensures.codes)

pub returns-clause-ended : goal.returns-clause-ended
returns-clause-ended g c = ended_if c.into_script.result _ _
    (script_codes c.into_script.result c.into_script.ensures.codes) c.in_ok-read_lines.ensures.ended
