-- The verdict is that on what the input spells.
use Rattle.line_text.proofs.JudgeLemmas.{judges_text}
use Rattle.line_text.proofs.judgings.check_text.Goals as goal

pub returns-in-Ok-tell_verdict-clause-done : goal.returns-in-Ok-tell_verdict-clause-done
returns-in-Ok-tell_verdict-clause-done g c =
    let spelt = c.in_ok-check.ensures.spelt in (
      spelt.0,
      spelt.1,
      judges_text _ _ _ _ _ spelt.2 c.in-Ok.ensures
          c.in-Ok-tell_verdict.ensures.ok,
    )
