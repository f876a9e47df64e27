use Rattle.line_text.proofs.TurnLemmas.{turn_none}
use Rattle.line_text.proofs.turns.take_turn.Goals as goal

pub returns-then-count-eq0-clause-ok : goal.returns-then-count-eq0-clause-ok
returns-then-count-eq0-clause-ok g c =
    turn_none _ _ _ _ _ _ _ _ _ c.if-count-eq0.true c.in-Ok.ensures.moves c.in-Ok.ensures.gives
