-- No round is open where nothing refuses, and the floor is of the last one begun.
use Rattle.line_live.proofs.ForgetLemmas.{may_line, may_round}
use Rattle.line_live.proofs.laws.found_floors_may_be_taken.Goals as goal

pub returns-clause-round : goal.returns-clause-round
returns-clause-round c machine number floor sound marked none found =
    may_round machine number floor sound marked none found

pub returns-clause-live : goal.returns-clause-live
returns-clause-live c machine floor sound marked none found =
    may_line machine floor sound marked none found
