use Rattle.line_rounds.proofs.ChannelLemmas.{channel-at, IsTable-at}
use Rattle.line_rounds.proofs.CompletedLemmas.{IsLine-last, channels-last}
use Rattle.line_rounds.proofs.TurningLemmas.{IsTurning-checked}
use Rattle.line_rounds.proofs.laws.last_check_completes.Goals as goal

pub returns-clause-line : goal.returns-clause-line
returns-clause-line c = IsLine-last

pub returns-clause-channels : goal.returns-clause-channels
returns-clause-channels c = λ history turning p line state within is at others none a b.
    channels-last history turning p line within is at others state none a b

pub returns-clause-checks : goal.returns-clause-checks
returns-clause-checks c = IsTurning-checked

pub returns-clause-between : goal.returns-clause-between
returns-clause-between c = channel-at

pub returns-clause-table : goal.returns-clause-table
returns-clause-table c = IsTable-at
