-- The law, by its lemmas.
use Rattle.line_laws.proofs.GrowthLemmas.{has_check_push, channel_opened, has_mark_push}
use Rattle.line_laws.proofs.GrowthLemmas.{channel_push}
use Rattle.line_laws.proofs.rounds.channels_grow.Goals as goal

pub returns-clause-check : goal.returns-clause-check
returns-clause-check c = has_check_push

pub returns-clause-opened : goal.returns-clause-opened
returns-clause-opened c = channel_opened

pub returns-clause-mark : goal.returns-clause-mark
returns-clause-mark c = has_mark_push

pub returns-clause-channel : goal.returns-clause-channel
returns-clause-channel c = channel_push
