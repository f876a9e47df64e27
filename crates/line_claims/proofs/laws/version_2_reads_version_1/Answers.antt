use Rattle.line_claims.proofs.LaterLemmas.{check_later, check_text_later, history_later}
use Rattle.line_claims.proofs.LaterLemmas.{history_text_later}
use Rattle.line_claims.proofs.laws.version_2_reads_version_1.Goals as goal

pub returns-clause-histories : goal.returns-clause-histories
returns-clause-histories c number rest history h = history_later number rest history h

pub returns-clause-checks : goal.returns-clause-checks
returns-clause-checks c number rest check h = check_later number rest check h

pub returns-clause-history_texts : goal.returns-clause-history_texts
returns-clause-history_texts c number rest text later history is also h =
    history_text_later number rest text later history is also h

pub returns-clause-check_texts : goal.returns-clause-check_texts
returns-clause-check_texts c number rest text later check is also h =
    check_text_later number rest text later check is also h
