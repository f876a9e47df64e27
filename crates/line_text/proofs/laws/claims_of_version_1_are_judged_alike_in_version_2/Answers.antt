use Rattle.line_claims.proofs.LaterLemmas.{check_text_later}
use Rattle.line_text.proofs.LawLemmas.{judged_alike, judged_front_alike}
use Rattle.line_text.proofs.laws.claims_of_version_1_are_judged_alike_in_version_2.Goals as goal

pub returns-clause-verdicts : goal.returns-clause-verdicts
returns-clause-verdicts c number rest text later verdict old new is also h =
    judged_alike text later verdict old new
    (λ check spelt. check_text_later number rest text later check is also spelt) h

pub returns-clause-fronts : goal.returns-clause-fronts
returns-clause-fronts c number rest text later old new is also h =
    judged_front_alike text later old new
    (λ check spelt. check_text_later number rest text later check is also spelt) h
