use Rattle.line_text.proofs.LawLemmas.{fronts_alike, fronts_as_spelled, runs_alike, runs_as_spelled}
use Rattle.line_text.proofs.LawLemmas.{stops_alike, stops_as_spelled}
use Rattle.line_text.proofs.laws.scripts_of_both_versions_run_alike.Goals as goal

pub returns-clause-runs : goal.returns-clause-runs
returns-clause-runs c text refused old new good = runs_alike text refused old new good

pub returns-clause-fronts : goal.returns-clause-fronts
returns-clause-fronts c text old new good = fronts_alike text old new good

pub returns-clause-stops : goal.returns-clause-stops
returns-clause-stops c text record_number old new good = stops_alike text record_number old new good

pub returns-clause-runs_as_spelled : goal.returns-clause-runs_as_spelled
returns-clause-runs_as_spelled c text later refused old new h good =
    runs_as_spelled text later refused old new h good

pub returns-clause-fronts_as_spelled : goal.returns-clause-fronts_as_spelled
returns-clause-fronts_as_spelled c text later old new h good =
    fronts_as_spelled text later old new h good

pub returns-clause-stops_as_spelled : goal.returns-clause-stops_as_spelled
returns-clause-stops_as_spelled c text later record_number old new h good =
    stops_as_spelled text later record_number old new h good
