-- The law, by its lemmas.
use Rattle.line_laws.proofs.CompletionLemmas.{contains_round, marker_checked, check_of_push}
use Rattle.line_laws.proofs.CompletionLemmas.{check_of_new, no_check_restarted, no_rounds_restarted}
use Rattle.line_laws.proofs.CompletionLemmas.{no_marker_restarted}
use Rattle.line_laws.proofs.NextLemmas.{check_in}
use Rattle.line_laws.proofs.rounds.markers_follow_checks.Goals as goal

pub returns-clause-marker : goal.returns-clause-marker
returns-clause-marker c = marker_checked

pub returns-clause-round : goal.returns-clause-round
returns-clause-round c = λ tape r. (check_in r tape, contains_round tape r)

pub returns-clause-new : goal.returns-clause-new
returns-clause-new c = check_of_new

pub returns-clause-kept : goal.returns-clause-kept
returns-clause-kept c = check_of_push

pub returns-clause-restart_checks : goal.returns-clause-restart_checks
returns-clause-restart_checks c = no_check_restarted

pub returns-clause-restart_rounds : goal.returns-clause-restart_rounds
returns-clause-restart_rounds c = no_rounds_restarted

pub returns-clause-restart_markers : goal.returns-clause-restart_markers
returns-clause-restart_markers c = no_marker_restarted
