-- The checks are those of the round, and the channels are counted at them.
use Rattle.std.proofs.Common.{◌≡◌, ℕ, List, length, sym, ap, ◌∙◌}
use Rattle.std.proofs.lemmas.List.{length-map}
use Rattle.line_names.specs.declared.choices.Choice.{Choice}
use Rattle.line_names.specs.declared.choices.Choice.TheVariants.{Check as AtCheck}
use Rattle.line_names.specs.declared.messages.MsgName.{MsgName}
use Rattle.line_tape.specs.History.{Process}
use Rattle.line_tape.specs.Rounds.{check_line}
use Rattle.line_tape.specs.Transit.{in_transit}
use Rattle.line_rounds.specs.Channels.{channels_at}
use Rattle.line_live.specs.Resumed.{CheckedRound, resumed_round}
use Rattle.line_live.proofs.ListedCuts.{same_round}
use Rattle.line_live.proofs.ResumedLemmas.{table_counted}
use Rattle.line_live.proofs.resumed.resumed_round.Goals as goal

pub returns-clause-round : goal.returns-clause-round
returns-clause-round c =
    let history : List Process = c.args.catalogue.now.processes in
    let round : CheckedRound = c.args.round.now in
    let line : List Choice = c.line_of_checks-line.result in
    let shared : List (List (List MsgName)) = c.in_ok-shared.shared in
    let checks : List ℕ = c.in_ok-checks.checks.items in
    let indices : checks ≡ round.checks = c.in_ok-checks.ensures.items ∙ c.deref.ensures.value ∙ ap
    (λ (r : CheckedRound). r.checks) c.round.view_is in
    let count : length checks ≡ length history = ap (λ (xs : List ℕ). length xs) indices ∙ sym
    (length-map round.checks (λ i. AtCheck i)) ∙ c.requires.length_is in
    let line_is : line ≡ check_line round.checks = c.line_of_checks-line.ensures ∙ ap check_line
    (c.deref-2.ensures.value ∙ indices) in
    let transit : c.deref-3.result.now ≡ in_transit c.history.result.now.processes line =
    c.deref-3.ensures.value ∙ c.in_ok-messages.ensures ∙ ap
    (λ (h : List Process). in_transit h line) (sym c.history.ensures.processes) in
    let table : shared ≡ channels_at history (check_line round.checks) =
    c.in_ok-shared.ensures ∙ c.in_ok-channels.ensures.transit line transit
    ∙ ap (λ (h : List Process). channels_at h line) c.history.ensures.processes
    ∙ ap (channels_at history) line_is in
    same_round c.of_channels.result (resumed_round history round)
    (c.of_channels.ensures.number ∙ ap (λ (r : CheckedRound). r.number) c.round.view_is)
    (c.of_channels.ensures.checks ∙ indices)
    (c.of_channels.ensures.channels ∙ table_counted history (check_line round.checks)
    (length checks) shared count table)
