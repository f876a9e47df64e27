-- The checks are those of what is left, and the channels are counted at them.
use Rattle.std.proofs.Common.{◌≡◌, ℕ, ◌-◌, List, length, map, sym, ap, ◌∙◌}
use Rattle.std.specs.List.{range_with_len}
use Rattle.std.proofs.lemmas.List.FromFn.{length-map-range_with_len}
use Rattle.line_names.specs.declared.choices.Choice.{Choice}
use Rattle.line_names.specs.declared.messages.MsgName.{MsgName}
use Rattle.line_tape.specs.History.{Process}
use Rattle.line_tape.specs.Rounds.{check_line}
use Rattle.line_tape.specs.Transit.{in_transit}
use Rattle.line_rounds.specs.Channels.{channels_at}
use Rattle.line_rounds.specs.Tables.{between}
use Rattle.line_cuts.specs.Cuts.{Floor, lost_checks}
use Rattle.line_moves.specs.Listed.{ListedRound, channel_table, check_in}
use Rattle.line_live.specs.CutMachines.{cut_listed}
use Rattle.line_live.proofs.ListedCuts.{channels_left, same_round}
use Rattle.line_live.proofs.listed.cut_listed.Goals as goal

pub returns : goal.returns
returns c =
    let floor : Floor = c.args.floor.now in
    let round : ListedRound = c.args.round.now in
    let history : List Process = c.args.catalogue.now.processes in
    let line : List Choice = c.line_of_checks-line.result in
    let shared : List (List (List MsgName)) = c.in_ok-shared.shared in
    let left : ℕ → List ℕ = λ (n : ℕ). map (λ p. check_in round p - lost_checks floor p)
    (range_with_len 0 n) in
    let indices : c.in_ok-checks.checks.items ≡ left (length round.checks) = c.in_ok-checks.ensures
    ∙ ap left (c.n.ensures.value ∙ sym c.requires.count) in
    let count : length c.in_ok-checks.checks.items
    ≡ length round.checks = ap (λ (xs : List ℕ). length xs) indices ∙ length-map-range_with_len
    (λ p. check_in round p - lost_checks floor p) 0 (length round.checks) in
    let line_is : line ≡ check_line (left (length round.checks)) = c.line_of_checks-line.ensures ∙
    ap check_line (c.deref.ensures.value ∙ indices) in
    let transit : c.deref-2.result.now ≡ in_transit c.history.result.now.processes line =
    c.deref-2.ensures.value ∙ c.in_ok-messages.ensures ∙ ap
    (λ (h : List Process). in_transit h line) (sym c.history.ensures.processes) in
    let table : shared ≡ channels_at history (check_line (left (length round.checks))) =
    c.in_ok-shared.ensures ∙ c.in_ok-channels.ensures.transit line transit
    ∙ ap (λ (h : List Process). channels_at h line) c.history.ensures.processes
    ∙ ap (channels_at history) line_is in
    same_round c.of_channels.result (cut_listed floor round)
    (c.of_channels.ensures.number ∙ c.number.ensures)
    (c.of_channels.ensures.checks ∙ indices)
    (c.of_channels.ensures.channels
    ∙ ap (λ (n : ℕ). channel_table n (between shared)) count
    ∙ channels_left floor round c.checks-checks.ensures.channels history c.requires.count
    c.requires.snapshot shared table)
