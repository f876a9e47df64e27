-- What its receiver has recorded of it, or what was counted.
use Rattle.std.proofs.Common.{◌≡◌, ◌<◌, ℕ, List, [], length, get_or, Option, None, sym, ap, ◌∙◌}
use Rattle.std.proofs.Common.{subst, arith}
use Rattle.std.specs.Prelude.{All}
use Rattle.line_rounds.specs.Recording.{MarkerView}
use Rattle.line_names.specs.declared.messages.MsgName.{MsgName}
use Rattle.line_rounds.specs.Tables.{between}
use Rattle.line_moves.specs.Listed.{ListedRound, channel_in}
use Rattle.line_moves.specs.Openings.{channels_kept, kept_channel, AreChannels}
use Rattle.line_moves.proofs.OpeningLemmas.{table_cell}
use Rattle.line_moves.proofs.rounds.Round.channel.Goals as goal

pub returns-in-Some : goal.returns-in-Some
returns-in-Some c =
    let indices : List ℕ = c.self.inside.checks.items in
    let table : List (List (List MsgName)) = c.in-Some.channels in
    let count : length indices ≡ length c.args.self.now.checks = ap
    (λ (v : ListedRound). length v.checks) c.self.view_is in
    let kept : Option (List (List (List MsgName))) → List MsgName = λ o.
    get_or (get_or (channels_kept o (length indices) c.self.inside.markers
    c.self.inside.number) c.args.from []) c.args.to [] in
    c.between.ensures
    ∙ sym (table_cell (length indices) (between table) c.args.from c.args.to (omega
    (arith, c.requires.from, count)) (omega (arith, c.requires.to, count)) c.requires.other)
    ∙ ap kept (sym c.in-Some.is)
    ∙ ap (λ (v : ListedRound). channel_in v c.args.from c.args.to) c.self.view_is

pub names-requires-clause-from : goal.names-requires-clause-from
names-requires-clause-from c = λ k d within.
    let markers : List MarkerView = c.self.inside.markers in
    let indices : List ℕ = c.self.inside.checks.items in
    let count : length indices ≡ length c.args.self.now.checks = ap
    (λ (v : ListedRound). length v.checks) c.self.view_is in
    let are : AreChannels None (length indices) markers = subst (λ (o : Option (List (List
    (List MsgName)))). AreChannels o (length indices) markers) c.in-None.is c.self.invariant in
    let all : All (λ (marker : MarkerView). c.args.from < marker.n) markers = λ i e i_within. omega
    (arith, c.requires.from, count, are.0 i e i_within) in
    all k d within

pub names-requires-clause-ascend : goal.names-requires-clause-ascend
names-requires-clause-ascend c =
    let markers : List MarkerView = c.self.inside.markers in
    let indices : List ℕ = c.self.inside.checks.items in
    let are : AreChannels None (length indices) markers = subst (λ (o : Option (List (List
    (List MsgName)))). AreChannels o (length indices) markers) c.in-None.is c.self.invariant in
    are.1

pub returns-in-None : goal.returns-in-None
returns-in-None c =
    let markers : List MarkerView = c.self.inside.markers in
    let indices : List ℕ = c.self.inside.checks.items in
    let r : ℕ = c.self.inside.number in
    let from : ℕ = c.args.from in
    let to : ℕ = c.args.to in
    let count : length indices ≡ length c.args.self.now.checks = ap
    (λ (v : ListedRound). length v.checks) c.self.view_is in
    let kept : Option (List (List (List MsgName))) → List MsgName = λ o. get_or
    (get_or (channels_kept o (length indices) markers r) from []) to [] in
    c.names.ensures
    ∙ sym (table_cell (length indices) (kept_channel markers r) from to (omega
    (arith, c.requires.from, count)) (omega (arith, c.requires.to, count)) c.requires.other)
    ∙ ap kept (sym c.in-None.is)
    ∙ ap (λ (v : ListedRound). channel_in v from to) c.self.view_is
