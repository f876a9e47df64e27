-- Numbers ascend, so a search from the newest round on can stop at a smaller one.
use Rattle.std.proofs.Common.{◌≡◌, ℕ, ◌-◌, ◌<◌, List, length, map, get_or, Some, sym, ap, ◌∙◌}
use Rattle.std.proofs.Common.{arith}
use Rattle.std.proofs.lemmas.List.{length-map, get_or_default}
use Rattle.line_names.specs.declared.messages.MsgName.{MsgName}
use Rattle.line_rounds.specs.Recording.{MarkerView, RecordedRound, round_of}
use Rattle.line_rounds.specs.Spans.{RoundView, names_of, recorded_of}
use Rattle.line_rounds.proofs.RoundLemmas.{round_of-at, round_of-none, newest-below}
use Rattle.line_rounds.proofs.markers.Marker.place.Goals as goal

pub returns-then-recorded-round : goal.returns-then-recorded-round
returns-then-recorded-round c =
    let logs : List (List MsgName) = names_of c.self.inside.logs in
    let rounds : List RoundView = c.self.inside.rounds.items in
    let i : ℕ = c.newest.i - 1 in
    let old : RoundView = c.index-recorded.result.now in
    let seen : map (recorded_of logs) rounds
    ≡ c.args.self.now.rounds = ap (λ (m : MarkerView). m.rounds) c.self.view_is in
    let within : i < length rounds = omega (arith, c.newest.invariant.0, c.newest-test.true) in
    let number : (get_or rounds i old).number ≡ c.args.round = ap (λ (r : RoundView). r.number)
    (sym (c.recorded.view_is ∙ c.index-recorded.ensures)) ∙ c.if-recorded-round.true in (
      omega (
        arith,
        within,
        length-map rounds (recorded_of logs),
        ap
            (λ (rs : List RecordedRound). length rs) seen,
      ),
      λ d. ap (λ (rs : List RecordedRound). round_of rs c.args.round) (sym seen)
          ∙ round_of-at c.self.inside.floor logs rounds i c.args.round old d
          c.self.invariant.1.ascending within number
          ∙ ap (λ (rs : List RecordedRound). Some (get_or rs i d)) seen,
    )

pub returns-then-recorded-round-2 : goal.returns-then-recorded-round-2
returns-then-recorded-round-2 c =
    let logs : List (List MsgName) = names_of c.self.inside.logs in
    let rounds : List RoundView = c.self.inside.rounds.items in
    let i : ℕ = c.newest.i - 1 in
    let old : RoundView = c.index-recorded.result.now in
    let within : i < length rounds = omega (arith, c.newest.invariant.0, c.newest-test.true) in
    let small : (d : RoundView) → (get_or rounds i d).number < c.args.round = λ d.
    let is : c.recorded.inside.number
    ≡ (get_or rounds i d).number = ap (λ (r : RoundView). r.number)
    (c.recorded.view_is ∙ c.index-recorded.ensures ∙ get_or_default rounds i old d within) in
    omega (arith, c.if-recorded-round-2.true) in
    ap (λ (m : MarkerView). round_of m.rounds c.args.round) (sym c.self.view_is)
    ∙ round_of-none logs rounds c.args.round
    (newest-below c.self.inside.floor rounds i c.args.round c.self.invariant.1.ascending within
    small (λ k d le h. c.newest.invariant.1 k d (omega (arith, c.newest-test.true)) h))

pub returns : goal.returns
returns c =
    let logs : List (List MsgName) = names_of c.self.inside.logs in
    let rounds : List RoundView = c.self.inside.rounds.items in
    ap (λ (m : MarkerView). round_of m.rounds c.args.round) (sym c.self.view_is)
    ∙ round_of-none logs rounds c.args.round
    (λ k d h. c.newest.invariant.1 k d (omega (arith, c.newest-test.false)) h)
