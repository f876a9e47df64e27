-- Numbers ascend, so the last round has the greatest.
use Rattle.std.proofs.Common.{◌≡◌, ℕ, suc, ◌-◌, List, length, get_or, sym, ap, ◌∙◌, arith}
use Rattle.line_names.specs.declared.messages.MsgName.{MsgName}
use Rattle.line_rounds.specs.Recording.{MarkerView, latest}
use Rattle.line_rounds.specs.Spans.{RoundView, names_of, IsAscending}
use Rattle.line_rounds.proofs.RoundLemmas.{latest-last, last_number, last_number-at}
use Rattle.line_rounds.proofs.markers.Marker.latest.Goals as goal

pub returns-in-Some : goal.returns-in-Some
returns-in-Some c =
    let logs : List (List MsgName) = names_of c.self.inside.logs in
    let rounds : List RoundView = c.self.inside.rounds.items in
    let up : IsAscending c.self.inside.floor rounds = c.self.invariant.1.ascending in
    let slice : c.deref.result.now ≡ rounds = c.deref.ensures.value in
    let last : ℕ = length c.deref.result.now - 1 in
    let count : length c.deref.result.now ≡ suc last = omega (arith, c.in-Some.ensures.item.3.0) in
    let shown : c.round.inside.number
    ≡ c.in-Some.round.now.number = ap (λ (r : RoundView). r.number) c.round.view_is in
    let read : c.in-Some.round.now.number ≡ (get_or c.deref.result.now last
    c.in-Some.round.now).number = ap (λ (r : RoundView). r.number) c.in-Some.ensures.item.1 in
    let found : last_number c.self.inside.floor c.deref.result.now
    ≡ (get_or c.deref.result.now last c.in-Some.round.now).number =
    last_number-at c.self.inside.floor c.deref.result.now last c.in-Some.round.now count in
    shown ∙ read ∙ sym found ∙ ap (λ (xs : List RoundView). last_number c.self.inside.floor xs)
    slice ∙ sym (latest-last c.self.inside.floor logs rounds up)
    ∙ ap (λ (m : MarkerView). latest m.floor m.rounds) c.self.view_is
