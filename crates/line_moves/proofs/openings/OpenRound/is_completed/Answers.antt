-- Each process that is passed is closed.
use Rattle.std.proofs.Common.{◌≡◌, ℕ, ◌<◌, List, length, sym, ap, ◌∙◌, subst, arith, inl, inr}
use Rattle.std.specs.Prelude.{◌↔◌, IsTrue}
use Rattle.std.proofs.lemmas.Bool.{both_ways, cases_lt, false_from_ne_true}
use Rattle.line_rounds.specs.Recording.{IsOver}
use Rattle.line_tape.specs.History.{Process}
use Rattle.line_tape.specs.Rounds.{is_closed_at, is_completed_fifo}
use Rattle.line_laws.proofs.CompletionLemmas.{completed_closed, completed_from}
use Rattle.line_moves.specs.Openings.{OpenView, IsRecording}
use Rattle.line_moves.proofs.OpenFacts.{closed_is}
use Rattle.line_moves.proofs.ToComeLemmas.{none_to_come}
use Rattle.line_rounds.specs.Turning.{TurningView}
use Rattle.line_moves.proofs.openings.OpenRound.is_completed.Goals as goal

pub each-preserved : goal.each-preserved
each-preserved c = λ v within.
    let history : List Process = c.args.history.now.processes in
    let q : ℕ = c.each.q in
    let number : c.self.inside.turning.number
    ≡ c.args.self.now.number = ap (λ (o : OpenView). o.number) c.self.view_is in
    let here : c.is_closed.result ≡ is_closed_at history c.self.inside.turning.number q =
    closed_is history c.self.inside.turning c.self.inside.markers.items c.self.invariant.0
    (subst (IsRecording history) (sym c.self.view_is) c.requires) q c.index.result.now
    c.is_closed.result
    (omega (arith, c.each-test.true, c.n-n.ensures.value)) c.index.ensures
    (subst (λ (v : ℕ). IsTrue c.is_closed.result ↔ IsOver c.index.result.now v)
    c.number-number.ensures c.is_closed.ensures) in
    elim (cases_lt v q) [
      | inl below ↦ c.each.invariant v below
      | inr past ↦ let same : v ≡ q = omega (arith, within, past) in
          ap (is_closed_at history c.args.self.now.number) same ∙ ap (λ
          (r : ℕ). is_closed_at history r q) (sym number) ∙ sym here ∙ c.if-not-is_closed.false
    ]

pub returns-then-not-is_closed : goal.returns-then-not-is_closed
returns-then-not-is_closed c =
    let history : List Process = c.args.history.now.processes in
    let q : ℕ = c.each.q in
    let within : q < length history = omega (arith, c.each-test.true, c.n-n.ensures.value) in
    let number : c.self.inside.turning.number
    ≡ c.args.self.now.number = ap (λ (o : OpenView). o.number) c.self.view_is in
    let here : c.is_closed.result ≡ is_closed_at history c.self.inside.turning.number q =
    closed_is history c.self.inside.turning c.self.inside.markers.items c.self.invariant.0
    (subst (IsRecording history) (sym c.self.view_is) c.requires) q c.index.result.now
    c.is_closed.result
    within c.index.ensures (subst (λ (v : ℕ). IsTrue c.is_closed.result
    ↔ IsOver c.index.result.now v) c.number-number.ensures c.is_closed.ensures) in
    sym (false_from_ne_true (is_completed_fifo history c.args.self.now.number) (λ t.
    both_ways c.is_closed.result c.if-not-is_closed.true (here ∙ ap (λ (r : ℕ). is_closed_at history
    r q) number ∙ completed_closed history c.args.self.now.number q t within)))

pub returns-then-self-gt0 : goal.returns-then-self-gt0
returns-then-self-gt0 c =
    let history : List Process = c.args.history.now.processes in
    let turning : TurningView = c.self.inside.turning in
    let number : turning.number
    ≡ c.args.self.now.number = ap (λ (o : OpenView). o.number) c.self.view_is in
    sym (false_from_ne_true (is_completed_fifo history c.args.self.now.number) (λ t.
    none_to_come history turning c.self.inside.markers.items c.self.invariant.0 (subst (IsRecording
    history) (sym c.self.view_is) c.requires) (ap (is_completed_fifo history) number ∙ t)
    c.self.inside.to_come c.self.invariant.1 c.if-self-gt0.true))

pub returns : goal.returns
returns c =
    let history : List Process = c.args.history.now.processes in
    sym (completed_from history c.args.self.now.number (λ q within. c.each.invariant q
    (omega (arith, within, c.each-test.false, c.n-n.ensures.value))))
