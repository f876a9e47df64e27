-- Nothing is told where nothing was noted, and a list with a message is one that is not empty.
use Rattle.std.proofs.Common.{◌≡◌, ℕ, Bool, List, [], get_or, length, refl, sym, ap, ◌∙◌, arith}
use Rattle.std.proofs.Common.{inl, inr}
use Rattle.std.specs.Option.{unwrap_or}
use Rattle.std.proofs.lemmas.Bool.{cases_lt, eq-eqb, false≢true}
use Rattle.std.proofs.lemmas.List.{get_or_past, get_or_default}
use Rattle.line_names.specs.declared.messages.MsgName.{MsgName}
use Rattle.line_rounds.specs.Recording.{MarkerView, RecordedRound, messages_by, round_of}
use Rattle.line_moves.specs.Recorders.{rounds_noted}
use Rattle.line_moves.proofs.RecorderLemmas.{names_silent, told_silent}
use Rattle.line_moves.proofs.recorders.Recorder.is_silent.Goals as goal

pub returns-then-not-is_empty : goal.returns-then-not-is_empty
returns-then-not-is_empty c =
    let closed : List Bool = c.self.inside.closed in
    let noted : List (List MsgName) = c.self.inside.noted.items in
    let n : ℕ = c.self.inside.n in
    let q : ℕ = c.each.q in
    let seen : rounds_noted c.self.inside.round n closed noted
    ≡ c.args.self.now.rounds = ap (λ (m : MarkerView). m.rounds) c.self.view_is in
    let told : List RecordedRound → ℕ → ℕ
    → List MsgName = λ rs round p. unwrap_or (messages_by (round_of rs round) p) [] in
    let own : c.own.inside.names.items
    ≡ get_or noted q [] = c.own.view_is ∙ c.index-own.ensures ∙ get_or_default noted q
    c.index-own.result.now []
    (omega (arith, c.each-test.true, c.len-q-end.ensures, c.self.inside.noted.ok.0)) in (
      λ t. absurd (false≢true t),
      λ none. absurd (false≢true (sym c.if-not-is_empty.true ∙ c.is_empty.ensures
          ∙ eq-eqb c.own.inside.names.len 0 (omega (
            arith,
            c.own.inside.names.ok.0,
            ap (λ (ms : List MsgName). length ms) (own
                ∙ told_silent c.self.inside.round n closed noted c.self.invariant.0
                c.self.invariant.2 (λ round p. ap
                (λ (rs : List RecordedRound). told rs round p) seen ∙ none round p) q),
          )))),
    )

pub returns : goal.returns
returns c =
    let closed : List Bool = c.self.inside.closed in
    let noted : List (List MsgName) = c.self.inside.noted.items in
    let n : ℕ = c.self.inside.n in
    let seen : rounds_noted c.self.inside.round n closed noted
    ≡ c.args.self.now.rounds = ap (λ (m : MarkerView). m.rounds) c.self.view_is in
    let told : List RecordedRound → ℕ → ℕ
    → List MsgName = λ rs round p. unwrap_or (messages_by (round_of rs round) p) [] in (
      λ t round p. ap (λ (rs : List RecordedRound). told rs round p) (sym seen)
          ∙ names_silent c.self.inside.round round n p closed noted
          (λ q. elim (cases_lt q (length noted)) [
            | inl within ↦ c.each.invariant q (omega
                (arith, within, c.each-test.false, c.len-q-end.ensures, c.self.inside.noted.ok.0))
            | inr past ↦ get_or_past noted q [] past
          ]),
      λ none. refl,
    )
