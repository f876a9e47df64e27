-- A marker is the first one where the round is recorded and none has come.
use Rattle.std.proofs.Common.{◌≡◌, ℕ, Bool, List, Option, Some, refl, sym, ap, ◌∙◌, subst, arith}
use Rattle.std.proofs.lemmas.Bool.{false≢true}
use Rattle.line_names.specs.declared.messages.MsgName.{MsgName}
use Rattle.line_rounds.specs.Recording.{MarkerView, RecordedRound, with_marker}
use Rattle.line_moves.specs.Recorders.{rounds_noted}
use Rattle.line_moves.proofs.RecorderLemmas.{IsOpenAt, closed_rounds, open_elsewhere, open_here}
use Rattle.line_moves.proofs.RecorderLemmas.{open_not}
use Rattle.line_moves.proofs.recorders.Recorder.close_channel.Goals as goal

pub returns-then-number-round-clause-first : goal.returns-then-number-round-clause-first
returns-then-number-round-clause-first c =
    let closed : List Bool = c.self.inside.closed in
    let noted : List (List MsgName) = c.self.inside.noted.items in
    let n : ℕ = c.self.inside.n in
    let size : n ≡ c.args.self.now.n = ap (λ (m : MarkerView). m.n) c.self.view_is in
    let seen : rounds_noted c.self.inside.round n closed noted
    ≡ c.args.self.now.rounds = ap (λ (m : MarkerView). m.rounds) c.self.view_is in
    let s : ℕ = c.in-Some.number in
    let at : rounds_noted (Some s) n closed noted ≡ c.args.self.now.rounds = ap
    (λ (o : Option ℕ). rounds_noted o n closed noted) (sym c.in-Some.is) ∙ seen in
    let r : ℕ = c.args.round in
    let from : ℕ = c.args.from in (
      λ t. absurd (false≢true t),
      λ is. absurd
          (open_elsewhere s r n from closed noted c.if-number-round.true
          (subst (λ (rs : List RecordedRound). IsOpenAt rs r from) (sym at) is)),
    )

pub returns-then-has-clause-first : goal.returns-then-has-clause-first
returns-then-has-clause-first c =
    let closed : List Bool = c.self.inside.closed in
    let noted : List (List MsgName) = c.self.inside.noted.items in
    let n : ℕ = c.self.inside.n in
    let size : n ≡ c.args.self.now.n = ap (λ (m : MarkerView). m.n) c.self.view_is in
    let seen : rounds_noted c.self.inside.round n closed noted
    ≡ c.args.self.now.rounds = ap (λ (m : MarkerView). m.rounds) c.self.view_is in
    let s : ℕ = c.in-Some.number in
    let at : rounds_noted (Some s) n closed noted ≡ c.args.self.now.rounds = ap
    (λ (o : Option ℕ). rounds_noted o n closed noted) (sym c.in-Some.is) ∙ seen in
    let r : ℕ = c.args.round in
    let from : ℕ = c.args.from in
    let has = sym c.has.ensures ∙ c.if-has.true in (
      λ t. absurd (false≢true t),
      λ is. absurd
          (open_not s r n from closed noted c.if-number-round.false
          (omega (arith, c.requires, size))
          has (subst (λ (rs : List RecordedRound). IsOpenAt rs r from) (sym at) is)),
    )

pub returns-clause-first : goal.returns-clause-first
returns-clause-first c =
    let closed : List Bool = c.self.inside.closed in
    let noted : List (List MsgName) = c.self.inside.noted.items in
    let n : ℕ = c.self.inside.n in
    let size : n ≡ c.args.self.now.n = ap (λ (m : MarkerView). m.n) c.self.view_is in
    let seen : rounds_noted c.self.inside.round n closed noted
    ≡ c.args.self.now.rounds = ap (λ (m : MarkerView). m.rounds) c.self.view_is in
    let s : ℕ = c.in-Some.number in
    let at : rounds_noted (Some s) n closed noted ≡ c.args.self.now.rounds = ap
    (λ (o : Option ℕ). rounds_noted o n closed noted) (sym c.in-Some.is) ∙ seen in
    let r : ℕ = c.args.round in
    let from : ℕ = c.args.from in
    let has = sym c.has.ensures ∙ c.if-has.false in (
      λ t. subst (λ (rs : List RecordedRound). IsOpenAt rs r from) at (open_here s r n from closed
          noted c.if-number-round.false (omega (arith, c.requires, size)) has),
      λ is. refl,
    )

pub returns-clause-closed : goal.returns-clause-closed
returns-clause-closed c = λ t.
    let closed : List Bool = c.self.inside.closed in
    let noted : List (List MsgName) = c.self.inside.noted.items in
    let n : ℕ = c.self.inside.n in
    let size : n ≡ c.args.self.now.n = ap (λ (m : MarkerView). m.n) c.self.view_is in
    let seen : rounds_noted c.self.inside.round n closed noted
    ≡ c.args.self.now.rounds = ap (λ (m : MarkerView). m.rounds) c.self.view_is in
    let s : ℕ = c.in-Some.number in
    let at : rounds_noted (Some s) n closed noted ≡ c.args.self.now.rounds = ap
    (λ (o : Option ℕ). rounds_noted o n closed noted) (sym c.in-Some.is) ∙ seen in
    let r : ℕ = c.args.round in
    let from : ℕ = c.args.from in
    let new : List Bool = c.with-self-inside.result in
    ap (λ (o : Option ℕ). rounds_noted o n new noted) c.in-Some.is
    ∙ closed_rounds s r n from closed new noted c.if-number-round.false (omega (
      arith,
      c.requires,
      size,
    )) c.with-self-inside.ensures.member c.with-self-inside.ensures.others
    ∙ ap (λ (rs : List RecordedRound). with_marker rs from r) at
