-- The round that is recorded is over where each marker has come.
use Rattle.std.proofs.Common.{◌≡◌, ℕ, Bool, List, Option, Some, sym, ap, ◌∙◌, subst}
use Rattle.std.proofs.lemmas.Bool.{false≢true}
use Rattle.line_names.specs.declared.messages.MsgName.{MsgName}
use Rattle.line_rounds.specs.Recording.{MarkerView, RecordedRound}
use Rattle.line_moves.specs.Recorders.{rounds_noted}
use Rattle.line_moves.proofs.RecorderLemmas.{IsOverAt, here_over, over_elsewhere, over_here}
use Rattle.line_moves.proofs.recorders.Recorder.is_closed.Goals as goal

pub returns-then-number-round : goal.returns-then-number-round
returns-then-number-round c =
    let closed : List Bool = c.self.inside.closed in
    let noted : List (List MsgName) = c.self.inside.noted.items in
    let n : ℕ = c.self.inside.n in
    let size : n ≡ c.args.self.now.n = ap (λ (m : MarkerView). m.n) c.self.view_is in
    let seen : rounds_noted c.self.inside.round n closed noted
    ≡ c.args.self.now.rounds = ap (λ (m : MarkerView). m.rounds) c.self.view_is in
    let s : ℕ = c.in-Some.number in
    let at : rounds_noted (Some s) n closed noted ≡ c.args.self.now.rounds = ap
    (λ (o : Option ℕ). rounds_noted o n closed noted) (sym c.in-Some.is) ∙ seen in
    let me : c.self.inside.me
    ≡ c.args.self.now.me = ap (λ (m : MarkerView). m.me) c.self.view_is in (
      λ t. absurd (false≢true t),
      λ is. absurd
          (over_elsewhere s c.args.round n c.self.inside.me closed noted c.if-number-round.true
          (subst (λ (v : ℕ). IsOverAt v c.self.inside.me
          (rounds_noted (Some s) n closed noted) c.args.round) (sym size)
          (subst (λ (v : ℕ). IsOverAt c.args.self.now.n v
          (rounds_noted (Some s) n closed noted) c.args.round) (sym me)
          (subst (λ (rs : List RecordedRound). IsOverAt c.args.self.now.n c.args.self.now.me rs
          c.args.round) (sym at) is)))),
    )

pub returns : goal.returns
returns c =
    let closed : List Bool = c.self.inside.closed in
    let noted : List (List MsgName) = c.self.inside.noted.items in
    let n : ℕ = c.self.inside.n in
    let size : n ≡ c.args.self.now.n = ap (λ (m : MarkerView). m.n) c.self.view_is in
    let seen : rounds_noted c.self.inside.round n closed noted
    ≡ c.args.self.now.rounds = ap (λ (m : MarkerView). m.rounds) c.self.view_is in
    let s : ℕ = c.in-Some.number in
    let at : rounds_noted (Some s) n closed noted ≡ c.args.self.now.rounds = ap
    (λ (o : Option ℕ). rounds_noted o n closed noted) (sym c.in-Some.is) ∙ seen in
    let me : c.self.inside.me
    ≡ c.args.self.now.me = ap (λ (m : MarkerView). m.me) c.self.view_is in (
      λ t. subst (λ (rs : List RecordedRound). IsOverAt c.args.self.now.n c.args.self.now.me rs
          c.args.round) at
          (subst (λ (v : ℕ). IsOverAt c.args.self.now.n v
          (rounds_noted (Some s) n closed noted) c.args.round) me
          (subst (λ (v : ℕ). IsOverAt v c.self.inside.me
          (rounds_noted (Some s) n closed noted) c.args.round) size
          (over_here s c.args.round n c.self.inside.me closed noted c.if-number-round.false
          (c.have_come.ensures.0 t)))),
      λ is. c.have_come.ensures.1
          (here_over s c.args.round n c.self.inside.me closed noted c.if-number-round.false
          (subst (λ (v : ℕ). IsOverAt v c.self.inside.me
          (rounds_noted (Some s) n closed noted) c.args.round) (sym size)
          (subst (λ (v : ℕ). IsOverAt c.args.self.now.n v
          (rounds_noted (Some s) n closed noted) c.args.round) (sym me)
          (subst (λ (rs : List RecordedRound). IsOverAt c.args.self.now.n c.args.self.now.me rs
          c.args.round) (sym at) is)))),
    )
