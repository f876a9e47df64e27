-- Its channel from the sender is closed.
use Rattle.std.proofs.Common.{◌≡◌, ℕ, Bool, List, ap, ◌∙◌, arith}
use Rattle.line_names.specs.declared.messages.MsgName.{MsgName}
use Rattle.line_rounds.specs.Recording.{MarkerView, RecordedRound, with_marker, with_round}
use Rattle.line_moves.specs.Recorders.{rounds_noted}
use Rattle.line_moves.proofs.RecorderLemmas.{forced_rounds}
use Rattle.line_moves.proofs.recorders.Recorder.force.Goals as goal

pub returns-clause-forced : goal.returns-clause-forced
returns-clause-forced c =
    let closed : List Bool = c.self.inside.closed in
    let noted : List (List MsgName) = c.self.inside.noted.items in
    let n : ℕ = c.self.inside.n in
    let size : n ≡ c.args.self.now.n = ap (λ (m : MarkerView). m.n) c.self.view_is in
    let seen : rounds_noted c.self.inside.round n closed noted
    ≡ c.args.self.now.rounds = ap (λ (m : MarkerView). m.rounds) c.self.view_is in
    let from : ℕ = c.args.from in
    forced_rounds c.self.inside.round c.args.round n from closed c.with-self-inside.result noted
    c.self.invariant.0 (seen ∙ c.requires.first) (omega (arith, c.requires.process, size))
    c.with-self-inside.ensures.member c.with-self-inside.ensures.others
    ∙ ap (λ (rs : List RecordedRound). with_marker (with_round rs n c.args.round) from c.args.round)
    seen
    ∙ ap (λ (v : ℕ). with_marker
    (with_round c.args.self.now.rounds v c.args.round) from c.args.round) size
