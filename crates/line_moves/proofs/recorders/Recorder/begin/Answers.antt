-- Its channels are open and empty.
use Rattle.std.proofs.Common.{◌≡◌, ℕ, Bool, List, ap, ◌∙◌}
use Rattle.line_names.specs.declared.messages.MsgName.{MsgName}
use Rattle.line_rounds.specs.Recording.{MarkerView, RecordedRound, with_round}
use Rattle.line_moves.specs.Recorders.{rounds_noted}
use Rattle.line_moves.proofs.RecorderLemmas.{begun_rounds}
use Rattle.line_moves.proofs.recorders.Recorder.begin.Goals as goal

pub returns-clause-begun : goal.returns-clause-begun
returns-clause-begun c =
    let closed : List Bool = c.self.inside.closed in
    let noted : List (List MsgName) = c.self.inside.noted.items in
    let n : ℕ = c.self.inside.n in
    let size : n ≡ c.args.self.now.n = ap (λ (m : MarkerView). m.n) c.self.view_is in
    let seen : rounds_noted c.self.inside.round n closed noted
    ≡ c.args.self.now.rounds = ap (λ (m : MarkerView). m.rounds) c.self.view_is in
    begun_rounds c.self.inside.round c.args.round n closed noted c.self.invariant.0
    (seen ∙ c.requires)
    ∙ ap (λ (rs : List RecordedRound). with_round rs n c.args.round) seen
    ∙ ap (λ (v : ℕ). with_round c.args.self.now.rounds v c.args.round) size
