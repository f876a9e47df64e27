-- The message is on the channel from its sender, if that is open.
use Rattle.std.proofs.Common.{◌≡◌, ℕ, Bool, List, Option, Some, sym, ap, ◌∙◌, arith}
use Rattle.std.proofs.lemmas.Result.{on_ok_weaker}
use Rattle.line_names.specs.declared.messages.MsgName.{MsgName}
use Rattle.line_rounds.specs.Recording.{MarkerView, RecordedRound, rounds_with_message}
use Rattle.line_moves.specs.Recorders.{rounds_noted}
use Rattle.line_moves.proofs.RecorderLemmas.{noted_rounds, unnoted_rounds}
use Rattle.line_moves.proofs.recorders.Recorder.note.Goals as goal

pub returns-then-has-clause-ok : goal.returns-then-has-clause-ok
returns-then-has-clause-ok c =
    let closed : List Bool = c.self.inside.closed in
    let noted : List (List MsgName) = c.self.inside.noted.items in
    let n : ℕ = c.self.inside.n in
    let m : MsgName = c.args.message in
    let size : n ≡ c.args.self.now.n = ap (λ (v : MarkerView). v.n) c.self.view_is in
    let seen : rounds_noted c.self.inside.round n closed noted
    ≡ c.args.self.now.rounds = ap (λ (v : MarkerView). v.rounds) c.self.view_is in
    sym seen ∙ unnoted_rounds c.self.inside.round n closed noted m (omega (arith, c.requires, size))
    (λ r e. sym c.has.ensures ∙ c.if-has.true)
    ∙ ap (λ (rs : List RecordedRound). rounds_with_message rs m) seen

pub returns-clause-ok : goal.returns-clause-ok
returns-clause-ok c =
    let closed : List Bool = c.self.inside.closed in
    let noted : List (List MsgName) = c.self.inside.noted.items in
    let new : List (List MsgName) = c.put.new.noted.items in
    let n : ℕ = c.self.inside.n in
    let s : ℕ = c.in-Some.field-0 in
    let m : MsgName = c.args.message in
    let size : n ≡ c.args.self.now.n = ap (λ (v : MarkerView). v.n) c.self.view_is in
    let seen : rounds_noted c.self.inside.round n closed noted
    ≡ c.args.self.now.rounds = ap (λ (v : MarkerView). v.rounds) c.self.view_is in
    let at : rounds_noted (Some s) n closed noted ≡ c.args.self.now.rounds = ap
    (λ (o : Option ℕ). rounds_noted o n closed noted) (sym c.in-Some.is) ∙ seen in
    on_ok_weaker c.put.result (λ here.
    ap (λ (o : Option ℕ). rounds_noted o n closed new) c.in-Some.is
    ∙ noted_rounds s n closed noted new m (omega (arith, c.requires, size))
    (sym c.has.ensures ∙ c.if-has.false) here c.put.ensures.others
    ∙ ap (λ (rs : List RecordedRound). rounds_with_message rs m) at) c.put.ensures.here
