-- What was noted from the process, in the round that is recorded.
use Rattle.std.proofs.Common.{◌≡◌, ℕ, Bool, List, [], Option, Some, get_or, sym, ap, ◌∙◌, arith}
use Rattle.std.specs.Option.{unwrap_or}
use Rattle.line_names.specs.declared.messages.MsgName.{MsgName}
use Rattle.line_rounds.specs.Recording.{MarkerView, RecordedRound, messages_by, round_of}
use Rattle.line_moves.specs.Recorders.{rounds_noted}
use Rattle.line_moves.proofs.RecorderLemmas.{names_elsewhere, names_here}
use Rattle.line_moves.proofs.recorders.Recorder.names.Goals as goal

pub returns-then-number-round : goal.returns-then-number-round
returns-then-number-round c =
    let closed : List Bool = c.self.inside.closed in
    let noted : List (List MsgName) = c.self.inside.noted.items in
    let n : ℕ = c.self.inside.n in
    let size : n ≡ c.args.self.now.n = ap (λ (m : MarkerView). m.n) c.self.view_is in
    let seen : rounds_noted c.self.inside.round n closed noted
    ≡ c.args.self.now.rounds = ap (λ (m : MarkerView). m.rounds) c.self.view_is in
    let s : ℕ = c.in-Some.number in
    let at : rounds_noted (Some s) n closed noted ≡ c.args.self.now.rounds = ap
    (λ (o : Option ℕ). rounds_noted o n closed noted) (sym c.in-Some.is) ∙ seen in
    sym (ap (λ (rs : List RecordedRound). unwrap_or
    (messages_by (round_of rs c.args.round) c.args.from) [])
    (sym at) ∙ names_elsewhere s c.args.round n c.args.from closed noted c.if-number-round.true)

pub returns : goal.returns
returns c =
    let closed : List Bool = c.self.inside.closed in
    let noted : List (List MsgName) = c.self.inside.noted.items in
    let n : ℕ = c.self.inside.n in
    let size : n ≡ c.args.self.now.n = ap (λ (m : MarkerView). m.n) c.self.view_is in
    let seen : rounds_noted c.self.inside.round n closed noted
    ≡ c.args.self.now.rounds = ap (λ (m : MarkerView). m.rounds) c.self.view_is in
    let s : ℕ = c.in-Some.number in
    let at : rounds_noted (Some s) n closed noted ≡ c.args.self.now.rounds = ap
    (λ (o : Option ℕ). rounds_noted o n closed noted) (sym c.in-Some.is) ∙ seen in
    c.names_of.ensures ∙ ap
    (λ (ns : List (List MsgName)). get_or ns c.args.from []) c.deref.ensures.value
    ∙ sym (names_here s c.args.round n c.args.from closed noted c.if-number-round.false
    (omega (arith, c.requires, size)))
    ∙ ap (λ (rs : List RecordedRound). unwrap_or
    (messages_by (round_of rs c.args.round) c.args.from) []) at
