-- The process has one turn more.
use Rattle.std.proofs.Common.{◌≡◌, ◌++◌, [], ◌∷◌, ℕ, List, length, get_or, set, Some, sym, ap, ◌∙◌}
use Rattle.std.proofs.Common.{subst, arith}
use Rattle.std.proofs.lemmas.Result.{on_ok_weaker}
use Rattle.std.proofs.lemmas.List.{get_or_default}
use Rattle.line_tape.specs.declared.events.Event.TheVariants.{Check}
use Rattle.line_tape.specs.History.{with_event}
use Rattle.line_rounds.specs.Kept.{ProcessTurns, turns_at, no_turns, AreTurned}
use Rattle.line_rounds.proofs.TurnedLemmas.{AreTurned-check}
use Rattle.line_rounds.proofs.colours.Colours.turn.Goals as goal

pub returns-clause-ok : goal.returns-clause-ok
returns-clause-ok c = on_ok_weaker c.turn.result (λ turned history state are count_is.
    let kept : List ProcessTurns = c.args.self.now in
    let items : List ProcessTurns = c.self.inside.processes.items in
    let p : ℕ = c.args.p in
    let old : ProcessTurns = c.index_mut.result.now in
    let many : length items
    ≡ length kept = ap (λ (v : List ProcessTurns). length v) c.self.view_is in
    let own : old ≡ turns_at kept p = c.index_mut.ensures.value ∙ ap
    (λ (i : ℕ). get_or items i old) c.get.ensures.value
    ∙ get_or_default items p old no_turns (omega (arith, c.requires.p, many)) ∙ ap
    (λ (v : List ProcessTurns). turns_at v p) c.self.view_is in
    let more : ProcessTurns → ProcessTurns = λ (v : ProcessTurns). record {
      colour = c.args.round;
      turns = v.turns ++ record { round = c.args.round; sends = c.args.sends } ∷ [];
    } in
    let new : c.turn.new.self ≡ more (turns_at kept p) = turned ∙ ap more own in
    subst (λ (i : ℕ). AreTurned (with_event history p (Check state (Some c.args.round)))
    (set items i c.turn.new.self)) (sym c.get.ensures.value)
    (subst (λ (v : ProcessTurns). AreTurned (with_event history p (Check state (Some c.args.round)))
    (set items p v)) (sym new)
    (subst (λ (v : List ProcessTurns). AreTurned (with_event history p
    (Check state (Some c.args.round))) (set v p (more (turns_at kept p)))) (sym c.self.view_is)
    (AreTurned-check history p state c.args.round c.args.sends kept c.requires.p c.requires.greater
    are count_is)))) c.turn.ensures.ok
