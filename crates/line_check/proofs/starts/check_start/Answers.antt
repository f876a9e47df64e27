-- What is compared is what the definition says.
use Rattle.std.proofs.Common.{◌≡◌, List, sym, ap, ◌∙◌}
use Rattle.std.proofs.lemmas.Bool.{false≢true}
use Rattle.line_names.specs.declared.choices.Choice.{Choice}
use Rattle.line_names.specs.Lines.{choice_at}
use Rattle.line_tape.specs.declared.events.Event.{Event}
use Rattle.line_tape.specs.History.{tape_at, incarnation_at}
use Rattle.line_tape.specs.Restart.{restarted_incarnation}
use Rattle.line_check.specs.Answers.{state_at}
use Rattle.line_check.specs.Faults.{state, incarnation}
use Rattle.line_check.proofs.starts.check_start.Goals as goal

pub returns-then-not-is_state_at-clause-fault : goal.returns-then-not-is_state_at-clause-fault
returns-then-not-is_state_at-clause-fault c =
    let there : state_at c.tape.result.now.events c.at-choice.result ≡ state_at
    (tape_at c.args.history.now.processes c.args.p) (choice_at c.args.line.now c.args.p)
    = ap (λ (tape : List Event). state_at tape c.at-choice.result) c.tape.ensures.events ∙ ap
    (state_at (tape_at c.args.history.now.processes c.args.p)) c.at-choice.ensures in
    state (λ same. false≢true
    (sym c.if-not-is_state_at.true ∙ c.is_state_at.ensures.1 (same ∙ sym there)))

pub returns-then-not-is_incarnation_after-clause-fault :
    goal.returns-then-not-is_incarnation_after-clause-fault
returns-then-not-is_incarnation_after-clause-fault c =
    let there : state_at c.tape.result.now.events c.at-choice.result ≡ state_at
    (tape_at c.args.history.now.processes c.args.p) (choice_at c.args.line.now c.args.p)
    = ap (λ (tape : List Event). state_at tape c.at-choice.result) c.tape.ensures.events ∙ ap
    (state_at (tape_at c.args.history.now.processes c.args.p)) c.at-choice.ensures in
    let after : restarted_incarnation c.at-choice.result c.incarnation.result
    ≡ restarted_incarnation (choice_at c.args.line.now c.args.p)
    (incarnation_at c.args.history.now.processes c.args.p)
    = ap (λ (choice : Choice). restarted_incarnation choice c.incarnation.result)
    c.at-choice.ensures ∙ ap
    (restarted_incarnation (choice_at c.args.line.now c.args.p)) c.incarnation.ensures in
    incarnation (c.is_state_at.ensures.0 c.if-not-is_state_at.false ∙ there)
    (λ same. false≢true (sym c.if-not-is_incarnation_after.true ∙ c.is_incarnation_after.ensures.1
    (same ∙ sym after)))
