-- One message more is another.
use Rattle.std.proofs.Common.{◌≡◌, ◌∷◌, List, sym, ◌∙◌, subst}
use Rattle.std.specs.List.{Contains}
use Rattle.std.proofs.lemmas.Bool.{false≢true}
use Rattle.line_names.specs.declared.choices.Choice.{Choice}
use Rattle.line_tape.specs.History.{Process}
use Rattle.line_check.specs.declared.answers.Replay.{Replay}
use Rattle.line_check.specs.Answers.{replay_of_ref, still_due}
use Rattle.line_check.proofs.MatchLemmas.{later-Contains, other-Contains}
use Rattle.line_check.proofs.replays.is_due.Goals as goal

pub due-preserved : goal.due-preserved
due-preserved c =
    let history : List Process = c.args.history.now.processes in
    let line : List Choice = c.args.line.now in
    let due : Replay = replay_of_ref c.in-Some.due in
    let later : List Replay = still_due history line c.next_replay.new.cursor in
    let left : still_due history line c.due.cursor ≡ due ∷ later = c.in-Some.ensures.left in
    let other : c.args.replay.now ≡ due
    → ⊥ = λ e. false≢true (sym c.if-is_replay.false ∙ c.is_replay.ensures.1 e) in
    record {
      number = c.in-Some.ensures.number;
      same = (
        λ h. other-Contains due later c.args.replay.now other (subst
            (λ (xs : List Replay). Contains xs c.args.replay.now) left (c.due.invariant.same.0 h)),
        λ h. c.due.invariant.same.1 (subst (λ (xs : List Replay). Contains xs c.args.replay.now)
            (sym left) (later-Contains due later c.args.replay.now h)),
      );
    }
