-- The round is the one of its number.
use Rattle.std.proofs.Common.{◌≡◌, ◌++◌, ◌∷◌, [], ℕ, Bool, List, Option, true, sym, subst, ap, ◌∙◌}
use Rattle.std.specs.Prelude.{MatchOption, if◌then◌else◌}
use Rattle.line_tape.specs.History.{Process}
use Rattle.line_tape.specs.Rounds.{is_completed_fifo}
use Rattle.line_tape.specs.declared.modes.Mode.TheVariants.{Fifo}
use Rattle.line_moves.specs.Listed.{ListedRound, listed_round}
use Rattle.line_moves.specs.Openings.{OpenView, newly_closed, IsOnlyOpen, IsRecording, IsRunning}
use Rattle.line_moves.proofs.openings.list_round.Goals as goal

pub of_markers-requires-clause-recording : goal.of_markers-requires-clause-recording
of_markers-requires-clause-recording c =
    let history : List Process = c.args.history.now.processes in
    let opening : IsRunning Fifo history c.in-Some.round = subst (IsOnlyOpen Fifo history)
    (sym c.take.ensures.value ∙ c.in-Some.is) c.requires.opening in
    subst (IsRecording history) (sym c.round.view_is) opening.recording

pub of_markers-requires-clause-completed : goal.of_markers-requires-clause-completed
of_markers-requires-clause-completed c =
    let history : List Process = c.args.history.now.processes in
    let completed : is_completed_fifo history c.in-Some.round.number ≡ true =
    subst (λ o. MatchOption o ⊥ (λ (round : OpenView). is_completed_fifo history round.number
    ≡ true)) (sym c.take.ensures.value ∙ c.in-Some.is) c.requires.completed in
    ap (λ (v : OpenView). is_completed_fifo history v.number) c.round.view_is ∙ completed

pub returns-clause-listed : goal.returns-clause-listed
returns-clause-listed c =
    let history : List Process = c.args.history.now.processes in
    let items : List ListedRound = c.args.rounds.now.items in
    let r : ℕ = c.in-Some.round.number in
    let taken = sym c.take.ensures.value ∙ c.in-Some.is in
    let completed : is_completed_fifo history r ≡ true =
    subst (λ o. MatchOption o ⊥ (λ (round : OpenView). is_completed_fifo history round.number
    ≡ true)) taken c.requires.completed in
    c.push.ensures
    ∙ ap (λ (l : ListedRound). items ++ l ∷ []) (c.of_markers.ensures ∙ ap
    (λ (v : OpenView). listed_round Fifo history v.number) c.round.view_is)
    ∙ sym (ap (λ (b : Bool). items ++ (if b then listed_round Fifo history r ∷ [] else []))
    completed)
    ∙ ap (λ (o : Option OpenView). items ++ newly_closed Fifo history o) (sym taken)
