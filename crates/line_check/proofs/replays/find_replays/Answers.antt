-- One message more of those that are due.
use Rattle.std.proofs.Common.{◌≡◌, ◌+◌, ◌∷◌, suc, List, length, drop, Some, sym, ap, ◌∙◌, subst}
use Rattle.std.proofs.Common.{arith, inl, inr}
use Rattle.std.specs.List.{slice_get}
use Rattle.std.proofs.lemmas.Bool.{false≢true}
use Rattle.std.proofs.lemmas.Option.{slice_get_within}
use Rattle.line_laws.proofs.LetterLemmas.{drop_next}
use Rattle.line_names.specs.declared.choices.Choice.{Choice}
use Rattle.line_tape.specs.History.{Process}
use Rattle.line_check.specs.declared.answers.Replay.{Replay}
use Rattle.line_check.specs.Answers.{replay_of_ref, still_due}
use Rattle.line_check.specs.Matches.{Leaves}
use Rattle.line_check.proofs.CursorLemmas.{drop_shown}
use Rattle.line_check.proofs.replays.find_replays.Goals as goal

pub due-preserved-then-is_at : goal.due-preserved-then-is_at
due-preserved-then-is_at c =
    let history : List Process = c.args.history.now.processes in
    let line : List Choice = c.args.line.now in
    let replays : List Replay = c.args.replays.now in
    let due : Replay = replay_of_ref c.in-Some.due in
    let left : still_due history line c.due.cursor
    ≡ due ∷ still_due history line c.next_due.new.cursor = c.in-Some.ensures.left in
    let one : length (still_due history line c.due.cursor)
    ≡ suc (length (still_due history line c.next_due.new.cursor)) = ap length left in
    let here : slice_get replays c.due.found ≡ Some due = c.is_at.ensures.0 c.if-is_at.true in
    record {
      number = c.in-Some.ensures.number;
      counted = c.in-Some.ensures.counted;
      within = omega (arith, slice_get_within replays c.due.found due here);
      among = omega (arith, c.due.invariant.among, one);
      whole = (
        λ h. omega (arith, c.due.invariant.whole.0 h, one),
        λ e. c.due.invariant.whole.1
            (omega (arith, e, one)),
      );
      leaves = λ rest h. c.due.invariant.leaves rest
          (subst (λ (xs : List Replay). Leaves xs (drop c.due.found replays) rest) (sym left)
          (inl (drop (c.due.found + 1) replays, drop_shown replays c.due.found due here, h)));
    }

pub due-preserved : goal.due-preserved
due-preserved c =
    let history : List Process = c.args.history.now.processes in
    let line : List Choice = c.args.line.now in
    let replays : List Replay = c.args.replays.now in
    let due : Replay = replay_of_ref c.in-Some.due in
    let left : still_due history line c.due.cursor
    ≡ due ∷ still_due history line c.next_due.new.cursor = c.in-Some.ensures.left in
    let one : length (still_due history line c.due.cursor)
    ≡ suc (length (still_due history line c.next_due.new.cursor)) = ap length left in
    let other : (rest : List Replay) → drop c.due.found replays ≡ due ∷ rest
    → ⊥ = λ rest e. false≢true
    (sym c.if-is_at.false ∙ c.is_at.ensures.1 (drop_next replays c.due.found due rest e).0) in
    record {
      number = c.in-Some.ensures.number;
      counted = c.in-Some.ensures.counted;
      within = c.due.invariant.within;
      among = omega (arith, c.due.invariant.among, one);
      whole =
          (λ h. absurd (false≢true h), λ e. absurd (omega (arith, e, one, c.due.invariant.among)));
      leaves = λ rest h. c.due.invariant.leaves rest (subst (λ (xs : List Replay). Leaves xs
          (drop c.due.found replays) rest) (sym left) (inr (other, h)));
    }
