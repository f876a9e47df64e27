-- What each process that is passed sent and received is the same before both checks.
use Rattle.std.proofs.Common.{◌≡◌, ℕ, List, get_or, sym, ap, ◌∙◌, subst, arith, inl, inr}
use Rattle.std.proofs.lemmas.Bool.{cases_lt}
use Rattle.line_names.specs.declared.choices.Choice.TheVariants.{Check as AtCheck}
use Rattle.line_names.specs.Lines.{choice_at}
use Rattle.line_tape.specs.declared.events.Event.{Event}
use Rattle.line_tape.specs.Front.{HasChoice}
use Rattle.line_tape.specs.History.{Process, tape_at}
use Rattle.line_tape.specs.Rounds.{check_line}
use Rattle.line_laws.proofs.KeptLemmas.{choice_of_checks}
use Rattle.line_moves.proofs.StillLemmas.{still_as, still_transit, IsStill}
use Rattle.line_moves.proofs.leanings.is_still_between.Goals as goal

pub are_checks_between-requires-clause-check : goal.are_checks_between-requires-clause-check
are_checks_between-requires-clause-check c =
    let history : List Process = c.args.history.now.processes in
    let indices : List ℕ = c.args.earlier.now.checks in
    let p : ℕ = c.unwrap-p.result in
    subst (λ (t : List Event). HasChoice t (AtCheck c.check-before.result))
    (sym c.tape.ensures.events)
    (subst (λ (k : ℕ). HasChoice (tape_at history p) (AtCheck k)) (sym c.check-before.ensures)
    (subst (HasChoice (tape_at history p)) (choice_of_checks indices p)
    (c.requires.earlier.line.exist p)))

pub are_checks_between-requires-clause-choice : goal.are_checks_between-requires-clause-choice
are_checks_between-requires-clause-choice c =
    let history : List Process = c.args.history.now.processes in
    let indices : List ℕ = c.args.later.now.checks in
    let p : ℕ = c.unwrap-p.result in
    subst (λ (t : List Event). HasChoice t (AtCheck c.check-after.result))
    (sym c.tape.ensures.events)
    (subst (λ (k : ℕ). HasChoice (tape_at history p) (AtCheck k)) (sym c.check-after.ensures)
    (subst (HasChoice (tape_at history p)) (choice_of_checks indices p)
    (c.requires.later.line.exist p)))

pub each-preserved : goal.each-preserved
each-preserved c = λ v within.
    let history : List Process = c.args.history.now.processes in
    let indices : List ℕ = c.args.earlier.now.checks in
    let others : List ℕ = c.args.later.now.checks in
    let q : ℕ = c.each.q in
    let at : c.unwrap-p.result ≡ q = (rw c.unwrap-p.ensures at c.try_new.ensures).1 in
    elim (cases_lt v q) [
      | inl below ↦ c.each.invariant v below
      | inr past ↦
          let same : c.unwrap-p.result ≡ v = at ∙ omega (arith, within, past) in
          let base : IsStill c.tape.result.now.events (AtCheck c.check-before.result)
          (AtCheck c.check-after.result) =
          record {
            sent = c.are_checks_between.ensures.sent c.if-not-are_checks_between.false;
            received =
                c.are_checks_between.ensures.received c.if-not-are_checks_between.false;
          } in
          still_as c.tape.result.now.events (tape_at history v) (AtCheck c.check-before.result)
          (choice_at (check_line indices) v) (AtCheck c.check-after.result)
          (choice_at (check_line others) v)
          (c.tape.ensures.events ∙ ap (tape_at history) same)
          (ap (λ k. AtCheck k) (c.check-before.ensures ∙ ap (λ k. get_or indices k 0) same) ∙ sym
          (choice_of_checks indices v))
          (ap (λ k. AtCheck k) (c.check-after.ensures ∙ ap (λ k. get_or others k 0) same) ∙ sym
          (choice_of_checks others v))
          base
    ]

pub returns : goal.returns
returns c = λ t.
    still_transit c.args.history.now.processes (check_line c.args.earlier.now.checks)
    (check_line c.args.later.now.checks)
    (λ q within. c.each.invariant q (omega (arith, within, c.each-test.false, c.n-n.ensures.value)))
