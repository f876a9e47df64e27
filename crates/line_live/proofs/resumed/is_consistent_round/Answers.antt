-- The line of the checks is one, and is consistent where the round is.
use Rattle.std.proofs.Common.{◌≡◌, ◌↔◌, IsTrue, Bool, List, sym, ap, ◌∙◌, subst}
use Rattle.std.proofs.lemmas.Result.{IfOk-weaker}
use Rattle.line_names.specs.declared.choices.Choice.{Choice}
use Rattle.line_tape.specs.History.{Process}
use Rattle.line_tape.specs.Line.{IsConsistent}
use Rattle.line_live.specs.Resumed.{AreChecks, CheckedRound, IsConsistentRound}
use Rattle.line_live.proofs.ResumedLemmas.{told_round}
use Rattle.line_live.proofs.resumed.is_consistent_round.Goals as goal

pub returns : goal.returns
returns c =
    let history : List Process = c.args.catalogue.now.processes in
    let round : CheckedRound = c.args.round.now in
    let line : List Choice = c.line_of_checks-line.result in
    let same : c.deref.result.now
    ≡ c.deref-2.result.now = c.deref.ensures.value ∙ sym c.deref-2.ensures.value in
    IfOk-weaker c.is_consistent_at.result (λ (b : Bool). IsTrue b ↔ IsConsistent history line)
    (λ (b : Bool). IsTrue b ↔ IsConsistentRound history round)
    (λ b both. told_round history c.history.result.now.processes round line c.deref-2.result.now
    c.history.ensures.processes c.line_of_checks-line.ensures
    (c.deref-2.ensures.value ∙ ap (λ (r : CheckedRound). r.checks) c.round.view_is)
    (subst AreChecks same (c.are_checks.ensures.0 c.if-not-are_checks.false))
    (c.is_line.ensures.0 c.if-not-is_line.false) b both)
    c.is_consistent_at.ensures
