-- Each check that is passed survives, whoever failed.
use Rattle.std.proofs.Common.{◌≡◌, ℕ, Bool, [], List, true, length, sym, ap, ◌∙◌, arith}
use Rattle.std.proofs.lemmas.Bool.{both_ways, false_from_ne_true}
use Rattle.line_names.specs.declared.choices.Choice.TheVariants.{Check as AtCheck}
use Rattle.line_tape.specs.History.{Process}
use Rattle.line_tape.specs.Survival.{survives}
use Rattle.line_tape.specs.Views.{MarksView}
use Rattle.line_laws.proofs.CompletionLemmas.{all_range}
use Rattle.line_laws.proofs.RoundLines.{in_range}
use Rattle.line_moves.specs.Listed.{ListedRound, check_in}
use Rattle.line_world.specs.Machine.{Machine}
use Rattle.line_live.specs.Forgets.{is_safe}
use Rattle.line_live.proofs.ForgetLemmas.{whoever}
use Rattle.line_live.proofs.forgets.is_safe.Goals as goal

pub returns-then-not-survives : goal.returns-then-not-survives
returns-then-not-survives c =
    let machine : Machine = c.args.world.now in
    let round : ListedRound = c.args.round.now in
    let q : ℕ = c.each.q in
    let p : ℕ = c.unwrap-p.result in
    let at : p ≡ q = (rw c.unwrap-p.ensures at c.try_new.ensures).1 in
    let size : length c.catalogue-catalogue.result.now.processes ≡ length machine.history = ap
    (λ (h : List Process). length h) c.catalogue-catalogue.ensures.processes in
    let f : ℕ → Bool = λ (v : ℕ). survives machine.history machine.marks [] v
    (AtCheck (check_in round v)) in
    sym (false_from_ne_true (is_safe machine round) (λ t.
    let here : f q ≡ true = in_range f 0 (length machine.history) q t (omega arith)
    (omega (arith, c.each-test.true, c.n-n.ensures.value, size)) in
    both_ways c.survives.result c.if-not-survives.true (
    c.survives.ensures
    ∙ ap (λ (h : List Process). survives h c.catalogue-catalogue.result.now.marks
    c.empty-nobody.result p (AtCheck c.check.result)) c.catalogue-catalogue.ensures.processes
    ∙ ap (λ (m : MarksView). survives machine.history m c.empty-nobody.result p
    (AtCheck c.check.result)) c.catalogue-catalogue.ensures.marks
    ∙ whoever machine.history machine.marks c.empty-nobody.result p c.check.result
    ∙ ap (λ (k : ℕ). survives machine.history machine.marks [] p (AtCheck k)) c.check.ensures
    ∙ ap f at ∙ here)))

pub returns : goal.returns
returns c =
    let machine : Machine = c.args.world.now in
    let round : ListedRound = c.args.round.now in
    let size : length c.catalogue-catalogue.result.now.processes ≡ length machine.history = ap
    (λ (h : List Process). length h) c.catalogue-catalogue.ensures.processes in
    sym (all_range (λ (v : ℕ). survives machine.history machine.marks [] v
    (AtCheck (check_in round v))) 0 (length machine.history)
    (λ v low high. c.each.invariant v
    (omega (arith, high, c.each-test.false, c.n-n.ensures.value, size))))
