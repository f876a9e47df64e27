-- The entry is right, its process has a lower choice afterwards, and those who heard of what it no
-- longer sent are to be visited.
use Rattle.std.proofs.Common.{◌≡◌, ◌<◌, ◌++◌, ◌∷◌, [], ℕ, List, Bool, length, set, sym, ap, ◌∙◌}
use Rattle.std.proofs.Common.{subst, arith}
use Rattle.std.proofs.lemmas.List.{get_or-set_same}
use Rattle.line_names.specs.declared.certificates.Passed.{Passed}
use Rattle.line_names.specs.declared.choices.Choice.{Choice}
use Rattle.line_names.specs.declared.choices.Choice.TheVariants.{Check as AtCheck}
use Rattle.line_names.specs.Lines.{choice_at}
use Rattle.line_names.specs.Order.{IsNoLater}
use Rattle.line_tape.specs.declared.events.Event.{Event}
use Rattle.line_tape.specs.Chain.{first_ceilings, next_lower, lowered_ceilings, IsLed}
use Rattle.line_tape.specs.Event.{sends}
use Rattle.line_tape.specs.Front.{front}
use Rattle.line_tape.specs.History.{Process, tape_at}
use Rattle.line_tape.specs.Line.{IsLine}
use Rattle.line_tape.specs.Views.{MarksView}
use Rattle.line_tape.specs.Height.{height}
use Rattle.line_tape.proofs.ChoiceLemmas.{next_lower-le}
use Rattle.line_laws.proofs.LedLemmas.{LeadsTo-push, height-lowered, IsLine-led}
use Rattle.line_vectors.specs.Reach.{sents_of}
use Rattle.line_vectors.proofs.ReachLemmas.{length-sents}
use Rattle.line_plan.proofs.SearchLemmas.{sents-set}
use Rattle.line_plan.proofs.planner.pass_over.Goals as goal

pub set-requires-2 : goal.set-requires-2
set-requires-2 c =
    omega (
      arith,
      c.requires.process,
      ap (λ (xs : List ℕ). length xs) c.requires.sent,
      length-sents
          c.args.catalogue.now.processes c.args.line.now,
    )

pub returns-clause-led : goal.returns-clause-led
returns-clause-led c =
    let history : List Process = c.args.catalogue.now.processes in
    let marks : MarksView = c.args.catalogue.now.marks in
    let failed : List Bool = c.args.failed.now in
    let line : List Choice = c.args.line.now in
    let lower : c.unwrap-next.result
    ≡ next_lower history marks failed c.args.orphan.at (choice_at line c.args.orphan.at) =
    (rw c.unwrap-next.ensures at c.next_lower.ensures.value).1 ∙ ap
    (next_lower history marks failed c.args.orphan.at) c.at-choice.ensures in
    let after : c.set.new.self ≡ lowered_ceilings history marks failed line c.args.orphan.at =
    c.set.ensures ∙ ap (set line c.args.orphan.at) lower in
    let entries : List Passed = c.args.certificate.now.items in
    let entry : Passed = record
    { at = c.args.orphan.at; choice = c.at-choice.result; message = c.args.orphan.message } in
    let top : c.at-choice.result ≡ choice_at line c.args.orphan.at = cc in
    let led : IsLed history marks failed (entries ++ entry ∷ [])
    (lowered_ceilings history marks failed line c.args.orphan.at) = LeadsTo-push history marks
    failed (first_ceilings history marks failed) entries line entry c.requires.led
    (record { top = top; orphan = c.requires.orphan }) in
    let items : c.push.new.self.items ≡ entries ++ entry ∷ [] = c.in_ok-push.ensures.items in
    subst (λ (es : List Passed). IsLed history marks failed es c.set.new.self) (sym items)
    (subst (IsLed history marks failed (entries ++ entry ∷ [])) (sym after) led)

pub returns-clause-lower : goal.returns-clause-lower
returns-clause-lower c =
    let history : List Process = c.args.catalogue.now.processes in
    let marks : MarksView = c.args.catalogue.now.marks in
    let failed : List Bool = c.args.failed.now in
    let line : List Choice = c.args.line.now in
    let lower : c.unwrap-next.result
    ≡ next_lower history marks failed c.args.orphan.at (choice_at line c.args.orphan.at) =
    (rw c.unwrap-next.ensures at c.next_lower.ensures.value).1 ∙ ap
    (next_lower history marks failed c.args.orphan.at) c.at-choice.ensures in
    let after : c.set.new.self ≡ lowered_ceilings history marks failed line c.args.orphan.at =
    c.set.ensures ∙ ap (set line c.args.orphan.at) lower in
    let is_line : IsLine history line = IsLine-led history marks failed c.args.certificate.now.items
    line c.requires.led in
    subst (λ (xs : List Choice). height history xs < height history line) (sym after)
    (height-lowered history marks failed line c.args.orphan.at c.args.orphan.message
    c.requires.process is_line.length_is c.requires.orphan)

pub returns-clause-sent : goal.returns-clause-sent
returns-clause-sent c =
    let history : List Process = c.args.catalogue.now.processes in
    let line : List Choice = c.args.line.now in
    let at : ℕ = c.args.orphan.at in
    let next : Choice = c.unwrap-next.result in
    let is_line : IsLine history line = IsLine-led history c.args.catalogue.now.marks
    c.args.failed.now c.args.certificate.now.items line c.requires.led in
    let tape : c.tape.result.now.events ≡ tape_at history at = c.tape.ensures.events ∙ ap
    (λ (h : List Process). tape_at h at) c.history.ensures.processes in
    let count : c.sends_before-count.result ≡ sends (front (tape_at history at) next) =
    c.sends_before-count.ensures ∙ ap (λ (t : List Event). sends (front t next)) tape in
    c.set-2.ensures ∙ ap
    (λ (xs : List ℕ). set xs at c.sends_before-count.result) c.requires.sent ∙ ap
    (set (sents_of history line) at) count ∙ sym (sents-set history line at next
    is_line.length_is c.requires.process) ∙ ap (sents_of history) (sym c.set.ensures)

pub returns-clause-earlier : goal.returns-clause-earlier
returns-clause-earlier c =
    let history : List Process = c.args.catalogue.now.processes in
    let marks : MarksView = c.args.catalogue.now.marks in
    let failed : List Bool = c.args.failed.now in
    let line : List Choice = c.args.line.now in
    let at : ℕ = c.args.orphan.at in
    let lower : c.unwrap-next.result
    ≡ next_lower history marks failed at (choice_at line at) =
    (rw c.unwrap-next.ensures at c.next_lower.ensures.value).1 ∙ ap
    (next_lower history marks failed at) c.at-choice.ensures in
    let is_line : IsLine history line = IsLine-led history marks failed c.args.certificate.now.items
    line c.requires.led in
    let there : choice_at c.set.new.self at
    ≡ next_lower history marks failed at (choice_at line at) =
    ap (λ (xs : List Choice). choice_at xs at) c.set.ensures ∙ get_or-set_same line at
    c.unwrap-next.result (AtCheck 0)
    (omega (arith, c.requires.process, is_line.length_is)) ∙ lower
    in
    subst (λ (choice : Choice). IsNoLater choice (choice_at line at)) (sym there)
    (next_lower-le history marks failed at (choice_at line at))
