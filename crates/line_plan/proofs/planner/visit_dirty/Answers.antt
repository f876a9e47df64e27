-- A process that was lowered has all those be visited who received what it then no longer sent.
use Rattle.std.proofs.Common.{◌≡◌, ◌≤◌, ℕ, List, Bool, length, set, inl, inr, sym, ap, ◌∙◌, subst}
use Rattle.std.proofs.Common.{arith}
use Rattle.std.proofs.lemmas.Bool.{cases_eq}
use Rattle.line_names.specs.declared.choices.Choice.{Choice}
use Rattle.line_names.specs.Lines.{choice_at}
use Rattle.line_tape.specs.declared.events.Event.{Event}
use Rattle.line_tape.specs.declared.limits.TheConstants.{MOST_EVENTS}
use Rattle.line_tape.specs.Event.{sends}
use Rattle.line_tape.specs.Front.{place, front, HasChoice}
use Rattle.line_tape.specs.History.{Process, tape_at}
use Rattle.line_tape.specs.Line.{events_before, AreSentBefore, IsLine}
use Rattle.line_tape.proofs.CutLemmas.{sends_take}
use Rattle.line_tape.proofs.RowLemmas.{sends_le}
use Rattle.line_laws.proofs.LedLemmas.{IsLine-led}
use Rattle.line_plan.specs.Search.{AreCleanBut, AreHearersDirty}
use Rattle.line_plan.proofs.SearchLemmas.{clean-lowered}
use Rattle.line_plan.proofs.planner.visit_dirty.Goals as goal
use Rattle.line_plan.proofs.planner.visit_dirty.Goals.{then-lowered, else-lowered}

pub sends_before-count-requires : goal.sends_before-count-requires
sends_before-count-requires c =
    let history : List Process = c.args.catalogue.now.processes in
    let is_line : IsLine history c.visit.new.line = IsLine-led history c.args.catalogue.now.marks
    c.args.failed.now c.visit.new.certificate.items c.visit.new.line c.in_ok-lowered.ensures.led
    in
    let tape : c.tape.result.now.events ≡ tape_at history c.args.at = c.tape.ensures.events ∙ ap
    (λ (h : List Process). tape_at h c.args.at) c.history.ensures.processes in
    let there : HasChoice (tape_at history c.args.at) c.at.result = subst
    (HasChoice (tape_at history c.args.at)) (sym c.at.ensures) (is_line.exist c.args.at) in
    subst (λ (t : List Event). HasChoice t c.at.result) (sym tape) there

pub mark_hearers-requires-clause-few : goal.mark_hearers-requires-clause-few
mark_hearers-requires-clause-few c =
    let tape : List Event = c.tape.result.now.events in
    let few : length tape ≤ MOST_EVENTS = subst (λ (t : List Event). length t ≤ MOST_EVENTS)
    (sym c.tape.ensures.events) c.tape.ensures.limits.tape.few in
    omega (
      arith,
      c.sends_before-count.ensures,
      sends_take tape
          (place tape c.at.result),
      sends_le tape,
      few,
    )

pub returns-clause-clean : goal.returns-clause-clean
returns-clause-clean c q within none =
    let history : List Process = c.args.catalogue.now.processes in
    let old : List Choice = c.args.line.now in
    let new : List Choice = c.visit.new.line in
    let at : ℕ = c.args.at in
    let is_line : IsLine history old = IsLine-led history c.args.catalogue.now.marks
    c.args.failed.now c.args.certificate.now.items old c.requires.led in
    let before : AreCleanBut history old c.args.visits.now.dirty at = λ k inside apart clean.
    c.requires.clean k inside clean in
    let after : AreCleanBut history new c.if-lowered.visits.dirty at = elim c.if-lowered.branch [
      | then-lowered w ↦
          let tape : w.tape.result.now.events ≡ tape_at history at = w.tape.ensures.events ∙ ap
          (λ (h : List Process). tape_at h at) w.history.ensures.processes in
          let count : w.sends_before-count.result
          ≡ sends (front (tape_at history at) (choice_at new at)) = w.sends_before-count.ensures
          ∙ ap (λ (t : List Event). sends (front t w.at.result)) tape ∙ ap
          (λ (x : Choice). sends (front (tape_at history at) x)) w.at.ensures in
          let heard : AreHearersDirty history at
          (sends (front (tape_at history at) (choice_at new at))) w.mark_hearers.new.dirty =
          subst (λ k. AreHearersDirty history at k w.mark_hearers.new.dirty) count
          w.mark_hearers.ensures.heard in
          let clean : AreCleanBut history
          (set old at (choice_at new at)) w.mark_hearers.new.dirty at = clean-lowered history
          old at (choice_at new at) is_line.length_is c.args.visits.now.dirty
          w.mark_hearers.new.dirty c.requires.process w.history.ensures.agrees
          w.mark_hearers.ensures.still heard before in
          subst (λ (d : List Bool). AreCleanBut history new d at)
          (sym (ap (λ v. v.dirty) w.visits-is)) (subst (λ (l : List Choice). AreCleanBut history
          l w.mark_hearers.new.dirty at) (sym c.in_ok-lowered.ensures.alone) clean)
      | else-lowered w ↦
          subst (λ (d : List Bool). AreCleanBut history new d at)
          (sym (ap (λ v. v.dirty) w.visits-is))
          (subst (λ (l : List Choice). AreCleanBut history l c.args.visits.now.dirty at)
          (sym (c.in_ok-lowered.ensures.moved.same_line w.if-lowered.false)) before)
    ] in
    elim (cases_eq q at) [
      | inl here ↦ subst (λ (k : ℕ). AreSentBefore history new (events_before history new k))
          (sym here) c.in_ok-lowered.ensures.none
      | inr apart ↦ after q within apart (sym (c.set.ensures.others q apart) ∙ none)
    ]
