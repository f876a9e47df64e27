-- The other rounds on the tapes are completed still.
use Rattle.std.proofs.Common.{◌≡◌, ◌≢◌, ℕ, List, refl, sym, ◌∙◌, subst}
use Rattle.line_tape.specs.declared.events.Event.{Event}
use Rattle.line_tape.specs.declared.events.Event.TheVariants.{Mark}
use Rattle.line_tape.specs.History.{Process, with_event}
use Rattle.line_tape.specs.declared.modes.Mode.TheVariants.{Fifo}
use Rattle.line_moves.specs.Openings.{OpenView, IsOnlyOpen, IsRecording, IsRunning}
use Rattle.line_moves.proofs.OpeningLemmas.{IsOpening-none, IsRecording-kept, IsRunning-kept}
use Rattle.line_moves.proofs.OpeningLemmas.{mark_apart}
use Rattle.line_moves.proofs.openings.hear.Goals as goal

pub returns-then-number-round-clause-opening : goal.returns-then-number-round-clause-opening
returns-then-number-round-clause-opening c =
    let history : List Process = c.args.history.now.processes in
    let opening : IsRunning Fifo history c.in-Some.running = subst
    (IsOnlyOpen Fifo history) c.in-Some.is c.requires.opening in
    let same : c.in-Some.running.number
    ≡ c.args.round = sym c.number.ensures ∙ c.if-number-round.true in
    let recording : IsRecording
    (with_event history c.args.to (Mark c.args.from c.args.round)) c.hear.new.self =
    subst (λ (v : ℕ). IsRecording (with_event history c.args.to (Mark c.args.from v))
    c.hear.new.self) same c.hear.ensures.recording in
    IsRunning-kept history c.args.to (Mark c.args.from c.args.round) c.requires.to
    (λ r. refl) Fifo c.in-Some.running c.hear.new.self c.hear.ensures.number opening recording

pub returns-else-number-round-clause-opening : goal.returns-else-number-round-clause-opening
returns-else-number-round-clause-opening c =
    let history : List Process = c.args.history.now.processes in
    let e : Event = Mark c.args.from c.args.round in
    let round : OpenView = c.in-Some.running in
    let opening : IsRunning Fifo history round = subst
    (IsOnlyOpen Fifo history) c.in-Some.is c.requires.opening in
    let apart : c.args.round ≢ round.number = λ same. c.if-number-round.false
    (c.number.ensures ∙ sym same) in
    IsRunning-kept history c.args.to e c.requires.to (λ r. refl) Fifo round round refl opening
    (IsRecording-kept history c.args.to e c.requires.to (λ r p. refl) round refl
    (λ p. mark_apart p c.args.from round.number c.args.round apart) opening.recording)

pub returns-in-None-clause-opening : goal.returns-in-None-clause-opening
returns-in-None-clause-opening c =
    let history : List Process = c.args.history.now.processes in
    let e : Event = Mark c.args.from c.args.round in
    subst (IsOnlyOpen Fifo (with_event history c.args.to e)) (sym c.in-None.is)
    (IsOpening-none history c.args.to e c.requires.to Fifo (λ r. refl)
    (subst (IsOnlyOpen Fifo history) c.in-None.is c.requires.opening))
