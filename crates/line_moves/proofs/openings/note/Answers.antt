-- The other rounds on the tapes are completed still.
use Rattle.std.proofs.Common.{List, refl, sym, subst}
use Rattle.std.proofs.lemmas.Result.{on_ok_weaker}
use Rattle.line_tape.specs.declared.events.Event.{Event}
use Rattle.line_tape.specs.declared.events.Event.TheVariants.{Recv}
use Rattle.line_tape.specs.History.{Process, with_event}
use Rattle.line_tape.specs.declared.modes.Mode.TheVariants.{Fifo}
use Rattle.line_moves.specs.Openings.{IsOnlyOpen, IsRunning}
use Rattle.line_moves.proofs.OpeningLemmas.{IsOpening-none, IsRunning-kept}
use Rattle.line_moves.proofs.openings.note.Goals as goal

pub returns-in-Some-clause-ok : goal.returns-in-Some-clause-ok
returns-in-Some-clause-ok c =
    let history : List Process = c.args.history.now.processes in
    let e : Event = Recv c.args.message.now in
    let opening : IsRunning Fifo history c.in-Some.running = subst
    (IsOnlyOpen Fifo history) c.in-Some.is c.requires.opening in
    on_ok_weaker c.note.result
    (λ recording. IsRunning-kept history c.args.to e c.requires.to (λ r. refl) Fifo
    c.in-Some.running c.note.new.self c.note.ensures.number opening recording) c.note.ensures.ok

pub returns-in-None-clause-ok : goal.returns-in-None-clause-ok
returns-in-None-clause-ok c =
    let history : List Process = c.args.history.now.processes in
    let e : Event = Recv c.args.message.now in
    subst (IsOnlyOpen Fifo (with_event history c.args.to e)) (sym c.in-None.is)
    (IsOpening-none history c.args.to e c.requires.to Fifo (λ r. refl)
    (subst (IsOnlyOpen Fifo history) c.in-None.is c.requires.opening))
