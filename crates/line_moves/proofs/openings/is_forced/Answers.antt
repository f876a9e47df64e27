-- A round that is not kept as open is completed, so that the process has its check.
use Rattle.std.proofs.Common.{◌≡◌, ◌≢◌, ℕ, true, List, length, sym, ap, ◌∙◌, subst, arith}
use Rattle.std.specs.Prelude.{not}
use Rattle.std.proofs.lemmas.Bool.{ne_eqb}
use Rattle.line_tape.specs.History.{Process, tape_at}
use Rattle.line_tape.specs.Rounds.{has_check_of}
use Rattle.line_laws.proofs.RoundLines.{checked_has, completed_checked}
use Rattle.line_tape.specs.declared.modes.Mode.TheVariants.{Fifo}
use Rattle.line_moves.specs.Openings.{OpenView, IsOnlyOpen, IsRecording, IsRunning}
use Rattle.line_moves.proofs.openings.is_forced.Goals as goal

pub has_check-requires : goal.has_check-requires
has_check-requires c =
    let opening : IsRunning Fifo c.args.history.now.processes c.in-Some.running = subst
    (IsOnlyOpen Fifo c.args.history.now.processes) c.in-Some.is c.requires.opening in
    omega (
      arith,
      c.requires.to,
      opening.recording.turning.count,
      ap
          (λ (v : OpenView). length v.checks) c.running.view_is,
    )

pub returns-then-number-round : goal.returns-then-number-round
returns-then-number-round c =
    let history : List Process = c.args.history.now.processes in
    let opening : IsRunning Fifo history c.in-Some.running = subst
    (IsOnlyOpen Fifo history) c.in-Some.is c.requires.opening in
    let follows : IsRecording history
    (record {
      number = c.running.inside.turning.number;
      checks =
          c.running.inside.turning.checks;
      markers = c.running.inside.markers.items;
    }) = subst
    (IsRecording history) (sym c.running.view_is) opening.recording in
    ap not (c.has_check.ensures history follows.turning
    ∙ ap (λ (r : ℕ). has_check_of r (tape_at history c.args.to)) (ap (λ (v : OpenView). v.number)
    c.running.view_is ∙ sym c.number.ensures ∙ c.if-number-round.true))

pub returns-else-number-round : goal.returns-else-number-round
returns-else-number-round c =
    let history : List Process = c.args.history.now.processes in
    let r : ℕ = c.args.round in
    let opening = subst (IsOnlyOpen Fifo history) c.in-Some.is c.requires.opening in
    let apart : r ≢ c.in-Some.running.number = λ same. c.if-number-round.false
    (c.number.ensures ∙ sym same) in
    let has : has_check_of r (tape_at history c.args.to)
    ≡ true = checked_has history r c.args.to (completed_checked history r
    (opening.others c.args.from r c.requires.sent apart)) c.requires.to in
    ne_eqb c.number.result r c.if-number-round.false ∙ sym (ap not has)

pub returns-in-None : goal.returns-in-None
returns-in-None c =
    let history : List Process = c.args.history.now.processes in
    let r : ℕ = c.args.round in
    let opening = subst (IsOnlyOpen Fifo history) c.in-None.is c.requires.opening in
    let has : has_check_of r (tape_at history c.args.to) ≡ true = checked_has history r c.args.to
    (completed_checked history r (opening c.args.from r c.requires.sent)) c.requires.to in
    sym (ap not has)
