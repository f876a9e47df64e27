-- One event more is passed.
use Rattle.std.proofs.Common.{◌≡◌, ℕ, ◌+◌, ◌∷◌, List, true, false, Some, refl, sym, ap, ◌∙◌, subst}
use Rattle.std.specs.Prelude.{not}
use Rattle.line_names.specs.declared.choices.Choice.{Choice}
use Rattle.line_tape.specs.declared.events.EventRef.{EventRef}
use Rattle.line_tape.specs.History.{Process}
use Rattle.line_tape.specs.Shown.{event_of_ref}
use Rattle.line_check.specs.declared.answers.Replay.{Replay}
use Rattle.line_check.specs.Answers.{is_unreceived}
use Rattle.line_check.proofs.CursorLemmas.{has_flag, left_at, sent_there, sends-more, sends-skip}
use Rattle.line_check.proofs.CursorLemmas.{skip-left, send-left, with_both, with_one}
use Rattle.line_check.proofs.cursors.take_event.Goals as goal

pub returns-in-Recv-clause-left : goal.returns-in-Recv-clause-left
returns-in-Recv-clause-left c =
    let history : List Process = c.args.history.now.processes in
    let line : List Choice = c.args.line.now in
    subst (λ (q : ℕ). left_at history line q c.args.cursor.now.number c.args.cursor.now.place
    ≡ left_at history line q c.args.cursor.now.number (c.args.cursor.now.place + 1))
    (sym c.requires.process)
    (skip-left history line c.args.p c.args.cursor.now.number c.args.cursor.now.place
    c.args.events.now _ c.requires.events (c.at-event.ensures ∙ ap
    (λ (e : EventRef). Some (event_of_ref e)) c.in-Recv.is) (λ rest. refl))

pub returns-in-Check-clause-left : goal.returns-in-Check-clause-left
returns-in-Check-clause-left c =
    let history : List Process = c.args.history.now.processes in
    let line : List Choice = c.args.line.now in
    subst (λ (q : ℕ). left_at history line q c.args.cursor.now.number c.args.cursor.now.place
    ≡ left_at history line q c.args.cursor.now.number (c.args.cursor.now.place + 1))
    (sym c.requires.process)
    (skip-left history line c.args.p c.args.cursor.now.number c.args.cursor.now.place
    c.args.events.now _ c.requires.events (c.at-event.ensures ∙ ap
    (λ (e : EventRef). Some (event_of_ref e)) c.in-Check.is) (λ rest. refl))

pub returns-in-Mark-clause-left : goal.returns-in-Mark-clause-left
returns-in-Mark-clause-left c =
    let history : List Process = c.args.history.now.processes in
    let line : List Choice = c.args.line.now in
    subst (λ (q : ℕ). left_at history line q c.args.cursor.now.number c.args.cursor.now.place
    ≡ left_at history line q c.args.cursor.now.number (c.args.cursor.now.place + 1))
    (sym c.requires.process)
    (skip-left history line c.args.p c.args.cursor.now.number c.args.cursor.now.place
    c.args.events.now _ c.requires.events (c.at-event.ensures ∙ ap
    (λ (e : EventRef). Some (event_of_ref e)) c.in-Mark.is) (λ rest. refl))

pub returns-then-is_told-clause-left : goal.returns-then-is_told-clause-left
returns-then-is_told-clause-left c =
    let history : List Process = c.args.history.now.processes in
    let line : List Choice = c.args.line.now in
    let number : ℕ = c.args.cursor.now.number in
    let place : ℕ = c.args.cursor.now.place in
    let received : is_unreceived history line
    (sent_there history line c.args.p number place c.in-Send.to c.in-Send.inc c.in-Send.body.now)
    ≡ false =
    ap not (sym c.is_told.ensures ∙ c.if-is_told.true) in
    subst (λ (q : ℕ). left_at history line q number place
    ≡ left_at history line q (number + 1) (place + 1)) (sym c.requires.process)
    (send-left history line c.args.p number place c.args.events.now c.in-Send.to c.in-Send.inc
    c.in-Send.body.now false c.requires.events
    (c.at-event.ensures ∙ ap (λ (e : EventRef). Some (event_of_ref e)) c.in-Send.is) received)

pub returns-else-is_told-clause-left : goal.returns-else-is_told-clause-left
returns-else-is_told-clause-left c =
    let history : List Process = c.args.history.now.processes in
    let line : List Choice = c.args.line.now in
    let number : ℕ = c.args.cursor.now.number in
    let place : ℕ = c.args.cursor.now.place in
    let sent : Replay = sent_there history line c.args.p number place c.in-Send.to c.in-Send.inc
    c.in-Send.body.now in
    let unreceived : is_unreceived history line sent
    ≡ true = ap not (sym c.is_told.ensures ∙ c.if-is_told.false) in
    subst (λ (q : ℕ). left_at history line q number place
    ≡ sent ∷ left_at history line q (number + 1) (place + 1)) (sym c.requires.process)
    (send-left history line c.args.p number place c.args.events.now c.in-Send.to c.in-Send.inc
    c.in-Send.body.now true c.requires.events
    (c.at-event.ensures ∙ ap (λ (e : EventRef). Some (event_of_ref e)) c.in-Send.is) unreceived)

pub returns-in-Recv-clause-counted : goal.returns-in-Recv-clause-counted
returns-in-Recv-clause-counted c = with_one c.args.received c.requires.counted
    (λ flags so_far. so_far ∙ sym (sends-skip c.args.events.now c.args.cursor.now.place _
    (c.at-event.ensures ∙ ap (λ (e : EventRef). Some (event_of_ref e)) c.in-Recv.is) refl))

pub returns-in-Check-clause-counted : goal.returns-in-Check-clause-counted
returns-in-Check-clause-counted c = with_one c.args.received c.requires.counted
    (λ flags so_far. so_far ∙ sym (sends-skip c.args.events.now c.args.cursor.now.place _
    (c.at-event.ensures ∙ ap (λ (e : EventRef). Some (event_of_ref e)) c.in-Check.is) refl))

pub returns-in-Mark-clause-counted : goal.returns-in-Mark-clause-counted
returns-in-Mark-clause-counted c = with_one c.args.received c.requires.counted
    (λ flags so_far. so_far ∙ sym (sends-skip c.args.events.now c.args.cursor.now.place _
    (c.at-event.ensures ∙ ap (λ (e : EventRef). Some (event_of_ref e)) c.in-Mark.is) refl))

pub returns-then-is_told-clause-counted : goal.returns-then-is_told-clause-counted
returns-then-is_told-clause-counted c = with_one c.args.received c.requires.counted
    (λ flags so_far. ap (λ k. k + 1) so_far ∙ sym
    (sends-more c.args.events.now c.args.cursor.now.place c.in-Send.to c.in-Send.inc
    c.in-Send.body.now
    (c.at-event.ensures ∙ ap (λ (e : EventRef). Some (event_of_ref e)) c.in-Send.is)))

pub returns-else-is_told-clause-counted : goal.returns-else-is_told-clause-counted
returns-else-is_told-clause-counted c = with_one c.args.received c.requires.counted
    (λ flags so_far. ap (λ k. k + 1) so_far ∙ sym
    (sends-more c.args.events.now c.args.cursor.now.place c.in-Send.to c.in-Send.inc
    c.in-Send.body.now
    (c.at-event.ensures ∙ ap (λ (e : EventRef). Some (event_of_ref e)) c.in-Send.is)))

pub is_told-requires-clause-flag : goal.is_told-requires-clause-flag
is_told-requires-clause-flag c = with_both c.args.received c.requires.told c.requires.counted
    (λ flags told counted.
    (has_flag c.args.history.now.processes c.args.line.now flags.now c.args.p
    c.args.cursor.now.number c.args.cursor.now.place c.args.events.now c.in-Send.to
    c.in-Send.inc c.in-Send.body.now told c.requires.within c.requires.events
    (c.at-event.ensures ∙ ap (λ (e : EventRef). Some (event_of_ref e)) c.in-Send.is)
    counted).flag)

pub is_told-requires-clause-told : goal.is_told-requires-clause-told
is_told-requires-clause-told c = with_both c.args.received c.requires.told c.requires.counted
    (λ flags told counted.
    (has_flag c.args.history.now.processes c.args.line.now flags.now c.args.p
    c.args.cursor.now.number c.args.cursor.now.place c.args.events.now c.in-Send.to
    c.in-Send.inc c.in-Send.body.now told c.requires.within c.requires.events
    (c.at-event.ensures ∙ ap (λ (e : EventRef). Some (event_of_ref e)) c.in-Send.is)
    counted).told)
