-- The parts of the text are written one after the other.
use Rattle.std.proofs.Common.{refl, ap, ◌∙◌}
use Rattle.line_devices.proofs.OutputLemmas.{outputs_front, outputs_on}
use Rattle.line_world.specs.Machine.{Machine}
use Rattle.line_text.proofs.SaveLemmas.{saved_text_of}
use Rattle.line_text.proofs.saves.put_saved.Goals as goal

pub returns-in_err-put_saved_front : goal.returns-in_err-put_saved_front
returns-in_err-put_saved_front g c =
    outputs_front _ _ _ _ _ _ _
    (saved_text_of c.args.live.now _ _ _ _ _ _
    (c.history.ensures.value ∙ ap (λ (m : Machine). m.history) c.kept-world.ensures)
    (c.marks.ensures ∙ ap (λ (m : Machine). m.marks) c.kept-world.ensures)
    c.floor_lent-floor.ensures.checks
    c.floor_lent-floor.ensures.sends refl refl)
    c.in_err-put_saved_front.ensures c.from_residual.ensures.1

pub returns : goal.returns
returns g c =
    outputs_on _ _ _ _
    (saved_text_of c.args.live.now _ _ _ _ _ _
    (c.history.ensures.value ∙ ap (λ (m : Machine). m.history) c.kept-world.ensures)
    (c.marks.ensures ∙ ap (λ (m : Machine). m.marks) c.kept-world.ensures)
    c.floor_lent-floor.ensures.checks
    c.floor_lent-floor.ensures.sends
    (c.rounds.ensures.value ∙ ap (λ (m : Machine). m.rounds) c.kept-world.ensures)
    (c.last_round.ensures.value ∙ ap (λ (m : Machine). m.last_round) c.kept-world.ensures))
    c.in_ok-put_saved_front.ensures c.put_saved_rest.ensures
