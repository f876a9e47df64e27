use Rattle.std.proofs.Common.{◌∙◌, ◌++◌, ◌∷◌, [], ◌<◌, ap, sym, subst}
use Rattle.line_rounds.specs.Recording.{latest}
use Rattle.line_tape.specs.declared.events.Event.{Event}
use Rattle.line_posts.specs.Journals.{JournalView}
use Rattle.line_posts.proofs.JournalLemmas.{journal_next, on_ok_at, unchecked, begun_by}
use Rattle.line_posts.proofs.journals.Journal.begin.Goals as goal

pub invariant_of-self : goal.invariant_of-self
invariant_of-self c =
    let t = c.self.inside.tape.events in
    let v = c.self.view_is in
    let new = subst (λ (j : JournalView). latest j.floor j.rounds < c.args.round)
    (sym v) c.requires.new in
    let pushed = c.append.ensures.events in
    let begun = on_ok_at c.begin.result c.unwrap.result _ c.unwrap.ensures c.begin.ensures.ok in
    journal_next c.self.inside.marker c.begin.new.self _ t _ _ c.self.invariant
    (unchecked _ _ t _ _ c.self.invariant.1 new)
    c.begin.ensures.same (pushed ∙ ap (λ (e : Event). t ++ e ∷ []) c.round_event-event.ensures)
    (begun_by _ _ _ _ c.args.state c.args.round new begun)
