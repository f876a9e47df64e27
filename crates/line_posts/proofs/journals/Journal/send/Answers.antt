use Rattle.std.proofs.Common.{◌∙◌, ◌++◌, ◌∷◌, [], ℕ, List, refl, ap}
use Rattle.line_tape.specs.declared.events.Event.TheVariants.{Send}
use Rattle.line_posts.proofs.JournalLemmas.{journal_next}
use Rattle.line_posts.proofs.journals.Journal.send.Goals as goal

pub invariant_of-self : goal.invariant_of-self
invariant_of-self c =
    let t = c.self.inside.tape.events in
    let m = c.self.inside.marker in
    let pushed = c.append_send.ensures.events in
    journal_next m m _ t _ _ c.self.invariant tt
    (record { n_is = refl; me_is = refl; floor_is = refl }) (pushed ∙ ap
    (λ (b : List ℕ). t ++ Send c.args.to c.args.inc b ∷ []) c.bytes.ensures.value) refl
