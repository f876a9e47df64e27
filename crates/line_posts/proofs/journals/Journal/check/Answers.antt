use Rattle.std.proofs.Common.{refl}
use Rattle.line_posts.proofs.JournalLemmas.{journal_next}
use Rattle.line_posts.proofs.journals.Journal.check.Goals as goal

pub invariant_of-self : goal.invariant_of-self
invariant_of-self c =
    let t = c.self.inside.tape.events in
    let m = c.self.inside.marker in
    journal_next m m _ t _ _ c.self.invariant tt
    (record { n_is = refl; me_is = refl; floor_is = refl }) c.append.ensures.events refl
