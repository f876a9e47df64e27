use Rattle.std.proofs.Common.{◌∙◌, ◌<◌, sym, ap, subst}
use Rattle.line_rounds.specs.Recording.{latest}
use Rattle.line_tape.specs.Rounds.{has_check_of}
use Rattle.line_posts.specs.Journals.{JournalView}
use Rattle.line_posts.proofs.JournalLemmas.{unchecked}
use Rattle.line_posts.proofs.journals.Journal.latest.Goals as goal

pub returns-clause-later : goal.returns-clause-later
returns-clause-later c = λ r less.
    (let m = c.self.inside.marker in
    let lt = subst (λ f. latest f m.rounds < r) c.self.invariant.0
    (subst (λ v. v < r) c.latest.ensures less) in
    ap (λ (j : JournalView). has_check_of r j.tape) (sym c.self.view_is) ∙ unchecked m.n
    c.self.inside.floor c.self.inside.tape.events m.rounds r c.self.invariant.1 lt)
