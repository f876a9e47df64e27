use Rattle.std.proofs.Common.{◌∙◌, ◌<◌, sym, ap, subst}
use Rattle.line_rounds.specs.Recording.{latest}
use Rattle.line_tape.specs.Rounds.{has_check_of}
use Rattle.line_posts.specs.Journals.{JournalView}
use Rattle.line_posts.proofs.JournalLemmas.{unchecked}
use Rattle.line_posts.proofs.ScanLemmas.{told_checked}
use Rattle.line_posts.proofs.journals.Journal.is_checked.Goals as goal

pub returns-then-round-latest : goal.returns-then-round-latest
returns-then-round-latest c =
    let m = c.self.inside.marker in
    let lt = subst (λ f. latest f m.rounds < c.args.round) c.self.invariant.0
    (subst (λ v. v < c.args.round) c.latest.ensures c.if-round-latest.true) in
    sym (unchecked m.n c.self.inside.floor c.self.inside.tape.events m.rounds c.args.round
    c.self.invariant.1 lt) ∙ ap
    (λ (j : JournalView). has_check_of c.args.round j.tape) c.self.view_is

pub returns-then-is_some : goal.returns-then-is_some
returns-then-is_some c =
    let m = c.self.inside.marker in
    sym (told_checked c.channel.result _ m.n c.self.inside.floor c.self.inside.tape.events m.rounds
    c.args.from c.args.round c.self.invariant.1
    (sym c.is_some.ensures ∙ c.if-is_some.true) c.channel.ensures)
    ∙ ap (λ (j : JournalView). has_check_of c.args.round j.tape) c.self.view_is
