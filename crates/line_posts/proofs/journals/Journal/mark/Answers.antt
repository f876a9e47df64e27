use Rattle.std.proofs.Common.{◌≡◌, ◌≢◌, ◌∙◌, ◌<◌, true, ap, sym, subst}
use Rattle.line_rounds.specs.Recording.{with_marker}
use Rattle.line_tape.specs.Rounds.{has_check_of}
use Rattle.line_posts.specs.Journals.{JournalView}
use Rattle.line_posts.proofs.JournalLemmas.{journal_next, heard_by_marker}
use Rattle.line_posts.proofs.journals.Journal.mark.Goals as goal

heard : (c : goal.After-on_marker)
    → c.on_marker.new.self.rounds ≡ with_marker c.self.inside.marker.rounds c.args.from c.args.round
heard c =
    let t = c.self.inside.tape.events in
    let v = c.self.view_is in
    let within = subst (λ (j : JournalView). c.args.from < j.n) (sym v) c.requires.process in
    let checked = subst (λ (j : JournalView). has_check_of c.args.round j.tape ≡ true)
    (sym v) c.requires.checked in
    let ready = subst (λ (j : JournalView). 0 < j.ready) (sym v) c.requires.ready in
    let e = c.on_marker.ensures in
    heard_by_marker c.self.inside.marker c.on_marker.new.self _ t c.args.from c.args.round
    c.on_marker.result c.self.invariant within checked
    (e.room ready) e.repeated e.ok e.rounds e.err

pub invariant_of-self : goal.invariant_of-self
invariant_of-self c =
    let t = c.self.inside.tape.events in
    let v = c.self.view_is in
    let within = subst (λ (j : JournalView). c.args.from < j.n) (sym v) c.requires.process in
    let other = subst (λ (j : JournalView). c.args.from ≢ j.me) (sym v) c.requires.other in
    let checked = subst (λ (j : JournalView). has_check_of c.args.round j.tape ≡ true)
    (sym v) c.requires.checked in
    let pushed = c.append_mark.ensures.events in
    journal_next c.self.inside.marker c.on_marker.new.self _ t _ _ c.self.invariant
    (within, other, checked) c.on_marker.ensures.same pushed (heard c)

pub returns-clause-rounds : goal.returns-clause-rounds
returns-clause-rounds c =
    heard c ∙ ap (λ (j : JournalView). with_marker j.rounds c.args.from c.args.round) c.self.view_is
