use Rattle.std.proofs.Common.{◌≡◌, ◌≢◌, ◌∙◌, ◌++◌, ◌∷◌, [], ◌<◌, false, Some, ap, sym, subst}
use Rattle.line_rounds.specs.Recording.{with_marker}
use Rattle.line_tape.specs.Rounds.{has_check_of}
use Rattle.line_tape.specs.declared.events.Event.TheVariants.{Check, Mark}
use Rattle.line_posts.specs.Journals.{JournalView, rounds_by}
use Rattle.line_posts.proofs.JournalLemmas.{journal_forced, forced_by_marker}
use Rattle.line_posts.proofs.journals.Journal.force.Goals as goal

forced : (c : goal.After-on_marker)
    → c.on_marker.new.self.rounds
    ≡ with_marker (rounds_by c.self.inside.marker.n c.self.inside.floor c.self.inside.marker.rounds
    (Check c.args.state (Some c.args.round))) c.args.from c.args.round
forced c =
    let t = c.self.inside.tape.events in
    let v = c.self.view_is in
    let within = subst (λ (j : JournalView). c.args.from < j.n) (sym v) c.requires.process in
    let unchecked = subst (λ (j : JournalView). has_check_of c.args.round j.tape ≡ false)
    (sym v) c.requires.unchecked in
    let ready = subst (λ (j : JournalView). 0 < j.ready) (sym v) c.requires.ready in
    let e = c.on_marker.ensures in
    forced_by_marker c.self.inside.marker c.on_marker.new.self _ t c.args.from c.args.round
    c.args.state c.on_marker.result c.self.invariant within unchecked
    (e.room ready) e.repeated e.ok e.rounds e.err

pub invariant_of-self : goal.invariant_of-self
invariant_of-self c =
    let t = c.self.inside.tape.events in
    let v = c.self.view_is in
    let within = subst (λ (j : JournalView). c.args.from < j.n) (sym v) c.requires.process in
    let other = subst (λ (j : JournalView). c.args.from ≢ j.me) (sym v) c.requires.other in
    let unchecked = subst (λ (j : JournalView). has_check_of c.args.round j.tape ≡ false)
    (sym v) c.requires.unchecked in
    let first = c.append.ensures.events in
    let second = c.append_mark.ensures.events in
    let check = c.round_event-check.ensures in
    let both : c.append_mark.new.self.events ≡ (t ++ Check c.args.state (Some c.args.round) ∷ [])
    ++ Mark c.args.from c.args.round ∷ [] = cc (first, second, check) in
    journal_forced c.self.inside.marker c.on_marker.new.self _ t _ c.args.from c.args.round
    c.args.state c.self.invariant within other unchecked c.on_marker.ensures.same both
    (forced c)

pub returns-clause-rounds : goal.returns-clause-rounds
returns-clause-rounds c = forced c ∙ ap (λ (j : JournalView). with_marker (rounds_by j.n j.floor
    j.rounds (Check c.args.state (Some c.args.round))) c.args.from c.args.round) c.self.view_is
