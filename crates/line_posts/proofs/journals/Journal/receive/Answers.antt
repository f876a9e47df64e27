use Rattle.std.proofs.Common.{◌≢◌, ◌<◌, sym, subst}
use Rattle.line_tape.specs.declared.events.Event.TheVariants.{Recv}
use Rattle.line_posts.specs.Journals.{JournalView}
use Rattle.line_posts.proofs.JournalLemmas.{journal_next}
use Rattle.line_posts.proofs.journals.Journal.receive.Goals as goal

pub invariant_of-self-2 : goal.invariant_of-self-2
invariant_of-self-2 c =
    let t = c.self.inside.tape.events in
    let v = c.self.view_is in
    let within = subst (λ (j : JournalView). c.args.message.from < j.n)
    (sym v) c.requires.process in
    let other = subst (λ (j : JournalView). c.args.message.from ≢ j.me) (sym v) c.requires.other in
    let pushed = c.append_receipt.ensures.events in
    let same = c.reserve_on.ensures.same in
    journal_next c.self.inside.marker c.note.new.self _ t _ (Recv c.args.message) c.self.invariant
    (within, other)
    c.note.ensures.same (cc (pushed, same)) c.in_ok-note.ensures.ok
