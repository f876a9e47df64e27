use Rattle.line_posts.proofs.JournalLemmas.{nothing_recorded}
use Rattle.line_posts.proofs.journals.Journal.new.Goals as goal

pub invariant_of-result : goal.invariant_of-result
invariant_of-result c = nothing_recorded _ c.args.floor _ _ _ c.in_ok-marker.ensures.floor
    c.requires.bare c.in_ok-marker.ensures.rounds
