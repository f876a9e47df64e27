-- The channel is what the sender sent among what is in the receiver's inbox.
use Rattle.std.proofs.Common.{◌∙◌, List, ap}
use Rattle.line_rounds.specs.Inboxes.{held_for, messages_from, InboxView}
use Rattle.line_rounds.proofs.InboxLemmas.{between_held}
use Rattle.line_rounds.proofs.channels.Channels.between.Goals as goal

pub returns : goal.returns
returns c =
    c.held_at.ensures
    ∙ ap (λ (inboxes : List InboxView). messages_from c.args.from (held_for inboxes c.args.to))
    c.deref.ensures.value
    ∙ between_held c.self.inside.n c.self.inside.inboxes.items c.args.self.now c.args.from c.args.to
    c.self.view_is c.requires.from c.requires.to
