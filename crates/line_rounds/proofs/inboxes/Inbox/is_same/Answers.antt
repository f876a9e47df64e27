-- Two inboxes are the same where receiver and messages are.
use Rattle.std.proofs.Common.{◌∙◌, sym, ap, rules}
use Rattle.line_rounds.specs.Inboxes.{InboxView}
use Rattle.line_rounds.proofs.SameLemmas.{inbox_same}
use Rattle.line_rounds.proofs.inboxes.Inbox.is_same.Goals as goal

pub returns-then-eq : goal.returns-then-eq
returns-then-eq c =
    let ours : InboxView = record { to = c.self.inside.to; messages = c.self.inside.messages } in
    let theirs : InboxView = record { to = c.other.inside.to; messages = c.other.inside.messages }
    in (
      λ done. sym c.self.view_is
          ∙ inbox_same ours theirs (search rules) (c.is_same.ensures.0 done) ∙ c.other.view_is,
      λ e. c.is_same.ensures.1
          (ap (λ (i : InboxView). i.messages) (c.self.view_is ∙ e ∙ sym c.other.view_is)),
    )
