-- Nothing is from a process whose bit is not set.
use Rattle.std.proofs.Common.{◌≡◌, ℕ, ◌%◌, sym, ap, ◌∙◌, rules}
use Rattle.std.specs.Int.{bit_at}
use Rattle.std.proofs.lemmas.Nat.Bits.{shr_and_one}
use Rattle.line_rounds.specs.Inboxes.{messages_from, InboxView}
use Rattle.line_rounds.proofs.InboxLemmas.{none_sent}
use Rattle.line_rounds.proofs.inboxes.Inbox.from.Goals as goal

pub returns-then-self-get-eq0 : goal.returns-then-self-get-eq0
returns-then-self-get-eq0 c =
    let bits : ℕ = c.self.inside.senders in
    let p : ℕ = c.get.result in
    let absent : bit_at bits (c.args.p % 64) ≡ 0 =
    sym (ap (λ (q : ℕ). bit_at bits (q % 64)) c.get.ensures.value)
    ∙ sym (shr_and_one bits (p % 64)) ∙ search rules in
    let none = none_sent bits c.self.inside.messages c.args.p c.self.invariant.1 absent in
    sym none ∙ ap (λ (i : InboxView). messages_from c.args.p i.messages) c.self.view_is
