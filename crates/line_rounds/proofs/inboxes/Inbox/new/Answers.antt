-- A stable sort by sender leaves the messages of each as they were.
use Rattle.std.proofs.Common.{◌<◌, ◌∙◌, ℕ, List, sym, ap, subst, arith, rules}
use Rattle.std.proofs.lemmas.List.{get_or_default}
use Rattle.std.proofs.lemmas.List.Sorted.{All-permutation, IsNonDecreasingBy-from_sort_by_key}
use Rattle.line_names.specs.declared.messages.MsgName.{MsgName}
use Rattle.line_rounds.specs.Inboxes.{messages_from, AreFrom, AreSentBy, ComeBySender}
use Rattle.line_rounds.proofs.InboxLemmas.{bits_more, stable_sent}
use Rattle.line_rounds.proofs.inboxes.Inbox.new.Goals as goal

pub new-requires : goal.new-requires
new-requires c = IsNonDecreasingBy-from_sort_by_key (λ (m : MsgName). m.from) _
    c.in_ok-sort_by_key.ensures.sorted (λ a r q k. search rules)

pub invariant_of-result : goal.invariant_of-result
invariant_of-result c =
    subst (λ (ms : List MsgName). ComeBySender ms × AreSentBy c.each.senders ms)
    (sym c.in_ok-by_sender.ensures) (
      IsNonDecreasingBy-from_sort_by_key (λ (m : MsgName). m.from) _
          c.in_ok-sort_by_key.ensures.sorted (λ a r q k. search rules),
      λ k d within. c.each.invariant k d (omega (arith, within, c.each-test.false)),
    )

pub each-preserved : goal.each-preserved
each-preserved c =
    let messages : List MsgName = c.sort_by_key.new.self.items in
    let i : ℕ = c.each.i in
    let message : MsgName = c.index.result.now in
    bits_more c.each.senders messages i c.get.result c.each.invariant
    (λ d. ap (λ (m : MsgName). m.from) (get_or_default messages i d message
    (omega (arith, c.each-test.true, c.len-i-end.ensures)) ∙ sym c.index.ensures)
    ∙ sym c.get.ensures.value)

pub returns-clause-same : goal.returns-clause-same
returns-clause-same c = λ p.
    ap (messages_from p) c.in_ok-by_sender.ensures
    ∙ stable_sent c.in_ok-messages.messages.items c.sort_by_key.new.self.items
    c.in_ok-sort_by_key.ensures.stable (λ a r q k. search rules) p
    ∙ ap (messages_from p) c.in_ok-messages.ensures.items

pub returns-clause-by_sender : goal.returns-clause-by_sender
returns-clause-by_sender c =
    subst ComeBySender (sym c.in_ok-by_sender.ensures)
    (IsNonDecreasingBy-from_sort_by_key (λ (m : MsgName). m.from) _
    c.in_ok-sort_by_key.ensures.sorted (λ a r q k. search rules))

pub returns-clause-from : goal.returns-clause-from
returns-clause-from c = λ n all.
    subst (AreFrom n) (sym c.in_ok-by_sender.ensures)
    (All-permutation (λ (m : MsgName). m.from < n) c.in_ok-messages.messages.items
    c.sort_by_key.new.self.items c.in_ok-sort_by_key.ensures.permutation
    (subst (AreFrom n) (sym c.in_ok-messages.ensures.items) all))
