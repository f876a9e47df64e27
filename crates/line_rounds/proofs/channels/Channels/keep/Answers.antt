-- The inbox of one process more is kept.
use Rattle.std.proofs.Common.{◌≡◌, ◌≢◌, ℕ, ◌+◌, [], List, length, get_or, sym, ap, ◌∙◌, subst}
use Rattle.std.proofs.Common.{arith, rules}
use Rattle.std.proofs.lemmas.Bool.{eq-eqb, eqb-true, false≢true}
use Rattle.std.proofs.lemmas.List.{get_or_default}
use Rattle.line_names.specs.declared.messages.MsgName.{MsgName}
use Rattle.line_rounds.specs.Inboxes.{messages_from, AreFrom, InboxView}
use Rattle.line_rounds.proofs.GatherLemmas.{kept_table, none_of, AreKept, AreKept-more}
use Rattle.line_rounds.proofs.GatherLemmas.{AreKept-skip}
use Rattle.line_rounds.proofs.channels.Channels.keep.Goals.{then-not-is_empty+in_ok-new+in_ok-push}
use Rattle.line_rounds.proofs.channels.Channels.keep.Goals.{else-not-is_empty}
use Rattle.line_rounds.proofs.channels.Channels.keep.Goals as goal

pub loop-q-preserved : goal.loop-q-preserved
loop-q-preserved c =
    let n : ℕ = c.args.n in
    let rows : List (List MsgName) = c.args.rows.now in
    let q : ℕ = c.loop-q.q in
    let inboxes : List InboxView = c.loop-q.inboxes.items in
    let messages : List MsgName = c.row.inside.messages.items in
    let row : messages ≡ get_or rows q [] = c.row.view_is ∙ c.index-rows-q.is
    ∙ get_or_default rows q c.index-rows-q.result []
    (omega (arith, c.requires.rows, c.loop-q-test.true)) in
    elim c.if-not-is_empty.branch [
      | then-not-is_empty+in_ok-new+in_ok-push w ↦
          let inbox : InboxView = w.in_ok-new.field-0 in
          let given : w.deref.result.now ≡ get_or rows q [] = w.deref.ensures.value ∙ row in
          let to_is : w.unwrap-to.result ≡ q = search rules in
          let to : inbox.to ≡ q = w.in_ok-new.ensures.to ∙ to_is in
          let some : inbox.messages ≢ [] =
          λ e. absurd
          (false≢true (sym w.if-not-is_empty.true ∙ c.is_empty.ensures
          ∙ eq-eqb c.row.inside.messages.len 0
          (omega (
            arith,
            c.row.inside.messages.ok.0,
            ap (λ (ms : List MsgName). length ms)
                w.deref.ensures.value,
            w.in_ok-new.ensures.len,
            ap (λ (ms : List MsgName). length ms)
                e,
          )))) in
          let from : AreFrom n inbox.messages =
          w.in_ok-new.ensures.from n
          (subst (AreFrom n) (sym given)
          (c.requires.from q [] (omega (arith, c.requires.rows, c.loop-q-test.true)))) in
          subst (AreKept n rows (q + 1))
          (sym (ap (λ v. v.items) w.inboxes-is ∙ w.in_ok-push.ensures.items))
          (AreKept-more n rows q inboxes c.loop-q.invariant inbox to
          (record {
            to = omega (arith, to, c.loop-q-test.true);
            some = some;
            from =
                from;
            by_sender = w.in_ok-new.ensures.by_sender;
          })
          (λ p. w.in_ok-new.ensures.same p ∙ ap (messages_from p) given))
      | else-not-is_empty w ↦
          let none : messages ≡ [] =
          none_of messages
          (omega (
            arith,
            c.row.inside.messages.ok.0,
            eqb-true c.row.inside.messages.len 0
                (sym w.if-not-is_empty.ensures),
          )) in
          subst (AreKept n rows (q + 1)) (sym (ap (λ v. v.items) w.inboxes-is))
          (AreKept-skip n rows q inboxes c.loop-q.invariant (sym row ∙ none))
    ]

pub returns : goal.returns
returns c = kept_table c.args.n c.args.rows.now c.loop-q.q c.loop-q.inboxes.items
    (omega (arith, c.loop-q-test.false)) c.loop-q.invariant
