-- One message more is gathered.
use Rattle.std.proofs.Common.{◌≡◌, ℕ, ◌+◌, ◌++◌, [], ◌∷◌, List, take, get_or, set, sym, ap, ◌∙◌}
use Rattle.std.proofs.Common.{subst, arith}
use Rattle.std.proofs.lemmas.List.{get_or_default}
use Rattle.line_names.specs.declared.messages.MsgName.{MsgName}
use Rattle.line_tape.specs.History.{Process}
use Rattle.line_rounds.specs.Inboxes.{AreByAddressee}
use Rattle.line_rounds.proofs.ChannelLemmas.{addressee_within}
use Rattle.line_rounds.proofs.GatherLemmas.{AreGathered-more, AreGathered-other}
use Rattle.line_rounds.proofs.channels.gather.Goals.{in-Some+in_ok-push, in_default}
use Rattle.line_rounds.proofs.channels.gather.Goals as goal

pub index_mut-requires : goal.index_mut-requires
index_mut-requires c =
    let within = addressee_within c.args.history.now.processes c.message-item.result c.in-Some.to
    (sym c.addressee.ensures ∙ c.in-Some.is) c.n.ensures.limits in
    omega (
      arith,
      within,
      c.get.ensures.value,
      c.loop-message.rows.ok.0,
      c.loop-message.invariant.count,
    )

pub loop-message-preserved : goal.loop-message-preserved
loop-message-preserved c =
    let history : List Process = c.args.history.now.processes in
    let names : List MsgName = c.args.messages.now in
    let i : ℕ = c.loop-message.message-index in
    let message : MsgName = c.message-item.result in
    let rows : List (List MsgName) = c.loop-message.rows.items in
    elim c.match-addressee.branch [
      | in-Some+in_ok-push w ↦
          let to : ℕ = w.in-Some.to in
          let named = sym c.addressee.ensures ∙ w.in-Some.is in
          let to_within = addressee_within history message to named c.n.ensures.limits in
          let old : List MsgName = w.index_mut.result.now in
          let own : old ≡ get_or rows to [] = w.index_mut.ensures.value
          ∙ ap (λ (k : ℕ). get_or rows k old) w.get.ensures.value
          ∙ get_or_default rows to old [] (omega (arith, to_within, c.loop-message.invariant.count))
          in
          let new : w.push.new.self.items ≡ get_or rows to [] ++ message ∷ [] =
          w.in_ok-push.ensures.items
          ∙ ap (λ (ms : List MsgName). ms ++ message ∷ []) (w.behind-rows.view_is ∙ own) in
          let written : c.match-addressee.rows.items ≡ set rows to
          (get_or rows to [] ++ message ∷ []) =
          ap (λ v. v.items) w.rows-is
          ∙ ap (λ (k : ℕ). set rows k w.push.new.self.items) w.get.ensures.value
          ∙ ap (λ (ms : List MsgName). set rows to ms) new in
          subst (λ (v : List (List MsgName)). AreByAddressee history (take (i + 1) names) v)
          (sym written)
          (AreGathered-more history names i rows message c.loop-message-test.true c.message-item.is
          c.loop-message.invariant to named to_within)
      | in_default w ↦
          subst (λ (v : List (List MsgName)). AreByAddressee history (take (i + 1) names) v)
          (sym (ap (λ v. v.items) w.rows-is))
          (AreGathered-other history names i rows message c.loop-message-test.true c.message-item.is
          c.loop-message.invariant (sym c.addressee.ensures ∙ w.in_default.is))
    ]
