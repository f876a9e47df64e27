-- A receipt is told of where its message was sent to the process.
use Rattle.std.proofs.Common.{◌≡◌, ◌++◌, ◌∷◌, [], List, Bool, true, set, get_or, sym, ap, ◌∙◌}
use Rattle.std.proofs.Common.{subst, arith}
use Rattle.std.proofs.lemmas.Bool.{false≢true}
use Rattle.line_names.specs.declared.messages.MsgName.{MsgName}
use Rattle.line_tape.specs.declared.events.Event.{Event}
use Rattle.line_tape.specs.declared.events.Event.TheVariants.{Recv}
use Rattle.line_tape.specs.Fit.{IsSentTo}
use Rattle.line_tape.specs.Received.{with_seen, AreTold}
use Rattle.line_tape.proofs.ReceivedLemmas.{sent_within, told-sent, told-unsent}
use Rattle.line_tape.proofs.flags.add_receipt.Goals as goal

pub index_mut-requires : goal.index_mut-requires
index_mut-requires c =
    let sent : IsSentTo c.args.history.now.processes c.args.q c.args.message.now =
    c.is_sent_to.ensures.0 c.if-is_sent_to.true in
    omega (
      arith,
      sent_within c.args.history.now.processes c.args.q c.args.message.now sent,
      c.requires,
      c.get.ensures.value,
      c.args.received.now.ok.0,
    )

pub returns-then-is_sent_to-clause-told : goal.returns-then-is_sent_to-clause-told
returns-then-is_sent_to-clause-told c = λ line seen told.
    let m : MsgName = c.args.message.now in
    let sent : IsSentTo c.args.history.now.processes c.args.q m = c.is_sent_to.ensures.0
    c.if-is_sent_to.true in
    let rows : List (List Bool) = c.args.received.now.items in
    let row : List Bool = c.index_mut.result.now in
    let at : row ≡ get_or rows m.from row = c.index_mut.ensures.value ∙ ap
    (λ k. get_or rows k row) c.get.ensures.value in
    let more : AreTold c.args.history.now.processes line
    (with_seen seen c.args.q (seen c.args.q ++ Recv m ∷ []))
    (set rows m.from (set row m.number true)) = told-sent c.args.history.now.processes line seen
    c.args.q m rows row sent
    (sent_within c.args.history.now.processes c.args.q m sent) at told in
    subst (λ k. AreTold c.args.history.now.processes line
    (with_seen seen c.args.q (seen c.args.q ++ Recv m ∷ [])) (set rows k c.add.new.self))
    (sym c.get.ensures.value)
    (subst (λ (r : List Bool). AreTold c.args.history.now.processes line (with_seen seen
    c.args.q (seen c.args.q ++ Recv m ∷ [])) (set rows m.from r)) (sym c.add.ensures) more)

pub returns-else-is_sent_to-clause-told : goal.returns-else-is_sent_to-clause-told
returns-else-is_sent_to-clause-told c = λ line seen told.
    told-unsent c.args.history.now.processes line seen c.args.q c.args.message.now
    c.args.received.now.items
    (λ sent. false≢true (sym c.if-is_sent_to.false ∙ c.is_sent_to.ensures.1 sent)) told
