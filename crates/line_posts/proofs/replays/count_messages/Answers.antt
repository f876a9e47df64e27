use Rattle.std.proofs.Common.{◌≡◌, ◌∙◌, ◌+◌, ◌++◌, ◌∷◌, [], List, take, sym, ap, subst, arith}
use Rattle.std.proofs.lemmas.List.{take_more}
use Rattle.line_names.specs.declared.messages.MsgName.{MsgName}
use Rattle.line_posts.specs.Replays.{counts_of, AreCounted}
use Rattle.line_posts.proofs.replays.count_messages.Goals as goal

pub loop-i-preserved : goal.loop-i-preserved
loop-i-preserved c =
    let M = c.args.messages.now in
    let x = c.index-messages-i.result in
    let next : take (c.loop-i.i + 1) M
    ≡ take c.loop-i.i M ++ x ∷ [] = take_more M c.loop-i.i x (omega (arith, c.loop-i-test.true))
    ∙ ap (λ v. take c.loop-i.i M ++ v ∷ []) (sym c.index-messages-i.is) in
    subst (λ (t : List MsgName). AreCounted c.args.history.now.processes t
    (counts_of c.count_message.new.counts.items) c.count_message.new.sums.items) (sym next)
    (c.count_message.ensures (take c.loop-i.i M) c.loop-i.invariant)
