use Rattle.std.proofs.Common.{sym}
use Rattle.std.proofs.lemmas.Result.{on_err_weaker}
use Rattle.line_text.proofs.HeardLemmas.{front_put}
use Rattle.line_text.proofs.conversations.Conversation.hear.Goals as goal

pub returns-in-Ok-clause-err : goal.returns-in-Ok-clause-err
returns-in-Ok-clause-err g c =
    rw (sym c.self.view_is) (on_err_weaker c.put_held.result (λ put. front_put _ _ _ _ _ _ _
    c.in-Ok.ensures.ok c.self.invariant put) c.put_held.ensures.err)
