use Rattle.std.proofs.Common.{sym}
use Rattle.std.proofs.lemmas.Result.{on_err_weaker}
use Rattle.line_text.proofs.HeardLemmas.{front_put}
use Rattle.line_text.proofs.conversations.Conversation.end.Goals as goal
use Rattle.line_text.proofs.conversations.Conversation.end.Goals.{in-Ok, in-Err}

pub returns-clause-err : goal.returns-clause-err
returns-clause-err g c =
    elim c.match-heard.branch [
      | in-Ok w ↦ rw (w.result-is, w.sink-is, sym c.self.view_is)
          (on_err_weaker w.put_held.result (λ put. front_put _ _ _ _ _ _ _ w.in-Ok.ensures.ok
          c.self.invariant put) w.put_held.ensures.err)
      | in-Err w ↦ rw (w.result-is, w.sink-is, sym c.self.view_is)
          (rw c.self.invariant at w.in-Err.ensures.err)
    ]
