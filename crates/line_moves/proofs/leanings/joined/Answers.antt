-- What is joined is what the round has.
use Rattle.std.proofs.Common.{◌≡◌, List, length, Option}
use Rattle.std.specs.Prelude.{IfSome}
use Rattle.std.proofs.lemmas.Result.{IfOk-weaker}
use Rattle.line_names.specs.declared.messages.MsgName.{MsgName}
use Rattle.line_rounds.specs.Tables.{between}
use Rattle.line_moves.specs.Listed.{channel_table}
use Rattle.line_moves.proofs.LeaningLemmas.{leaning_shown}
use Rattle.line_moves.proofs.leanings.joined.Goals as goal

pub returns-in-Some-counted-clause-same : goal.returns-in-Some-counted-clause-same
returns-in-Some-counted-clause-same c =
    IfOk-weaker c.join.result
    (λ (found : Option (List (List (List MsgName)))). IfSome found
    (λ t. t ≡ c.in-Some.channels.now))
    (λ (found : Option (List (List (List MsgName)))). IfSome found (λ t. c.args.round.now.channels
    ≡ channel_table (length c.args.round.now.checks) (between t)))
    (leaning_shown (length c.args.round.now.checks) c.args.round.now.channels c.in-Some.channels.now
    c.in-Some.ensures.shown)
    c.join.ensures
