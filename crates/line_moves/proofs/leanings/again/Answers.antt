-- Where nothing was sent or received between the rounds, what one has is what the other has.
use Rattle.std.proofs.Common.{◌≡◌, List, length, sym, subst}
use Rattle.line_names.specs.declared.messages.MsgName.{MsgName}
use Rattle.line_rounds.specs.Tables.{between}
use Rattle.line_moves.specs.Listed.{channel_table}
use Rattle.line_moves.proofs.LeaningLemmas.{still_channels}
use Rattle.line_moves.proofs.leanings.again.Goals as goal

pub returns-then-is_still_between-clause-same : goal.returns-then-is_still_between-clause-same
returns-then-is_still_between-clause-same c =
    subst (λ (t : List (List (List MsgName))). c.args.later.now.channels
    ≡ channel_table (length c.args.later.now.checks) (between t))
    (sym c.in_ok-share-in-Some-counted.ensures)
    (still_channels c.args.history.now.processes c.args.earlier.now c.args.later.now
    c.in-Some.channels.now c.in-Some-counted.own.now
    (c.in-Some.ensures.transit c.args.history.now.processes c.requires.earlier)
    (c.in-Some-counted.ensures.transit c.args.history.now.processes c.requires.later)
    c.in-Some-counted.ensures.shape
    (c.is_still_between.ensures c.if-is_still_between.true) c.in-Some-counted.ensures.shown).1
