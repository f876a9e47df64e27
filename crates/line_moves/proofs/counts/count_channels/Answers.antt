-- The channels of a round that the check completes are what is in transit where its process stands
-- now and the others at their checks.
use Rattle.std.proofs.Common.{ℕ, List, sym, ◌∙◌}
use Rattle.line_tape.specs.History.{Process}
use Rattle.line_rounds.specs.Turning.{TurningView}
use Rattle.line_moves.proofs.TurnFacts.{turn_completed, turn_counted}
use Rattle.line_moves.proofs.counts.count_channels.Goals as goal

pub count_at_last-requires-clause-others : goal.count_at_last-requires-clause-others
count_at_last-requires-clause-others c =
    (c.is_last.ensures c.args.catalogue.now.processes c.requires.turning).0 c.if-not-is_last.false

pub returns-then-not-is_last-clause-channels : goal.returns-then-not-is_last-clause-channels
returns-then-not-is_last-clause-channels c = λ state.
    let history : List Process = c.args.catalogue.now.processes in
    let turning : TurningView = c.args.turning.now in
    sym (turn_completed history turning c.requires.turning c.args.at state c.requires.at
    c.requires.first c.is_last.result (c.is_last.ensures history c.requires.turning)) ∙
    c.if-not-is_last.true

pub returns-clause-channels : goal.returns-clause-channels
returns-clause-channels c = λ state.
    let history : List Process = c.args.catalogue.now.processes in
    let turning : TurningView = c.args.turning.now in
    let at : ℕ = c.args.at in
    let found = c.in_ok-channels.ensures.channels in (
      sym (turn_completed history turning c.requires.turning at state c.requires.at c.requires.first
          c.is_last.result (c.is_last.ensures history c.requires.turning)) ∙ c.if-not-is_last.false,
      turn_counted history turning c.requires.turning at state c.requires.at c.requires.first
          found.line found.last
          ((c.is_last.ensures history c.requires.turning).0 c.if-not-is_last.false)
          c.in_ok-channels.channels found.counted,
    )
