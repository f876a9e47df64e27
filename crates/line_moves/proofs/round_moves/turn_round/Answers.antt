-- The round that is kept as open is the one that is turned to.
use Rattle.std.proofs.Common.{◌≡◌, ◌++◌, ◌∷◌, [], ℕ, List, sym, ap, ◌∙◌, subst, arith}
use Rattle.std.specs.Prelude.{All}
use Rattle.line_tape.specs.History.{Process, tape_at}
use Rattle.line_tape.specs.Rounds.{has_check_of}
use Rattle.line_rounds.specs.Turning.{TurningView, IsTurning}
use Rattle.line_tape.specs.declared.modes.Mode.TheVariants.{Unordered}
use Rattle.line_moves.specs.Listed.{ListedRound, listed_round, IsSnapshotOf}
use Rattle.line_moves.specs.Openings.{opened_turning, IsCountedAtRound}
use Rattle.line_moves.proofs.TurnFacts.{closed_round, open_round, round_counted, same_round}
use Rattle.line_moves.proofs.round_moves.turn_round.Goals as goal

pub settle-requires : goal.settle-requires
settle-requires c =
    subst (λ (h : List Process). All (IsSnapshotOf h) c.args.rounds.now.items)
    (sym c.history.ensures.processes) c.requires.rounds

pub take_turn-requires-clause-rounds : goal.take_turn-requires-clause-rounds
take_turn-requires-clause-rounds c =
    subst (All (IsSnapshotOf c.args.catalogue.now.processes)) (sym
    (c.as_slice-listed.ensures ∙ c.reserve.ensures.items ∙ c.settle.ensures)) c.requires.rounds

pub take_turn-requires-clause-first : goal.take_turn-requires-clause-first
take_turn-requires-clause-first c =
    let history : List Process = c.args.catalogue.now.processes in
    let kept = open_round history c.args.turn.now.round c.args.turning.now c.in-Some.round
    c.in-Some.is c.requires.kept in
    ap (λ (v : ℕ). has_check_of v (tape_at history c.args.turn.now.at)) kept.0 ∙ c.requires.first

pub take_turn-requires-clause-greater : goal.take_turn-requires-clause-greater
take_turn-requires-clause-greater c =
    let kept = open_round c.args.catalogue.now.processes c.args.turn.now.round c.args.turning.now
    c.in-Some.round c.in-Some.is c.requires.kept in
    omega (arith, c.requires.greater, kept.0)

pub take_turn-requires-clause-turning : goal.take_turn-requires-clause-turning
take_turn-requires-clause-turning c =
    (open_round c.args.catalogue.now.processes c.args.turn.now.round c.args.turning.now
    c.in-Some.round c.in-Some.is c.requires.kept).1

pub of_turning-requires-clause-turning : goal.of_turning-requires-clause-turning
of_turning-requires-clause-turning c =
    let same = same_round c.take.result c.take_turn.new.turning c.in-Some-take.round
    c.take.ensures.value c.in-Some-take.is in
    subst (λ (h : List Process). IsTurning h c.in-Some-take.round)
    (sym c.history-in-Some-take.ensures.processes)
    (subst (λ (t : TurningView). IsTurning c.take_turn.new.catalogue.processes t) same
    c.in_ok-check-in-Some.ensures.turning)

pub of_turning-requires-clause-completed : goal.of_turning-requires-clause-completed
of_turning-requires-clause-completed c =
    (round_counted c.take_turn.new.catalogue.processes c.history-in-Some-take.result.now.processes
    c.take_turn.new.turning c.in-Some-take.round c.in_ok-check-in-Some.channels
    c.in-Some-channels.channels (sym c.history-in-Some-take.ensures.processes)
    (same_round c.take.result c.take_turn.new.turning c.in-Some-take.round c.take.ensures.value
    c.in-Some-take.is) c.in-Some-channels.is c.in_ok-check-in-Some.ensures.channels).0

pub of_turning-requires-clause-channels : goal.of_turning-requires-clause-channels
of_turning-requires-clause-channels c =
    (round_counted c.take_turn.new.catalogue.processes c.history-in-Some-take.result.now.processes
    c.take_turn.new.turning c.in-Some-take.round c.in_ok-check-in-Some.channels
    c.in-Some-channels.channels (sym c.history-in-Some-take.ensures.processes)
    (same_round c.take.result c.take_turn.new.turning c.in-Some-take.round c.take.ensures.value
    c.in-Some-take.is) c.in-Some-channels.is c.in_ok-check-in-Some.ensures.channels).1

pub returns-in-Some-take-clause-settled : goal.returns-in-Some-take-clause-settled
returns-in-Some-take-clause-settled c =
    let new : TurningView = c.take_turn.new.turning in
    let same : c.in-Some-take.round ≡ new = sym (same_round c.take.result new c.in-Some-take.round
    c.take.ensures.value c.in-Some-take.is) in
    let before : List ListedRound = c.args.rounds.now.items in
    let after : List Process = c.take_turn.new.catalogue.processes in
    let counted = subst (IsCountedAtRound after new.number) c.in-Some-channels.is
    c.in_ok-check-in-Some.ensures.channels in
    let closed = closed_round after new counted.0 in
    record {
      round = new;
      number_is = c.in_ok-check-in-Some.ensures.number ∙ (open_round c.args.catalogue.now.processes
          c.args.turn.now.round c.args.turning.now c.in-Some.round c.in-Some.is c.requires.kept).0;
      follows = c.in_ok-check-in-Some.ensures.turning;
      listed = c.push.ensures
          ∙ ap (λ (ls : List ListedRound). ls ++ c.of_turning.result ∷ [])
          (c.reserve.ensures.items ∙ c.settle.ensures)
          ∙ ap (λ (l : ListedRound). before ++ l ∷ []) (c.of_turning.ensures
          ∙ ap (λ (h : List Process). listed_round Unordered h c.in-Some-take.round.number)
          c.history-in-Some-take.ensures.processes
          ∙ ap (λ (t : TurningView). listed_round Unordered after t.number) same)
          ∙ ap (λ (ls : List ListedRound). before ++ ls) (sym closed.0);
      left = ap opened_turning c.take.ensures.after ∙ sym closed.1;
    }
