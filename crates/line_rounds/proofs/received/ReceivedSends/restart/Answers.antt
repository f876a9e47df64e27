-- What is in transit is not received, and each other send that is left is received or not as
-- before.
use Rattle.std.proofs.Common.{◌∙◌, ◌<◌, List, length, sym, ap, subst}
use Rattle.std.specs.List.{All}
use Rattle.line_names.specs.declared.messages.MsgName.{MsgName}
use Rattle.line_rounds.specs.Flags.{flag_at, names_send}
use Rattle.std.specs.Prelude.{◌&&◌, not}
use Rattle.line_rounds.proofs.CutFlagLemmas.{transit_within, AreFlagged-restarted}
use Rattle.line_rounds.proofs.received.ReceivedSends.restart.Goals as goal

pub clear-requires : goal.clear-requires
clear-requires c =
    subst (λ (ms : List MsgName). All (λ (m : MsgName). m.from < length c.cut.new.self) ms)
    (sym c.requires.transit)
    (transit_within c.args.history.now.processes c.args.line.now c.requires.line.length_is
    (length c.cut.new.self) (sym (c.cut.ensures.count ∙ c.requires.count)))

pub returns-clause-restart : goal.returns-clause-restart
returns-clause-restart c = λ are.
    AreFlagged-restarted c.args.history.now.processes c.args.line.now c.requires.line.length_is
    c.args.self.now c.cut.new.self c.clear.new.self are c.cut.ensures.count c.cut.ensures.cut
    c.clear.ensures.count c.clear.ensures.lengths
    (λ p k. c.clear.ensures.cleared p k ∙ ap (λ (ms : List MsgName). flag_at c.cut.new.self p k
    && not (names_send ms p k)) c.requires.transit)
