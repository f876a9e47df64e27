-- The search finds the last turn with no more sends before it.
use Rattle.std.proofs.Common.{◌≡◌, ◌-◌, ◌<◌, ◌≤◌, leb, List, length, sym, ap, ◌∙◌, subst, arith}
use Rattle.std.proofs.Common.{rules}
use Rattle.std.specs.Prelude.{AllPairs}
use Rattle.std.proofs.lemmas.List.Sorted.{IsPartitionPoint-from_clause, IsPartitionedBy-leb}
use Rattle.line_tape.specs.Turns.{Turn, colour_by}
use Rattle.line_rounds.specs.Kept.{ProcessTurns}
use Rattle.line_rounds.proofs.TurnedLemmas.{sends_in_order, newest_turn_by, no_turn_by}
use Rattle.line_rounds.proofs.TurnedLemmas.{last_turn_by}
use Rattle.line_rounds.proofs.colours.ProcessColour.colour_at.Goals as goal

pub returns-then-count-eq0 : goal.returns-then-count-eq0
returns-then-count-eq0 c = λ rounds sends.
    let turns : List Turn = c.as_slice-turns.result.now in
    let same : turns ≡ c.args.self.now.turns = c.as_slice-turns.ensures.value ∙ ap
    (λ (v : ProcessTurns). v.turns) c.self.view_is in
    let rise = subst (λ (ts : List Turn). AllPairs (λ (s t : Turn). s.sends ≤ t.sends) ts)
    (sym same) sends in
    let point = IsPartitionPoint-from_clause
    (λ (t : Turn). leb t.sends c.args.number) _ _ c.partition_point-count.ensures.partitioned
    (IsPartitionedBy-leb (λ (t : Turn). t.sends) turns c.args.number
    (sends_in_order turns rise)) (λ a r q k. search rules) in
    no_turn_by turns c.args.number c.partition_point-count.result point c.if-count-eq0.true ∙ ap
    (λ (ts : List Turn). colour_by ts c.args.number) same

pub returns-else-count-eq0 : goal.returns-else-count-eq0
returns-else-count-eq0 c = λ rounds sends.
    let turns : List Turn = c.as_slice-turns.result.now in
    let same : turns ≡ c.args.self.now.turns = c.as_slice-turns.ensures.value ∙ ap
    (λ (v : ProcessTurns). v.turns) c.self.view_is in
    let rise = subst (λ (ts : List Turn). AllPairs (λ (s t : Turn). s.sends ≤ t.sends) ts)
    (sym same) sends in
    let grow = subst (λ (ts : List Turn). AllPairs (λ (s t : Turn). s.round < t.round) ts)
    (sym same) rounds in
    let point = IsPartitionPoint-from_clause
    (λ (t : Turn). leb t.sends c.args.number) _ _ c.partition_point-count.ensures.partitioned
    (IsPartitionedBy-leb (λ (t : Turn). t.sends) turns c.args.number
    (sends_in_order turns rise)) (λ a r q k. search rules) in
    ap (λ (t : Turn). t.round) c.turn.view_is
    ∙ last_turn_by turns c.args.number c.partition_point-count.result _ c.index-turns-count.result
    grow rise point (omega (arith, c.if-count-eq0.false)) (omega
    (arith, c.if-count-eq0.false, c.partition_point-count.ensures.bound)) c.index-turns-count.is
    ∙ ap (λ (ts : List Turn). colour_by ts c.args.number) same

pub returns-then-last-number : goal.returns-then-last-number
returns-then-last-number c = λ rounds sends.
    let turns : List Turn = c.as_slice-turns.result.now in
    let same : turns ≡ c.args.self.now.turns =
    c.as_slice-turns.ensures.value ∙ ap (λ (v : ProcessTurns). v.turns) c.self.view_is in
    let rise =
    subst (λ (ts : List Turn). AllPairs (λ (s t : Turn). s.sends ≤ t.sends) ts) (sym same) sends in
    let grow = subst (λ (ts : List Turn). AllPairs (λ (s t : Turn). s.round < t.round) ts)
    (sym same) rounds in
    ap (λ (t : Turn). t.round) c.last-in-Some.view_is
    ∙ newest_turn_by turns c.args.number (length turns - 1) c.in-Some.last.now grow rise
    (sym c.in-Some.ensures.value) (omega arith)
    (omega (arith, c.if-last-number.true, ap (λ (t : Turn). t.sends) c.last-in-Some.view_is))
    ∙ ap (λ (ts : List Turn). colour_by ts c.args.number) same
