-- Each process is cleared.
use Rattle.std.proofs.Common.{◌≡◌, ℕ, ◌<◌, List, length, set, sym, ap, ◌∙◌, subst, arith, inl, inr}
use Rattle.std.proofs.lemmas.Bool.{cases_eq}
use Rattle.std.proofs.lemmas.List.{length-set, get_or-set_same, get_or-set_other}
use Rattle.line_rounds.specs.Kept.{ProcessTurns, turns_at, no_turns}
use Rattle.line_rounds.proofs.TurnedLemmas.{AreTurned-restarted}
use Rattle.line_rounds.proofs.colours.Colours.clear.Goals as goal

pub loop-p-preserved : goal.loop-p-preserved
loop-p-preserved c =
    let items : List ProcessTurns = c.loop-p.self-inside.processes.items in
    let p : ℕ = c.loop-p.p in
    let many : length c.self.inside.processes.items
    ≡ length c.args.self.now = ap (λ (v : List ProcessTurns). length v) c.self.view_is in
    let within : p < length items = omega (arith, many, c.loop-p.invariant.0) in (
      length-set items p c.clear.new.self ∙ c.loop-p.invariant.0,
      λ k k_within. elim (cases_eq k p) [
        | inl same ↦ subst (λ (v : ℕ). turns_at (set items p c.clear.new.self) v ≡ no_turns)
            (sym same) (get_or-set_same items p c.clear.new.self no_turns within ∙ c.clear.ensures)
        | inr other ↦ get_or-set_other items p k c.clear.new.self no_turns other ∙
            c.loop-p.invariant.1 k (omega (arith, k_within, other))
      ],
    )

pub returns-clause-restart : goal.returns-clause-restart
returns-clause-restart c = λ history line length_is are.
    let many : length c.self.inside.processes.items
    ≡ length c.args.self.now = ap (λ (v : List ProcessTurns). length v) c.self.view_is in
    AreTurned-restarted history line c.args.self.now c.loop-p.self-inside.processes.items length_is
    are c.loop-p.invariant.0
    (λ q within. c.loop-p.invariant.1 q (omega (arith, within, many, c.loop-p.invariant.0)))

pub returns-clause-count : goal.returns-clause-count
returns-clause-count c = c.loop-p.invariant.0
