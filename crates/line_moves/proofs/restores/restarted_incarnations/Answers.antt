-- One process more has its incarnation.
use Rattle.std.proofs.Common.{◌≡◌, ℕ, ◌+◌, List, [], ◌∷◌, ◌++◌, map, length, sym, ap, ◌∙◌, arith}
use Rattle.std.specs.List.{range_with_len}
use Rattle.std.proofs.lemmas.List.FromFn.{map-range_with_len_more}
use Rattle.line_names.specs.Lines.{choice_at}
use Rattle.line_tape.specs.History.{incarnation_at}
use Rattle.line_tape.specs.Restart.{restarted_incarnation}
use Rattle.line_moves.proofs.LineFacts.{incarnations-restarted}
use Rattle.line_moves.proofs.restores.restarted_incarnations.Goals as goal

pub restarted_incarnation-requires-clause-further :
    goal.restarted_incarnation-requires-clause-further
restarted_incarnation-requires-clause-further c =
    let at : c.unwrap-p.result ≡ c.loop-q.q = (rw c.unwrap-p.ensures at c.try_new.ensures).1 in
    c.requires.further c.unwrap-p.result
    (omega (arith, at, c.loop-q-test.true, c.n-n.ensures.value))

pub loop-q-preserved : goal.loop-q-preserved
loop-q-preserved c =
    let f : ℕ → ℕ = λ p. restarted_incarnation (choice_at c.args.line.now p)
    (incarnation_at c.args.history.now.processes p) in
    let at : c.unwrap-p.result ≡ c.loop-q.q = (rw c.unwrap-p.ensures at c.try_new.ensures).1 in
    let here : c.restarted_incarnation.result
    ≡ f c.loop-q.q = c.restarted_incarnation.ensures ∙ ap f at in (
      c.push_reserved.ensures.items
          ∙ ap (λ (xs : List ℕ). xs ++ c.restarted_incarnation.result ∷ []) c.loop-q.invariant.0
          ∙ ap (λ (x : ℕ). map f (range_with_len 0 c.loop-q.q) ++ x ∷ []) here
          ∙ sym (map-range_with_len_more f 0 c.loop-q.q c.loop-q.q (omega arith)),
      c.push_reserved.ensures.len ∙ ap (λ (k : ℕ). k + 1) c.loop-q.invariant.1,
      c.push_reserved.ensures.capacity ∙ c.loop-q.invariant.2,
    )

pub returns : goal.returns
returns c =
    let f : ℕ → ℕ = λ p. restarted_incarnation (choice_at c.args.line.now p)
    (incarnation_at c.args.history.now.processes p) in
    let end : c.loop-q.q ≡ length c.args.history.now.processes = omega
    (arith, c.loop-q-test.false, c.loop-q.auto.q-end, c.n-n.ensures.value) in
    c.loop-q.invariant.0
    ∙ ap (λ (k : ℕ). map f (range_with_len 0 k)) end
    ∙ sym (incarnations-restarted c.args.history.now.processes c.args.line.now c.requires.line)
