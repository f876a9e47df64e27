-- One process more has its bytes.
use Rattle.std.proofs.Common.{◌≡◌, ℕ, ◌+◌, List, [], ◌∷◌, ◌++◌, map, Option, Some, sym, ap, ◌∙◌}
use Rattle.std.proofs.Common.{arith}
use Rattle.std.specs.List.{range_with_len}
use Rattle.std.proofs.lemmas.List.FromFn.{map-range_with_len_more}
use Rattle.line_names.specs.Lines.{choice_at}
use Rattle.line_tape.specs.declared.events.Event.{Event}
use Rattle.line_tape.specs.Event.{stored_state}
use Rattle.line_tape.specs.History.{tape_at}
use Rattle.line_moves.specs.Restarts.{restored_state}
use Rattle.line_moves.proofs.restores.restored_states.Goals as goal
use Rattle.line_moves.proofs.restores.restored_states.Goals.{in-Check+in_ok-from_slice-in-Check}
use Rattle.line_moves.proofs.restores.restored_states.Goals.{in-Now}

pub loop-q-preserved : goal.loop-q-preserved
loop-q-preserved c =
    let f : ℕ → Option (List ℕ) = λ p. restored_state (tape_at c.args.history.now.processes p)
    (choice_at c.args.line.now p) in
    let at : c.unwrap-p.result ≡ c.loop-q.q = (rw c.unwrap-p.ensures at c.try_new.ensures).1 in
    let here : c.match-at.state ≡ f c.loop-q.q = elim c.match-at.branch [
      | in-Check+in_ok-from_slice-in-Check w ↦ w.state-is ∙ ap (λ (bytes : List ℕ). Some bytes)
          (w.of.ensures ∙ w.in_ok-from_slice-in-Check.ensures.items ∙ w.state.ensures ∙ ap
          (λ (t : List Event). stored_state t w.in-Check.check) w.tape.ensures.events) ∙ ap
          (restored_state (tape_at c.args.history.now.processes c.unwrap-p.result))
          (sym w.in-Check.is ∙ c.at.ensures) ∙ ap f at
      | in-Now w ↦ w.state-is ∙ ap (restored_state (tape_at c.args.history.now.processes
          c.unwrap-p.result)) (sym w.in-Now.is ∙ c.at.ensures) ∙ ap f at
    ] in (
      c.push_reserved.ensures.items
          ∙ ap (λ (xs : List (Option (List ℕ))). xs ++ c.match-at.state ∷ []) c.loop-q.invariant.0
          ∙ ap (λ (x : Option (List ℕ)). map f (range_with_len 0 c.loop-q.q) ++ x ∷ []) here
          ∙ sym (map-range_with_len_more f 0 c.loop-q.q c.loop-q.q (omega arith)),
      c.push_reserved.ensures.len ∙ ap (λ (k : ℕ). k + 1) c.loop-q.invariant.1,
      c.push_reserved.ensures.capacity ∙ c.loop-q.invariant.2,
    )
