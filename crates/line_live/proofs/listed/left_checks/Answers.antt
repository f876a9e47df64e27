-- One process more.
use Rattle.std.proofs.Common.{◌≡◌, ◌-◌, ◌++◌, ◌∷◌, [], ℕ, List, map, sym, ap, ◌∙◌, arith}
use Rattle.std.specs.List.{range_with_len}
use Rattle.std.proofs.lemmas.List.FromFn.{map-range_with_len_more}
use Rattle.line_cuts.specs.Cuts.{lost_checks}
use Rattle.line_moves.specs.Listed.{check_in}
use Rattle.line_live.proofs.listed.left_checks.Goals as goal

pub loop-q-preserved : goal.loop-q-preserved
loop-q-preserved c =
    let f : ℕ → ℕ = λ (p : ℕ). check_in c.args.round.now p - lost_checks c.args.floor.now p in
    let at : c.unwrap-p.result ≡ c.loop-q.q = (rw c.unwrap-p.ensures at c.try_new.ensures).1 in
    let here : f c.unwrap-p.result ≡ f c.loop-q.q = ap f at in
    let left : c.saturating_sub.result ≡ f c.loop-q.q = omega
    (arith, c.saturating_sub.ensures, c.check-check.ensures, c.checks_lost.ensures, here) in
    c.in_ok-push.ensures.items
    ∙ ap (λ (xs : List ℕ). xs ++ c.saturating_sub.result ∷ []) c.loop-q.invariant
    ∙ ap (λ (v : ℕ). map f (range_with_len 0 c.loop-q.q) ++ v ∷ []) left
    ∙ sym (map-range_with_len_more f 0 c.loop-q.q c.loop-q.q (omega arith))
