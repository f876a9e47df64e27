-- One sum more; or one that is too great.
use Rattle.std.proofs.Common.{◌+◌, ◌++◌, ◌∷◌, [], ℕ, List, map, get_or, sym, ap, ◌∙◌, arith}
use Rattle.std.specs.List.{range_with_len}
use Rattle.std.proofs.lemmas.List.FromFn.{map-range_with_len_more}
use Rattle.line_cuts.proofs.whole_floors.sums.Goals as goal

pub loop-p-preserved : goal.loop-p-preserved
loop-p-preserved c =
    let f : ℕ → ℕ = λ (p : ℕ). get_or c.args.terms.now p 0 + get_or c.args.others.now p 0 in
    c.in_ok-push-in-Some.ensures.items
    ∙ ap (λ (xs : List ℕ). xs ++ c.in-Some.sum ∷ []) c.loop-p.invariant
    ∙ ap (λ (v : ℕ). map f (range_with_len 0 c.loop-p.p) ++ v ∷ []) c.in-Some.ensures.1
    ∙ sym (map-range_with_len_more f 0 c.loop-p.p c.loop-p.p (omega arith))

pub returns-in-None-clause-none : goal.returns-in-None-clause-none
returns-in-None-clause-none c = λ e. (c.loop-p.p, (omega arith, omega (arith, c.in-None.ensures)))
