-- One row more, without a number.
use Rattle.std.proofs.Common.{◌++◌, ◌∷◌, [], ℕ, List, ap, ◌∙◌, arith}
use Rattle.std.proofs.lemmas.List.{replicate-append-replicate}
use Rattle.line_catalogue.proofs.numbers.empty_rows.Goals as goal

pub loop-p-preserved : goal.loop-p-preserved
loop-p-preserved c =
    let none : List ℕ = [] in
    let rows : List (List ℕ) = c.loop-p.rows.items in
    record {
      made = c.push_reserved.ensures.items ∙ ap
          (λ (row : List ℕ). rows ++ row ∷ []) c.in_ok-row.ensures
          ∙ ap (λ (xs : List (List ℕ)). xs ++ none ∷ []) c.loop-p.invariant.made ∙
          replicate-append-replicate c.loop-p._p 1 none;
      len = omega (arith, c.push_reserved.ensures.len, c.loop-p.invariant.len);
      room = omega (arith, c.push_reserved.ensures.capacity, c.loop-p.invariant.room);
    }
