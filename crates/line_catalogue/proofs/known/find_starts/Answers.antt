-- One start more.
use Rattle.std.proofs.Common.{◌≡◌, ◌≤◌, ◌+◌, ◌++◌, ◌∷◌, [], ℕ, List, length, sym, ap, ◌∙◌, subst}
use Rattle.std.proofs.Common.{arith}
use Rattle.std.specs.List.Sorted.{IsNonDecreasing}
use Rattle.std.proofs.lemmas.List.{length_push}
use Rattle.line_catalogue.specs.Left.{start_at}
use Rattle.line_catalogue.proofs.KnownLemmas.{starts-push}
use Rattle.line_catalogue.proofs.LeftLemmas.{ends-more}
use Rattle.line_catalogue.proofs.known.find_starts.Goals as goal

pub loop-q-preserved : goal.loop-q-preserved
loop-q-preserved c =
    let starts : List ℕ = c.loop-q.starts.items in
    let start : ℕ = c.loop-q.start in
    let next : ℕ = c.saturating_add-start.result in
    let up : start ≤ next = omega
    (arith, c.saturating_add-start.ensures, c.loop-q.invariant.fits) in
    let new : c.push_reserved.new.self.items
    ≡ starts ++ start ∷ [] = c.push_reserved.ensures.items in
    record {
      count = ap (λ (xs : List ℕ). length xs) new ∙ length_push starts start ∙ ap
          (λ (k : ℕ). k + 1) c.loop-q.invariant.count;
      len = omega (arith, c.push_reserved.ensures.len, c.loop-q.invariant.len);
      room = omega (arith, c.push_reserved.ensures.capacity, c.loop-q.invariant.room);
      sorted = subst IsNonDecreasing (sym new)
          (starts-push starts start c.loop-q.invariant.sorted c.loop-q.invariant.below);
      fits = omega (arith, c.saturating_add-start.ensures);
      below = λ p. subst (λ (xs : List ℕ). start_at xs p ≤ next) (sym new) (ends-more
          (λ (k : ℕ). next) starts start (λ k. omega (arith, up, c.loop-q.invariant.below k)) up p);
    }

pub returns-clause-sorted : goal.returns-clause-sorted
returns-clause-sorted c = subst IsNonDecreasing (sym c.push_reserved-2.ensures.items) (starts-push
    c.loop-q.starts.items c.loop-q.start c.loop-q.invariant.sorted c.loop-q.invariant.below)
