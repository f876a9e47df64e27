-- No mark is above the latest one, which is among them.
use Rattle.std.proofs.Common.{◌≡◌, ◌≤◌, ℕ, subst, arith}
use Rattle.std.specs.Prelude.{IsTrue}
use Rattle.std.specs.List.{All}
use Rattle.std.proofs.lemmas.Bool.{le-leb, leb-true}
use Rattle.line_tape.specs.Survival.{is_damaged}
use Rattle.line_tape.specs.Views.{MarksView, damaged_at}
use Rattle.line_catalogue.proofs.DamageLemmas.{found_within}
use Rattle.line_catalogue.proofs.agreement.none_above.Goals as goal

pub returns-in-Some : goal.returns-in-Some
returns-in-Some c =
    let marks : MarksView = c.args.marks.now in
    let p : ℕ = c.args.p in
    let last : ℕ = c.args.last in
    let latest : ℕ = c.in-Some.latest in
    let at : c.get.result ≡ p = c.get.ensures.value in
    let up_to : All (λ check. check ≤ latest) (damaged_at marks p) =
    subst (λ (q : ℕ). All (λ check. check ≤ latest) (damaged_at marks q)) at
    c.in-Some.ensures.latest in
    let marked : IsTrue (is_damaged marks p latest) =
    subst (λ (q : ℕ). IsTrue (is_damaged marks q latest)) at c.in-Some.ensures.marked in (
      λ h k d l. omega (arith, up_to k d l, leb-true latest last h),
      λ all. le-leb latest last (found_within last latest (damaged_at marks p) all marked),
    )
