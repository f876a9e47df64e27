-- It is enough to look at the processes that there are.
use Rattle.std.proofs.Common.{◌≡◌, ◌<◌, ◌≤◌, ℕ, List, length, All, IfSome, refl, sym, ap, ◌∙◌}
use Rattle.std.proofs.Common.{subst, arith, inl, inr}
use Rattle.std.specs.Prelude.{Option, None}
use Rattle.std.proofs.lemmas.Bool.{cases_lt, false≢true}
use Rattle.std.proofs.lemmas.List.{get_or_past}
use borrow.Author.Count.{below_more}
use Rattle.line_tape.specs.Event.{checks}
use Rattle.line_tape.specs.History.{Process, tape_at}
use Rattle.line_tape.specs.Views.{MarksView, bar_at, damaged_at}
use Rattle.line_catalogue.proofs.CatalogueLemmas.{AreOnChecks-below}
use Rattle.line_catalogue.proofs.agreement.are_on_checks.Goals as goal

-- the marks and the bar of process p are up to check `last`
abbrev AreWithin : MarksView → ℕ → ℕ → Type 0
AreWithin marks p last = All (λ check. check ≤ last) (damaged_at marks p)
    × IfSome (bar_at marks p) (λ check. check ≤ last)

pub loop-q-preserved : goal.loop-q-preserved
loop-q-preserved c =
    let history : List Process = c.args.history.now.processes in
    let marks : MarksView = c.args.marks.now in
    let p : ℕ = c.unwrap-p.result in
    let at : p ≡ c.loop-q.q = (rw c.unwrap-p.ensures at c.try_new.ensures).1 in
    let last : c.checks-last.result ≡ checks
    (tape_at history p) = c.checks-last.ensures.value ∙ ap checks c.tape.ensures.events in
    let here : AreWithin marks p c.checks-last.result = c.are_within.ensures.0
    c.if-not-are_within.false in
    below_more (λ (q : ℕ). AreWithin marks q (checks (tape_at history q))) c.loop-q.q
    c.loop-q.invariant
    (subst (λ (q : ℕ). AreWithin marks q (checks (tape_at history q))) at
    (subst (AreWithin marks p) last here))

pub returns-then-not-are_within : goal.returns-then-not-are_within
returns-then-not-are_within c =
    let history : List Process = c.args.history.now.processes in
    let p : ℕ = c.unwrap-p.result in
    let last : c.checks-last.result ≡ checks
    (tape_at history p) = c.checks-last.ensures.value ∙ ap checks c.tape.ensures.events in (
      λ h. absurd (false≢true h),
      λ on. absurd (false≢true (sym c.if-not-are_within.true
          ∙ c.are_within.ensures.1
          (subst (AreWithin c.args.marks.now p) (sym last) (on.each p, on.bars p)))),
    )

pub returns : goal.returns
returns c =
    let history : List Process = c.args.history.now.processes in
    let marks : MarksView = c.args.marks.now in
    let count : length marks.damaged ≡ length history = c.requires in
    let long : length marks.bars ≡ length history = c.processes-count.ensures.bars ∙ count in
    let past : length history ≤ c.loop-q.q = omega
    (arith, c.loop-q-test.false, c.n-n.ensures.value) in
    let within : (q : ℕ) → q < length history → AreWithin marks q
    (checks (tape_at history q)) = λ q h. c.loop-q.invariant q (omega (arith, past)) in (
      λ h. AreOnChecks-below history marks count (λ q. elim (cases_lt q (length history)) [
        | inl inside ↦ (within q inside).1
        | inr beyond ↦ subst (λ (bar : Option ℕ). IfSome bar (λ check. check ≤ checks
            (tape_at history q))) (sym (get_or_past marks.bars q None (omega (arith, long)))) tt
      ]) (λ q inside. (within q inside).0),
      λ on. refl,
    )
