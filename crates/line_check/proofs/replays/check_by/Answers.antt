-- As many are right as were found in order; where these are all, one may be missing.
use Rattle.std.proofs.Common.{◌≡◌, ◌+◌, ◌≤◌, ◌++◌, ℕ, List, [], length, take, drop, sym, ap, ◌∙◌}
use Rattle.std.proofs.Common.{subst, refl, arith}
use Rattle.std.proofs.lemmas.Bool.{false≢true}
use Rattle.std.proofs.lemmas.List.{append-nil, take_all, drop_all}
use Rattle.std.proofs.lemmas.Option.{slice_get_read}
use Rattle.line_check.specs.declared.answers.Replay.{Replay}
use Rattle.line_check.specs.Answers.{replays_due}
use Rattle.line_check.specs.Faults.{ArePartOf, wrong, missing}
use Rattle.line_check.proofs.CursorLemmas.{few-due}
use Rattle.line_check.proofs.MatchLemmas.{found-part, found-most, found-all, front-part}
use Rattle.line_check.proofs.replays.check_by.Goals as goal

pub overflow_cast-result : goal.overflow_cast-result
overflow_cast-result c =
    omega (
      arith,
      c.find_replays-found.ensures.among,
      few-due c.args.history.now.processes
          c.args.line.now c.n-n.ensures.limits,
      c.n-n.ensures.limits.few,
    )

pub returns-then-found-replays-clause-ok : goal.returns-then-found-replays-clause-ok
returns-then-found-replays-clause-ok c = (
  λ h. absurd (false≢true h),
  λ same.
      let due : List Replay = replays_due c.args.history.now.processes c.args.line.now in
      let k : ℕ = c.find_replays-found.result.found in
      let part : ArePartOf (take (k + 1) c.args.replays.now) due = subst
      (λ (xs : List Replay). ArePartOf (take (k + 1) c.args.replays.now) xs) same
      (front-part (k + 1) c.args.replays.now) in
      absurd (found-most due c.args.replays.now k c.if-found-replays.true
      c.find_replays-found.ensures.left part),
)

pub returns-then-found-replays-clause-fault : goal.returns-then-found-replays-clause-fault
returns-then-found-replays-clause-fault c =
    let due : List Replay = replays_due c.args.history.now.processes c.args.line.now in
    let k : ℕ = c.find_replays-found.result.found in
    wrong k c.index-replays-found.result refl
    (found-part due c.args.replays.now k c.find_replays-found.ensures.left)
    (slice_get_read c.args.replays.now _ k c.index-replays-found.result refl c.if-found-replays.true
    c.index-replays-found.is)
    (c.fault_of_replay.ensures (take (k + 1) c.args.replays.now) (found-most due c.args.replays.now
    k c.if-found-replays.true c.find_replays-found.ensures.left))

pub returns-then-not-whole-clause-fault : goal.returns-then-not-whole-clause-fault
returns-then-not-whole-clause-fault c =
    let due : List Replay = replays_due c.args.history.now.processes c.args.line.now in
    let k : ℕ = c.find_replays-found.result.found in
    let all : length c.args.replays.now ≤ k = omega (arith, c.if-found-replays.false) in
    missing refl
    (subst (λ (xs : List Replay). ArePartOf xs due) (take_all k c.args.replays.now all)
    (found-part due c.args.replays.now k c.find_replays-found.ensures.left))
    (λ same. false≢true (sym c.if-not-whole.true ∙ c.find_replays-found.ensures.whole.1
    (omega (arith, ap length same, all, c.find_replays-found.ensures.within))))

pub returns-clause-ok : goal.returns-clause-ok
returns-clause-ok c = (
  λ h.
      let due : List Replay = replays_due c.args.history.now.processes c.args.line.now in
      let k : ℕ = c.find_replays-found.result.found in
      let all : length c.args.replays.now ≤ k = omega (arith, c.if-found-replays.false) in
      let none : drop k c.args.replays.now ≡ [] = drop_all k c.args.replays.now all in
      let counted : length due + length (drop k c.args.replays.now)
      ≡ length c.args.replays.now = omega (
        arith,
        ap length none,
        c.find_replays-found.ensures.whole.0 c.if-not-whole.false,
        all,
        c.find_replays-found.ensures.within,
      ) in
      found-all due c.args.replays.now (drop k c.args.replays.now) c.find_replays-found.ensures.left
      counted ∙ ap (λ (xs : List Replay). due ++ xs) none ∙ append-nil due,
  λ h. refl,
)
