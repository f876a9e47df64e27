-- The tapes looked at grow by one.
use Rattle.std.proofs.Common.{◌≡◌, ◌<◌, ℕ, List, length, sym, ap, ◌∙◌, subst, arith}
use Rattle.std.proofs.lemmas.Bool.{false≢true}
use Rattle.std.proofs.lemmas.List.{take_all}
use borrow.Author.Count.{below_more}
use Rattle.line_names.specs.declared.choices.Choice.TheVariants.{Now}
use Rattle.line_tape.specs.declared.events.Event.{Event}
use Rattle.line_tape.specs.Front.{front}
use Rattle.line_tape.specs.History.{Process, tape_at}
use Rattle.line_world.specs.Deliveries.{HasRoundsUpTo}
use Rattle.line_world.proofs.idle.all_follow.Goals as goal

whole_tape : (tape events given : List Event) → events ≡ front given Now → given ≡ tape
    → events ≡ tape
whole_tape tape events given is same =
    is ∙ ap (λ (t : List Event). front t Now) same ∙ take_all (length tape) tape (omega arith)

pub returns-then-not-rounds_follow : goal.returns-then-not-rounds_follow
returns-then-not-rounds_follow c =
    let history : List Process = c.args.history.now.processes in
    let p : ℕ = c.unwrap-p.result in
    let at : p ≡ c.loop-i.i = (rw c.unwrap-p.ensures at c.try_new.ensures).1 in
    let is : c.front.result ≡ tape_at history p = whole_tape (tape_at history p) c.front.result
    c.tape.result.now.events c.front.ensures c.tape.ensures.events in
    let within : p < length history = omega
    (arith, at, c.loop-i-test.true, c.n-n.ensures.value) in (
      λ h. absurd (false≢true h),
      λ all. absurd (false≢true (sym c.if-not-rounds_follow.true ∙ c.rounds_follow.ensures.value.1
          (subst (HasRoundsUpTo c.args.last) (sym is) (all p within)))),
    )

pub loop-i-preserved : goal.loop-i-preserved
loop-i-preserved c =
    let history : List Process = c.args.history.now.processes in
    let last : ℕ = c.args.last in
    let p : ℕ = c.unwrap-p.result in
    let at : p ≡ c.loop-i.i = (rw c.unwrap-p.ensures at c.try_new.ensures).1 in
    let is : c.front.result ≡ tape_at history p = whole_tape (tape_at history p) c.front.result
    c.tape.result.now.events c.front.ensures c.tape.ensures.events in
    let here : HasRoundsUpTo last (tape_at history p) = subst (HasRoundsUpTo last) is
    (c.rounds_follow.ensures.value.0 c.if-not-rounds_follow.false) in
    record {
      count = c.rounds_follow.ensures.count ∙ c.loop-i.invariant.count;
      follow = below_more
          (λ (q : ℕ). HasRoundsUpTo last (tape_at history q)) c.loop-i.i c.loop-i.invariant.follow
          (subst (λ (q : ℕ). HasRoundsUpTo last (tape_at history q)) at here);
    }
