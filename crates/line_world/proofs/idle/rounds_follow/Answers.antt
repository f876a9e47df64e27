-- The events looked at grow by one, up to the whole tape.
use Rattle.std.proofs.Common.{◌≡◌, ◌++◌, ◌∷◌, ◌+◌, [], ℕ, List, take, sym, ◌∙◌, subst}
use Rattle.std.proofs.lemmas.Bool.{false≢true}
use Rattle.line_tape.specs.declared.events.Event.{Event}
use Rattle.line_tape.specs.Shown.{event_of_ref}
use Rattle.line_world.specs.Deliveries.{AreRoundsNoted, HasRoundsUpTo}
use Rattle.line_world.proofs.WalkLemmas.{next_at, rounds_from, take_event}
use Rattle.line_world.proofs.idle.rounds_follow.Goals as goal

pub returns-then-not-note_event-clause-value : goal.returns-then-not-note_event-clause-value
returns-then-not-note_event-clause-value c =
    let events : List Event = c.args.events.now in
    let i : ℕ = c.loop-i.i in (
      λ h. absurd (false≢true h),
      λ is. absurd (false≢true (sym c.if-not-note_event.true
          ∙ (c.note_event.ensures.next c.args.last (take i events) c.loop-i.invariant.noted).1
          (next_at c.args.last i events (event_of_ref c.at.result) c.at.ensures is))),
    )

pub loop-i-preserved : goal.loop-i-preserved
loop-i-preserved c =
    let events : List Event = c.args.events.now in
    let last : ℕ = c.args.last in
    let i : ℕ = c.loop-i.i in
    let e : Event = event_of_ref c.at.result in
    let more : take (i + 1) events ≡ take i events ++ e ∷ [] = take_event events i e c.at.ensures in
    record {
      count = c.note_event.ensures.count ∙ c.loop-i.invariant.count;
      noted = subst (λ (es : List Event). AreRoundsNoted last es c.note_event.new.flags.items)
          (sym more)
          (c.note_event.ensures.noted last
          (take i events) c.loop-i.invariant.noted c.if-not-note_event.false);
      follow = subst (HasRoundsUpTo last) (sym more)
          (rounds_from last (take i events) e c.loop-i.invariant.follow ((c.note_event.ensures.next
          last (take i events) c.loop-i.invariant.noted).0 c.if-not-note_event.false));
    }
