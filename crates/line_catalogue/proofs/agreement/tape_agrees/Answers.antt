-- The events looked at grow by one, up to the whole tape.
use Rattle.std.proofs.Common.{◌≡◌, ◌<◌, ℕ, List, length, get_or, refl, sym, ap, ◌∙◌, subst, arith}
use Rattle.std.specs.List.{All}
use Rattle.std.proofs.lemmas.List.{take_all}
use Rattle.std.proofs.lemmas.List.Elements.{All-more}
use Rattle.std.proofs.lemmas.Option.{get_or_from_slice_get, slice_get_within}
use Rattle.line_names.specs.declared.choices.Choice.TheVariants.{Now}
use Rattle.line_tape.specs.declared.events.Event.{Event}
use Rattle.line_tape.specs.Front.{front}
use Rattle.line_tape.specs.History.{Process, tape_at}
use Rattle.line_tape.specs.Shown.{event_of_ref}
use Rattle.line_catalogue.specs.Agreement.{EventAgrees}
use Rattle.line_catalogue.proofs.agreement.tape_agrees.Goals as goal

pub loop-i-preserved : goal.loop-i-preserved
loop-i-preserved c =
    let events : List Event = c.front-events.result in
    let i : ℕ = c.loop-i.i in
    let item : Event = event_of_ref c.at.result in
    let history : List Process = c.args.history.now.processes in
    let here : EventAgrees history item = c.event_agrees.ensures.0 c.if-not-event_agrees.false in
    let within : i < length events = slice_get_within events i item c.at.ensures in
    let is : item ≡ get_or events i item =
    sym (get_or_from_slice_get events i item item c.at.ensures)
    in
    All-more (EventAgrees history) events i item within c.loop-i.invariant
    (subst (EventAgrees history) is here)

pub returns : goal.returns
returns c =
    let events : List Event = c.front-events.result in
    let tape : List Event = tape_at c.args.history.now.processes c.args.p in
    let whole : events ≡ tape = c.front-events.ensures ∙ ap (λ (t : List Event). front t Now)
    c.tape.ensures.events ∙ take_all (length tape) tape (omega arith) in (
      λ h. subst (All (EventAgrees c.args.history.now.processes))
          (take_all c.loop-i.i events (omega arith) ∙ whole) c.loop-i.invariant,
      λ h. refl,
    )
