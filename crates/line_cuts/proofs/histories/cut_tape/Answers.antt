-- The tape grows by what is left of each event.
use Rattle.std.proofs.Common.{◌≡◌, ◌<◌, ◌≤◌, ◌++◌, ◌∷◌, [], ℕ, List, length, drop, get_or, refl}
use Rattle.std.proofs.Common.{sym, ap, ◌∙◌, subst, arith}
use Rattle.std.proofs.lemmas.List.{append-nil, drop_all, take_all}
use Rattle.std.proofs.lemmas.Option.{get_or_from_slice_get, slice_get_within}
use Rattle.line_names.specs.declared.choices.Choice.TheVariants.{Now}
use Rattle.line_tape.specs.declared.events.Event.{Event}
use Rattle.line_tape.specs.declared.events.Event.TheVariants.{Send, Recv, Check, Mark}
use Rattle.line_tape.specs.Event.{sends, IsShort, NamesBelow}
use Rattle.line_tape.specs.Front.{front}
use Rattle.line_tape.specs.History.{tape_at}
use Rattle.line_tape.specs.Shown.{event_of_ref}
use Rattle.line_cuts.specs.Cuts.{cut_events, cut_tape}
use Rattle.line_cuts.specs.Left.{AddsLeft}
use Rattle.line_cuts.proofs.AddedLemmas.{tape_next}
use Rattle.line_cuts.proofs.histories.cut_tape.Goals as goal

pub loop-i-init : goal.loop-i-init
loop-i-init c =
    let events : List Event = c.front-events.result in
    record {
      process = refl;
      tape = ap (λ (xs : List Event). xs
          ++ cut_events c.args.floor.now c.args.p 0 c.check.result events) c.requires.empty
          ∙ ap (λ (s : ℕ). cut_events c.args.floor.now c.args.p 0 s events) c.check.ensures;
      few = omega (arith, ap (λ (xs : List Event). length xs) c.requires.empty);
      number = omega arith;
      count = refl;
      incarnation = refl;
      others = λ q apart. refl;
    }

pub loop-i-preserved : goal.loop-i-preserved
loop-i-preserved c =
    let l = c.loop-i in
    let item : Event = event_of_ref c.at-event.result in
    let adds = subst
    (λ (p : ℕ). AddsLeft c.args.floor.now p l.place.number l.place.skip item l.cut.processes
    c.add_left.new.cut.processes) l.invariant.process c.in_ok-add_left.ensures in
    let few : sends (item ∷ []) ≤ 1 = one_send item in
    record {
      process = c.after-place.ensures.process ∙ l.invariant.process;
      tape = tape_next c.args.floor.now c.args.p l.i l.place.number l.place.skip _ _
          c.front-events.result _ item l.cut.processes _ c.at-event.ensures adds
          c.after-place.ensures.number c.after-place.ensures.skip l.invariant.tape;
      few = omega (arith, adds.few, l.invariant.few);
      number = omega (arith, few, c.after-place.ensures.number, l.invariant.number);
      count = adds.count ∙ l.invariant.count;
      incarnation = adds.incarnation ∙ l.invariant.incarnation;
      others = λ q apart. adds.others q apart ∙ l.invariant.others q apart;
    }
  where
    one_send : (item : Event) → sends (item ∷ []) ≤ 1
    one_send (Send to inc body) = omega arith
    one_send (Recv message) = omega arith
    one_send (Check state round) = omega arith
    one_send (Mark from round) = omega arith

pub add_left-requires : goal.add_left-requires
add_left-requires c =
    let l = c.loop-i in
    let tape : List Event = tape_at c.args.history.now.processes c.args.p in
    let events : List Event = c.front-events.result in
    let whole : events ≡ tape = c.front-events.ensures ∙ ap (λ (t : List Event). front t Now)
    c.tape.ensures.events ∙ take_all (length tape) tape (omega arith) in
    let item : Event = event_of_ref c.at-event.result in
    let within : l.i < length events = slice_get_within events l.i item c.at-event.ensures in
    let inside : l.i < length tape = omega (arith, ap (λ (xs : List Event). length xs) whole) in
    let is : get_or tape l.i item ≡ item = ap (λ (xs : List Event). get_or xs l.i item)
    (sym whole) ∙ get_or_from_slice_get events l.i item item c.at-event.ensures in
    let count : length c.args.history.now.processes
    ≡ length l.cut.processes = sym (l.invariant.count ∙ c.requires.count) in
    record {
      process = omega (arith, c.requires.process, count, l.invariant.process);
      named = subst (λ (n : ℕ). NamesBelow n item) count (subst (NamesBelow
          (length c.args.history.now.processes)) is (c.tape.ensures.limits.named l.i item inside));
      short = subst IsShort is (c.tape.ensures.limits.tape.short l.i item inside);
      few = omega (
        arith,
        l.invariant.few,
        inside,
        c.tape.ensures.limits.tape.few,
        ap
            (λ (p : ℕ). length (tape_at l.cut.processes p)) l.invariant.process,
      );
    }

pub returns : goal.returns
returns c =
    let l = c.loop-i in
    let tape : List Event = tape_at c.args.history.now.processes c.args.p in
    let events : List Event = c.front-events.result in
    let whole : events ≡ tape = c.front-events.ensures ∙ ap (λ (t : List Event). front t Now)
    c.tape.ensures.events ∙ take_all (length tape) tape (omega arith) in
    let none : drop l.i events ≡ [] = drop_all l.i events (omega arith) in
    record {
      count = l.invariant.count;
      tape = sym (append-nil (tape_at l.cut.processes c.args.p))
          ∙ ap (λ (xs : List Event). tape_at l.cut.processes c.args.p
          ++ cut_events c.args.floor.now c.args.p l.place.number l.place.skip xs) (sym none)
          ∙ l.invariant.tape ∙ ap (cut_tape c.args.floor.now c.args.p) whole;
      incarnation = l.invariant.incarnation;
      others = l.invariant.others;
    }
