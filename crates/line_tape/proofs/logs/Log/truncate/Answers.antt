-- The bytes and states of the events that go are the last ones.
use Rattle.std.proofs.Common.{◌≡◌, ◌-◌, ℕ, List, length, map, take, drop, sym, ap, ◌∙◌, arith}
use Rattle.std.proofs.lemmas.List.{take-append-drop, take_rest}
use Rattle.line_tape.specs.declared.events.Event.{Event}
use Rattle.line_tape.specs.declared.logs.KeptEvent.{KeptEvent}
use Rattle.line_tape.specs.Laid.{event_from_kept, first_byte, first_state}
use Rattle.line_tape.specs.Views.{LogView}
use Rattle.line_tape.proofs.LaidLemmas.{IsLog, events_of_first, first-state-within, more-gone}
use Rattle.line_tape.proofs.logs.Log.truncate.Goals as goal

pub states_before-states-requires : goal.states_before-states-requires
states_before-states-requires c =
    let events : List KeptEvent = c.self.inside.events.items in
    let bodies : List ℕ = c.self.inside.bodies.items in
    let states : List (List ℕ) = c.self.inside.states.items in
    let gone : List KeptEvent = drop c.args.end events in
    let slice : List KeptEvent = c.deref.result.now in
    let rest : take (length slice - c.args.end) (drop c.args.end slice) ≡ gone = take_rest slice
    c.args.end ∙ ap (λ (xs : List KeptEvent). drop c.args.end xs) c.deref.ensures.value in
    let many : c.len-3.result
    ≡ length states = omega (arith, c.len-3.ensures, c.self.inside.states.ok.0) in
    rw (rest, many) (first-state-within events bodies states c.self.invariant
    (take c.args.end events) gone (sym (take-append-drop c.args.end events)))

left : (c : goal.After-truncate-3)
    → IsLog c.truncate-3.new.self.items c.truncate.new.self.items c.truncate-2.new.self.items
    (map (event_from_kept c.self.inside.bodies.items c.self.inside.states.items)
    (take c.args.end c.self.inside.events.items))
left c =
    let events : List KeptEvent = c.self.inside.events.items in
    let bodies : List ℕ = c.self.inside.bodies.items in
    let states : List (List ℕ) = c.self.inside.states.items in
    let gone : List KeptEvent = drop c.args.end events in
    let slice : List KeptEvent = c.deref.result.now in
    let rest : take (length slice - c.args.end) (drop c.args.end slice) ≡ gone = take_rest slice
    c.args.end ∙ ap (λ (xs : List KeptEvent). drop c.args.end xs) c.deref.ensures.value in
    let bytes : c.len-2.result
    ≡ length bodies = omega (arith, c.len-2.ensures, c.self.inside.bodies.ok.0) in
    let many : c.len-3.result
    ≡ length states = omega (arith, c.len-3.ensures, c.self.inside.states.ok.0) in
    let byte : c.bytes_before-bytes.result
    ≡ first_byte gone (length bodies) = c.bytes_before-bytes.ensures ∙ ap (λ (xs : List
    KeptEvent). first_byte xs c.len-2.result) rest ∙ ap (λ (n : ℕ). first_byte gone n) bytes in
    let state : c.states_before-states.result
    ≡ first_state gone (length states) = c.states_before-states.ensures ∙ ap (λ (xs : List
    KeptEvent). first_state xs c.len-3.result) rest ∙ ap (λ (n : ℕ). first_state gone n) many in
    rw (
      c.truncate-3.ensures.items,
      c.truncate.ensures.items,
      c.truncate-2.ensures.items,
      byte,
      state,
    ) (more-gone events bodies states c.self.invariant (take c.args.end events) gone
    (sym (take-append-drop c.args.end events)))

pub invariant_of-self : goal.invariant_of-self
invariant_of-self c = (left c).laid

pub returns-clause-events : goal.returns-clause-events
returns-clause-events c =
    let seen : map
    (event_from_kept c.self.inside.bodies.items c.self.inside.states.items)
    c.self.inside.events.items ≡ c.args.self.now.events =
    ap (λ (l : LogView). l.events) c.self.view_is in
    (left c).shows ∙ events_of_first c.self.inside.bodies.items c.self.inside.states.items
    c.self.inside.events.items c.args.end ∙ ap (λ (es : List Event). take c.args.end es) seen
