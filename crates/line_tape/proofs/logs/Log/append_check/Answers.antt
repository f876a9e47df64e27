-- The check is kept behind the others, with its bytes or its state behind theirs.
use Rattle.std.proofs.Common.{◌≡◌, ◌<◌, ◌≤◌, ℕ, List, [], ◌∷◌, ◌++◌, length, map, sym, ap, arith}
use Rattle.std.proofs.Common.{rules}
use Rattle.std.proofs.lemmas.List.{length-map}
use Rattle.line_names.specs.declared.limits.TheConstants.{MOST_BODY}
use Rattle.line_tape.specs.declared.events.Event.TheVariants.{Check}
use Rattle.line_tape.specs.declared.logs.KeptEvent.{KeptEvent}
use Rattle.line_tape.specs.declared.limits.TheConstants.{MOST_EVENTS}
use Rattle.line_tape.specs.Laid.{event_from_kept}
use Rattle.line_tape.specs.Views.{LogView}
use Rattle.line_tape.proofs.LaidLemmas.{IsLog, Reaches, laid-reaches, check-added, large-added}
use Rattle.line_tape.proofs.logs.Log.append_check.Goals as goal

pub overflow_cast-kept : goal.overflow_cast-kept
overflow_cast-kept c =
    let few : length c.self.inside.events.items < MOST_EVENTS = omega (
      arith,
      length-map c.self.inside.events.items
          (event_from_kept c.self.inside.bodies.items c.self.inside.states.items),
      ap
          (λ (l : LogView). length l.events) c.self.view_is,
      c.requires.few,
    ) in
    let far : Reaches c.self.inside.events.items 0 0 (length c.self.inside.bodies.items)
    (length c.self.inside.states.items) = laid-reaches c.self.inside.events.items 0 0
    (length c.self.inside.bodies.items) (length c.self.inside.states.items) c.self.invariant in
    omega (arith, few, far.few, c.len.ensures, c.self.inside.bodies.ok.0)

pub overflow_cast-before : goal.overflow_cast-before
overflow_cast-before c =
    let few : length c.self.inside.events.items < MOST_EVENTS = omega (
      arith,
      length-map c.self.inside.events.items
          (event_from_kept c.self.inside.bodies.items c.self.inside.states.items),
      ap
          (λ (l : LogView). length l.events) c.self.view_is,
      c.requires.few,
    ) in
    let far : Reaches c.self.inside.events.items 0 0 (length c.self.inside.bodies.items)
    (length c.self.inside.states.items) = laid-reaches c.self.inside.events.items 0 0
    (length c.self.inside.bodies.items) (length c.self.inside.states.items) c.self.invariant in
    omega (arith, few, far.fewer, c.len-before.ensures, c.self.inside.states.ok.0)

small : (c : goal.After-drop-state-inside)
    → IsLog c.push_reserved.new.self.items c.extend_from_slice.new.self.items
    c.self.inside.states.items (c.args.self.now.events ++ Check c.args.state c.args.round ∷ [])
small c =
    let events : List KeptEvent = c.self.inside.events.items in
    let bodies : List ℕ = c.self.inside.bodies.items in
    let states : List (List ℕ) = c.self.inside.states.items in
    let seen : c.args.self.now.events ≡ map (event_from_kept bodies states) events = sym
    (ap (λ (l : LogView). l.events) c.self.view_is) in
    let start : c.len.result
    ≡ length bodies = omega (arith, c.len.ensures, c.self.inside.bodies.ok.0) in
    let bytes : c.bytes-small.result.now ≡ c.args.state = c.bytes-small.ensures in
    let pushed : c.extend_from_slice.new.self.items
    ≡ bodies ++ c.bytes-small.result.now = search rules in
    let short : length c.args.state ≤ MOST_BODY = omega
    (arith, ap (λ (xs : List ℕ). length xs) bytes, c.if-small-le-MOST_BODY.true) in
    rw (
      c.push_reserved.ensures.items,
      pushed,
      start,
      c.unwrap_or.ensures,
      c.is_some.ensures,
      bytes,
      seen,
    ) (check-added events bodies states c.self.invariant c.args.state c.args.round short)

large : (c : goal.After-push_reserved-else-small-le-MOST_BODY-2)
    → IsLog c.push_reserved-else-small-le-MOST_BODY.new.self.items c.self.inside.bodies.items
    c.push_reserved-else-small-le-MOST_BODY-2.new.self.items
    (c.args.self.now.events ++ Check c.args.state c.args.round ∷ [])
large c =
    let events : List KeptEvent = c.self.inside.events.items in
    let bodies : List ℕ = c.self.inside.bodies.items in
    let states : List (List ℕ) = c.self.inside.states.items in
    let seen : c.args.self.now.events ≡ map (event_from_kept bodies states) events = sym
    (ap (λ (l : LogView). l.events) c.self.view_is) in
    let before : c.len-before.result
    ≡ length states = omega (arith, c.len-before.ensures, c.self.inside.states.ok.0) in
    rw (
      c.push_reserved-else-small-le-MOST_BODY.ensures.items,
      c.push_reserved-else-small-le-MOST_BODY-2.ensures.items,
      before,
      seen,
    )
    (large-added events bodies states c.self.invariant c.args.state c.args.round)

pub invariant_of-self : goal.invariant_of-self
invariant_of-self c = (small c).laid

pub invariant_of-self-else-small-le-MOST_BODY : goal.invariant_of-self-else-small-le-MOST_BODY
invariant_of-self-else-small-le-MOST_BODY c = (large c).laid

pub returns-then-small-le-MOST_BODY-clause-events :
    goal.returns-then-small-le-MOST_BODY-clause-events
returns-then-small-le-MOST_BODY-clause-events c = (small c).shows

pub returns-else-small-le-MOST_BODY-clause-events :
    goal.returns-else-small-le-MOST_BODY-clause-events
returns-else-small-le-MOST_BODY-clause-events c = (large c).shows
