-- Its channel from the sender is closed and empty, and the others are open.
use Rattle.std.proofs.Common.{◌≡◌, ◌<◌, ℕ, ◌+◌, false, List, length, get_or, set, Some, sym, ap}
use Rattle.std.proofs.Common.{◌∙◌, subst, arith}
use Rattle.line_rounds.specs.Recording.{MarkerView, with_marker, with_round}
use Rattle.line_tape.specs.declared.events.Event.TheVariants.{Check, Mark}
use Rattle.line_tape.specs.Event.{checks}
use Rattle.line_tape.specs.History.{Process, tape_at, with_event}
use Rattle.line_tape.specs.Rounds.{has_check_of}
use Rattle.line_rounds.specs.Turning.{TurningView, IsTurning}
use Rattle.line_moves.specs.Openings.{OpenView, marker_at, AreMarkers, IsRecording}
use Rattle.line_moves.proofs.OpenFacts.{IsRecording-forced, own_marker}
use Rattle.line_moves.proofs.RecordingLemmas.{recorded_none}
use Rattle.line_moves.proofs.ToComeLemmas.{kept-forced}
use Rattle.line_moves.proofs.openings.OpenRound.force.Goals as goal

pub returns-clause-recording : goal.returns-clause-recording
returns-clause-recording c = λ state.
    let history : List Process = c.args.history.now.processes in
    let p : ℕ = c.args.p in
    let turning : TurningView = c.self.inside.turning in
    let r : ℕ = turning.number in
    let markers : List MarkerView = c.self.inside.markers.items in
    let number : r ≡ c.args.self.now.number = ap (λ (v : OpenView). v.number) c.self.view_is in
    let is : IsRecording history (record { number = r; checks = turning.checks; markers = markers })
    = subst (IsRecording history) (sym c.self.view_is) c.requires.recording in
    let are : AreMarkers (length turning.checks) markers = c.self.invariant.0 in
    let from : ℕ = c.args.from in
    let old : MarkerView = c.index_mut.result.now in
    let new : MarkerView = c.force.new.self in
    let own : old
    ≡ marker_at markers p = own_marker history p turning markers c.requires.p are is old
    (c.index_mut.ensures.value ∙ ap (λ (i : ℕ). get_or markers i old) c.get.ensures.value) in
    let none : has_check_of r (tape_at history p)
    ≡ false = ap (λ (v : ℕ). has_check_of v (tape_at history p)) number ∙ c.requires.first in
    let told : c.number-number.result ≡ r = c.number-number.ensures ∙ c.check.ensures.number in
    let follows : IsTurning (with_event history p (Check state (Some r))) c.check.new.self =
    c.check.ensures.turning history state is.turning none
    (ap (λ (v : ℕ). v + 1) (c.checks.ensures.value ∙ ap checks c.tape.ensures.events)) in
    let after : OpenView = record {
      number = c.check.new.self.number;
      checks =
          c.check.new.self.checks;
      markers = set markers c.get.result new;
    } in
    subst (λ (v : ℕ). IsRecording
    (with_event (with_event history p (Check state (Some v))) p (Mark from v)) after) number
    (IsRecording-forced history p turning markers c.requires.p are is state c.check.new.self
    c.check.ensures.number follows none c.get.result c.get.ensures.value new
    (c.force.ensures.same.floor_is ∙ ap (λ (m : MarkerView). m.floor) own) from c.requires.from
    c.requires.other
    (c.force.ensures.forced ∙ ap
    (λ (v : ℕ). with_marker (with_round old.rounds old.n v) from v) told
    ∙ ap (λ (m : MarkerView). with_marker (with_round m.rounds m.n r) from r) own))

pub force-requires-clause-first : goal.force-requires-clause-first
force-requires-clause-first c =
    let history : List Process = c.args.history.now.processes in
    let p : ℕ = c.args.p in
    let turning : TurningView = c.self.inside.turning in
    let markers : List MarkerView = c.self.inside.markers.items in
    let r : ℕ = turning.number in
    let number : r ≡ c.args.self.now.number = ap (λ (v : OpenView). v.number) c.self.view_is in
    let is : IsRecording history (record { number = r; checks = turning.checks; markers = markers })
    = subst (IsRecording history) (sym c.self.view_is) c.requires.recording in
    let old : MarkerView = c.index_mut.result.now in
    let own : old
    ≡ marker_at markers p = own_marker history p turning markers c.requires.p c.self.invariant.0
    is old (c.index_mut.ensures.value ∙ ap
    (λ (i : ℕ). get_or markers i old) c.get.ensures.value) in
    let none : has_check_of r (tape_at history p)
    ≡ false = ap (λ (v : ℕ). has_check_of v (tape_at history p)) number ∙ c.requires.first in
    ap (λ (m : MarkerView). m.rounds) own ∙ recorded_none (length history) p r (tape_at history p)
    (marker_at markers p) (is.markers p c.requires.p) none

pub invariant_of-self : goal.invariant_of-self
invariant_of-self c =
    let turning : TurningView = c.self.inside.turning in
    let markers : List MarkerView = c.self.inside.markers.items in
    let old : MarkerView = c.index_mut.result.now in
    let new : MarkerView = c.force.new.self in
    let within : c.get.result < length markers = omega (
      arith,
      c.get.ensures.value,
      c.requires.p,
      c.self.invariant.0.count,
      c.requires.recording.turning.count,
      ap (λ (v : OpenView). length v.checks) c.self.view_is,
    )
    in
    kept-forced (length turning.checks) markers c.self.invariant.0 c.get.result old new within
    c.index_mut.ensures.value c.force.ensures.same c.self.inside.to_come turning.number
    c.self.invariant.1
    (length c.check.new.self.checks) c.check.new.self.number c.check.ensures.count
    c.check.ensures.number c.saturating_sub-self-inside.result old.n c.args.from
    c.number-number.result c.saturating_sub-self-inside.ensures c.force.ensures.forced
