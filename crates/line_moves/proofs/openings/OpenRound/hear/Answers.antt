-- The channel from the sender is closed, now or before.
use Rattle.std.proofs.Common.{◌≡◌, ◌<◌, ℕ, true, false, List, Option, Some, length, get_or, set}
use Rattle.std.proofs.Common.{refl, sym, ap, ◌∙◌, subst, arith}
use Rattle.std.specs.Prelude.{IsTrue, MatchOption}
use Rattle.std.proofs.lemmas.Bool.{both_ways, true_from_ne_false}
use Rattle.line_rounds.specs.Recording.{MarkerView, RecordedRound, channel_at, round_of}
use Rattle.line_rounds.specs.Recording.{with_marker}
use Rattle.line_tape.specs.declared.events.Event.TheVariants.{Mark}
use Rattle.line_tape.specs.History.{Process, tape_at, with_event}
use Rattle.line_tape.specs.Rounds.{has_check_of}
use Rattle.line_rounds.specs.Turning.{TurningView}
use Rattle.line_moves.specs.Openings.{OpenView, marker_at, AreMarkers, IsRecording}
use Rattle.line_moves.proofs.OpenFacts.{IsRecording-heard, IsRecording-repeated, own_marker}
use Rattle.line_moves.proofs.RecordingLemmas.{recorded_round, recorded_there}
use Rattle.line_moves.proofs.ToComeLemmas.{kept-heard, AreMarkers-set, AreToCome-same}
use Rattle.line_moves.proofs.openings.OpenRound.hear.Goals as goal

pub returns-then-close_channel-clause-recording : goal.returns-then-close_channel-clause-recording
returns-then-close_channel-clause-recording c =
    let history : List Process = c.args.history.now.processes in
    let p : ℕ = c.args.p in
    let turning : TurningView = c.self.inside.turning in
    let r : ℕ = turning.number in
    let markers : List MarkerView = c.self.inside.markers.items in
    let number : r ≡ c.args.self.now.number = ap (λ (v : OpenView). v.number) c.self.view_is in
    let is : IsRecording history (record { number = r; checks = turning.checks; markers = markers })
    = subst (IsRecording history) (sym c.self.view_is) c.requires.recording in
    let are : AreMarkers (length turning.checks) markers = c.self.invariant.0 in
    let from : ℕ = c.args.from in
    let old : MarkerView = c.index_mut.result.now in
    let new : MarkerView = c.close_channel.new.self in
    let own : old
    ≡ marker_at markers p = own_marker history p turning markers c.requires.p are is old
    (c.index_mut.ensures.value ∙ ap (λ (i : ℕ). get_or markers i old) c.get.ensures.value) in
    let begun : has_check_of r (tape_at history p)
    ≡ true = ap (λ (v : ℕ). has_check_of v (tape_at history p)) number ∙ c.requires.begun in
    let floor : new.floor ≡ (marker_at markers p).floor = c.close_channel.ensures.same.floor_is ∙ ap
    (λ (m : MarkerView). m.floor) own in
    let told : c.number-number.result ≡ r = c.number-number.ensures in
    let after : OpenView = record
    { number = r; checks = turning.checks; markers = set markers c.get.result new } in
    let rounds : new.rounds ≡ with_marker old.rounds from c.number-number.result =
    c.close_channel.ensures.closed c.if-close_channel.true in
    subst (λ (v : ℕ). IsRecording (with_event history p (Mark from v)) after) number
    (IsRecording-heard history p turning markers c.requires.p are is from c.requires.from
    c.requires.other begun c.get.result new c.get.ensures.value floor
    (rounds ∙ ap (λ (v : ℕ). with_marker old.rounds from v) told ∙ ap
    (λ (m : MarkerView). with_marker m.rounds from r) own))

pub returns-else-close_channel-clause-recording : goal.returns-else-close_channel-clause-recording
returns-else-close_channel-clause-recording c =
    let history : List Process = c.args.history.now.processes in
    let p : ℕ = c.args.p in
    let turning : TurningView = c.self.inside.turning in
    let r : ℕ = turning.number in
    let markers : List MarkerView = c.self.inside.markers.items in
    let number : r ≡ c.args.self.now.number = ap (λ (v : OpenView). v.number) c.self.view_is in
    let is : IsRecording history (record { number = r; checks = turning.checks; markers = markers })
    = subst (IsRecording history) (sym c.self.view_is) c.requires.recording in
    let are : AreMarkers (length turning.checks) markers = c.self.invariant.0 in
    let from : ℕ = c.args.from in
    let old : MarkerView = c.index_mut.result.now in
    let new : MarkerView = c.close_channel.new.self in
    let own : old
    ≡ marker_at markers p = own_marker history p turning markers c.requires.p are is old
    (c.index_mut.ensures.value ∙ ap (λ (i : ℕ). get_or markers i old) c.get.ensures.value) in
    let begun : has_check_of r (tape_at history p)
    ≡ true = ap (λ (v : ℕ). has_check_of v (tape_at history p)) number ∙ c.requires.begun in
    let floor : new.floor ≡ (marker_at markers p).floor = c.close_channel.ensures.same.floor_is ∙ ap
    (λ (m : MarkerView). m.floor) own in
    let told : c.number-number.result ≡ r = c.number-number.ensures in
    let after : OpenView = record
    { number = r; checks = turning.checks; markers = set markers c.get.result new } in
    let rounds : new.rounds
    ≡ old.rounds = c.close_channel.ensures.unchanged c.if-close_channel.false in
    let round = recorded_round (length history) p r (tape_at history p) (marker_at markers p)
    (is.markers p c.requires.p) begun in
    let found : round_of old.rounds c.number-number.result ≡ Some round.round =
    ap (λ (m : MarkerView). round_of m.rounds c.number-number.result) own ∙ ap
    (λ (v : ℕ). round_of (marker_at markers p).rounds v) told ∙ recorded_there
    (length history) p r (tape_at history p) (marker_at markers p).rounds round in
    let closed : (channel_at round.round from).is_closed
    ≡ true = true_from_ne_false (channel_at round.round from).is_closed (λ unshut.
    both_ways c.close_channel.result c.if-close_channel.false
    (c.close_channel.ensures.first.1 (subst (λ (o : Option RecordedRound). MatchOption o ⊥
    (λ v. (channel_at v from).is_closed ≡ false)) (sym found) unshut))) in
    subst (λ (v : ℕ). IsRecording (with_event history p (Mark from v)) after) number
    (IsRecording-repeated history p turning markers c.requires.p are is from c.requires.from
    c.requires.other begun c.get.result new c.get.ensures.value floor
    (rounds ∙ ap (λ (m : MarkerView). m.rounds) own)
    (subst (λ (o : Option RecordedRound). MatchOption o ⊥
    (λ v. IsTrue (channel_at v from).is_closed)) (sym (recorded_there (length history) p r
    (tape_at history p) (marker_at markers p).rounds round)) closed))

pub invariant_of-self : goal.invariant_of-self
invariant_of-self c =
    let turning : TurningView = c.self.inside.turning in
    let markers : List MarkerView = c.self.inside.markers.items in
    let old : MarkerView = c.index_mut.result.now in
    let new : MarkerView = c.close_channel.new.self in
    let within : c.get.result < length markers = omega (
      arith,
      c.get.ensures.value,
      c.requires.p,
      c.self.invariant.0.count,
      c.requires.recording.turning.count,
      ap (λ (v : OpenView). length v.checks) c.self.view_is,
    )
    in
    kept-heard (length turning.checks) markers c.self.invariant.0 c.get.result old new within
    c.index_mut.ensures.value c.close_channel.ensures.same c.self.inside.to_come turning.number
    c.self.invariant.1
    (length turning.checks) turning.number refl refl c.saturating_sub-others.result c.args.from
    c.number-number.result c.saturating_sub-others.ensures
    (c.close_channel.ensures.closed c.if-close_channel.true)

pub invariant_of-self-else-close_channel : goal.invariant_of-self-else-close_channel
invariant_of-self-else-close_channel c =
    let turning : TurningView = c.self.inside.turning in
    let markers : List MarkerView = c.self.inside.markers.items in
    let old : MarkerView = c.index_mut.result.now in
    let new : MarkerView = c.close_channel.new.self in
    let within : c.get.result < length markers = omega (
      arith,
      c.get.ensures.value,
      c.requires.p,
      c.self.invariant.0.count,
      c.requires.recording.turning.count,
      ap (λ (v : OpenView). length v.checks) c.self.view_is,
    )
    in (
      AreMarkers-set (length turning.checks) markers c.self.invariant.0 c.get.result old new within
          c.index_mut.ensures.value c.close_channel.ensures.same,
      AreToCome-same
          (length turning.checks) markers c.self.invariant.0 c.get.result old new within
          c.index_mut.ensures.value c.close_channel.ensures.same c.self.inside.to_come
          turning.number c.self.invariant.1
          (c.close_channel.ensures.unchanged c.if-close_channel.false),
    )
