-- The message is on the channel from its sender, if that is open.
use Rattle.std.proofs.Common.{◌≡◌, ◌<◌, ℕ, List, length, get_or, sym, ap, ◌∙◌, subst, arith}
use Rattle.std.proofs.lemmas.Result.{on_err_weaker, on_ok_weaker}
use Rattle.line_rounds.specs.Recording.{MarkerView}
use Rattle.line_tape.specs.History.{Process}
use Rattle.line_rounds.specs.Turning.{TurningView}
use Rattle.line_moves.specs.Openings.{OpenView, marker_at, AreMarkers, IsRecording}
use Rattle.line_rounds.specs.Recording.{rounds_with_message}
use Rattle.line_moves.proofs.OpenFacts.{IsRecording-noted, IsRecording-same, either_way, own_marker}
use Rattle.line_moves.proofs.ToComeLemmas.{AreMarkers-set, AreToCome-noted, AreToCome-same}
use Rattle.line_moves.proofs.openings.OpenRound.note.Goals as goal

pub returns-clause-ok : goal.returns-clause-ok
returns-clause-ok c =
    let history : List Process = c.args.history.now.processes in
    let p : ℕ = c.args.p in
    let turning : TurningView = c.self.inside.turning in
    let r : ℕ = turning.number in
    let markers : List MarkerView = c.self.inside.markers.items in
    let number : r ≡ c.args.self.now.number = ap (λ (v : OpenView). v.number) c.self.view_is in
    let is : IsRecording history (record { number = r; checks = turning.checks; markers = markers })
    = subst (IsRecording history) (sym c.self.view_is) c.requires.recording in
    let are : AreMarkers (length turning.checks) markers = c.self.invariant.0 in
    let old : MarkerView = c.index_mut.result.now in
    let new : MarkerView = c.note.new.self in
    let own : old
    ≡ marker_at markers p = own_marker history p turning markers c.requires.p are is old
    (c.index_mut.ensures.value ∙ ap (λ (i : ℕ). get_or markers i old) c.get.ensures.value) in
    on_ok_weaker c.note.result
    (λ rounds. IsRecording-noted history p turning markers c.requires.p are is
    c.args.message.now c.get.result new c.requires.from c.requires.other c.get.ensures.value
    (c.note.ensures.same.floor_is ∙ ap (λ (m : MarkerView). m.floor) own) (rounds ∙ ap (λ
    (m : MarkerView). rounds_with_message m.rounds c.args.message.now) own)) c.note.ensures.ok

pub returns-clause-err : goal.returns-clause-err
returns-clause-err c =
    let history : List Process = c.args.history.now.processes in
    let p : ℕ = c.args.p in
    let turning : TurningView = c.self.inside.turning in
    let r : ℕ = turning.number in
    let markers : List MarkerView = c.self.inside.markers.items in
    let number : r ≡ c.args.self.now.number = ap (λ (v : OpenView). v.number) c.self.view_is in
    let is : IsRecording history (record { number = r; checks = turning.checks; markers = markers })
    = subst (IsRecording history) (sym c.self.view_is) c.requires.recording in
    let are : AreMarkers (length turning.checks) markers = c.self.invariant.0 in
    let old : MarkerView = c.index_mut.result.now in
    let new : MarkerView = c.note.new.self in
    let own : old
    ≡ marker_at markers p = own_marker history p turning markers c.requires.p are is old
    (c.index_mut.ensures.value ∙ ap (λ (i : ℕ). get_or markers i old) c.get.ensures.value) in
    on_err_weaker c.note.result (λ rounds. IsRecording-same history p turning markers c.requires.p
    are is c.get.result new c.get.ensures.value
    (c.note.ensures.same.floor_is ∙ ap (λ (m : MarkerView). m.floor) own)
    (rounds ∙ ap (λ (m : MarkerView). m.rounds) own)) c.note.ensures.err

pub invariant_of-self : goal.invariant_of-self
invariant_of-self c =
    let turning : TurningView = c.self.inside.turning in
    let markers : List MarkerView = c.self.inside.markers.items in
    let old : MarkerView = c.index_mut.result.now in
    let new : MarkerView = c.note.new.self in
    let n : ℕ = length turning.checks in
    let within : c.get.result < length markers = omega (
      arith,
      c.get.ensures.value,
      c.requires.p,
      c.self.invariant.0.count,
      c.requires.recording.turning.count,
      ap (λ (v : OpenView). length v.checks) c.self.view_is,
    )
    in (
      AreMarkers-set n markers c.self.invariant.0 c.get.result old new within
          c.index_mut.ensures.value c.note.ensures.same,
      either_way c.note.result
          (AreToCome-noted n markers c.self.invariant.0 c.get.result old new within
          c.index_mut.ensures.value c.note.ensures.same c.self.inside.to_come turning.number
          c.self.invariant.1 c.args.message.now)
          (AreToCome-same n markers c.self.invariant.0 c.get.result old new within
          c.index_mut.ensures.value c.note.ensures.same c.self.inside.to_come turning.number
          c.self.invariant.1)
          c.note.ensures.ok c.note.ensures.err,
    )
