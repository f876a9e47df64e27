-- A line from the floor on is consistent in the whole where it is in what is left, also of a
-- history
-- that holds receipts of messages whose sends are still to come.
use Rattle.std.proofs.Common.{◌≡◌, ℕ, ◌<◌, List, length, get_or, take, Option, Some, sym, ap, ◌∙◌}
use Rattle.std.proofs.Common.{subst, arith, inl, inr}
use Rattle.std.specs.List.{Contains}
use Rattle.std.proofs.lemmas.Bool.{le-leb, cases_lt}
use Rattle.std.proofs.lemmas.Option.{unwrap_or-slice_get}
use Rattle.std.specs.Option.{unwrap_or}
use Rattle.std.proofs.lemmas.List.{take_all}
use Rattle.line_names.specs.declared.choices.Choice.{Choice}
use Rattle.line_names.specs.declared.messages.MsgName.{MsgName}
use Rattle.line_names.specs.Lines.{choice_at, IsNowhereLater}
use Rattle.line_tape.specs.declared.events.Event.{Event}
use Rattle.line_tape.specs.declared.events.Event.TheVariants.{Recv}
use Rattle.line_tape.specs.Event.{incarnations_sent, Holds}
use Rattle.line_tape.specs.Front.{place}
use Rattle.line_tape.specs.History.{Process, tape_at}
use Rattle.line_tape.specs.Line.{events_before, IsSentBefore, IsConsistent}
use Rattle.line_tape.proofs.FrontLemmas.{place_le, Contains-take_more}
use Rattle.line_tape.proofs.RowLemmas.{sent_at}
use Rattle.line_cuts.specs.Cuts.{Floor, IsFloor, lost_sends, floor_check, floor_line, cut_name}
use Rattle.line_cuts.specs.Cuts.{cut_history, cut_line}
use Rattle.line_cuts.proofs.EventCuts.{received_stays}
use Rattle.std.proofs.lemmas.List.Elements.{All-contains}
use Rattle.line_catalogue.specs.Agreement.{Agrees, EventAgrees}
use Rattle.line_cuts.proofs.ConsistentCuts.{events_cut, sent_above, sent_cut}
use Rattle.line_cuts.proofs.FloorStays.{sent_within}

module _ (floor : Floor) (history : List Process) (line : List Choice)
    (above : IsNowhereLater (floor_line floor) line) where
  -- what the tape holds of the messages that are let go stands before the floor
  held_below : IsFloor history floor → (m : MsgName) → m.number < lost_sends floor m.from
      → Holds (tape_at history m.from) m.inc m.number → IsSentBefore history (floor_line floor) m
  held_below is m below held =
      let n : ℕ = place (tape_at history m.from) (choice_at (floor_line floor) m.from) in
      let within : m.number < length (incarnations_sent (take n (tape_at history m.from))) = omega
      (arith, is.sent m.from) in
      let read : get_or (incarnations_sent (tape_at history m.from)) m.number m.inc ≡ m.inc =
      sym (unwrap_or-slice_get (incarnations_sent (tape_at history m.from)) m.number m.inc) ∙ ap
      (λ (o : Option ℕ). unwrap_or o m.inc) held in
      sent_at (tape_at history m.from) n m.number m.inc within m.inc ∙ ap Some read

  -- what stands before a choice is on the tape
  on_tape : (q : ℕ) (e : Event) → Contains (events_before history line q) e
      → Contains (tape_at history q) e
  on_tape q e c =
      let tape : List Event = tape_at history q in
      subst (λ (es : List Event). Contains es e) (take_all (length tape) tape (omega arith))
      (Contains-take_more tape (place tape (choice_at line q)) (length tape) e
      (place_le tape (choice_at line q)) c)

  -- what is received of the messages that are let go was sent
  received_held : Agrees history → IsFloor history floor → (q : ℕ) (m : MsgName)
      → Contains (tape_at history q) (Recv m) → m.number < lost_sends floor m.from
      → Holds (tape_at history m.from) m.inc m.number
  received_held agrees is q m received below = elim
      (All-contains (EventAgrees history) (tape_at history q) (Recv m) (agrees.each q) received) [
        | inl held ↦ held
        | inr later ↦ absurd (omega (arith, below, later.0, sent_within history floor is m.from))
      ]

  -- consistent in what is left, so in the whole
  pub consistent_whole : Agrees history → IsFloor history floor
      → IsConsistent (cut_history floor history) (cut_line floor line) → IsConsistent history line
  consistent_whole agrees is consistent q m c = elim (cases_lt m.number (lost_sends floor m.from)) [
    | inl below ↦ sent_above floor history line above m
        (held_below is m below (received_held agrees is q m (on_tape q (Recv m) c) below))
    | inr left ↦
        let there = received_stays floor q 0 (floor_check floor q) (events_before history line q) m
        (le-leb (lost_sends floor m.from) m.number left) c in
        sym (sent_cut floor history line above m left) ∙ consistent q (cut_name floor m)
        (subst (λ (es : List Event). Contains es (Recv (cut_name floor m)))
        (sym (events_cut floor history line above q)) there)
  ]
