-- A floor stays one by each event, and by each restart at a line from it on.
use Rattle.std.proofs.Common.{◌≡◌, ℕ, zero, suc, ◌<◌, ◌≤◌, List, [], ◌∷◌, ◌++◌, length, take, drop}
use Rattle.std.proofs.Common.{get_or, Some, refl, sym, ap, ◌∙◌, subst, arith}
use Rattle.std.specs.Prelude.{IsTrue}
use Rattle.std.specs.List.{Contains, filter_map, slice_get}
use Rattle.std.proofs.lemmas.Bool.{le-leb}
use Rattle.std.proofs.lemmas.List.{take-append-drop}
use Rattle.std.proofs.lemmas.List.Elements.{filter_map-append}
use Rattle.line_names.specs.declared.choices.Choice.{Choice}
use Rattle.line_names.specs.declared.choices.Choice.TheVariants.{Check as AtCheck, Now}
use Rattle.line_names.specs.declared.messages.MsgName.{MsgName}
use Rattle.line_names.specs.Lines.{choice_at, IsNowhereLater}
use Rattle.line_names.specs.Order.{IsNoLater}
use Rattle.line_tape.specs.declared.events.Event.{Event}
use Rattle.line_tape.specs.declared.events.Event.TheVariants.{Recv}
use Rattle.line_tape.specs.Event.{sends, incarnation_of, incarnations_sent, Holds}
use Rattle.line_tape.specs.Fit.{IsSentTo}
use Rattle.line_tape.specs.Front.{place}
use Rattle.line_tape.specs.History.{Process, tape_at, with_event}
use Rattle.line_tape.specs.Line.{events_before}
use Rattle.line_tape.specs.Restart.{is_kept, restarted_event, restarted_history}
use Rattle.line_tape.specs.Rounds.{IsSnapshot}
use Rattle.line_tape.specs.Transit.{addressee_of, addressees, in_transit_between}
use Rattle.line_tape.proofs.CutLemmas.{sent_left, sends_take}
use Rattle.line_tape.proofs.EventLemmas.{tape_grows, length_addressees}
use Rattle.line_tape.proofs.FrontLemmas.{slice_get-append_left}
use Rattle.line_tape.proofs.StayLemmas.{tape_restarted, incs_restarted, holds_whole}
use Rattle.line_tape.proofs.StayLemmas.{names_restarted, addressees_restarted}
use Rattle.line_tape.proofs.TransitLemmas.{names_contain}
use Rattle.line_laws.proofs.KeptLemmas.{kept_front}
use Rattle.line_laws.proofs.SnapshotLemmas.{event_fronts, snapshot_event, snapshot_restarted}
use Rattle.line_cuts.specs.Cuts.{Floor, IsFloor, lost_sends, floor_check, floor_line}
use Rattle.line_cuts.proofs.ConsistentCuts.{floor_at}

-- what a longer list has at a place of the shorter one
get_front : (xs ys : List ℕ) (k x : ℕ) → k < length xs → slice_get (xs ++ ys) k ≡ Some x
    → slice_get xs k ≡ Some x
get_front [] ys k x h e = absurd (omega arith)
get_front (z ∷ xs) ys zero x h e = e
get_front (z ∷ xs) ys (suc k) x h e = get_front xs ys k x (omega arith) e

-- a floor is a snapshot
floor_snapshot : (history : List Process) (floor : Floor) → IsFloor history floor
    → IsSnapshot history floor.checks (in_transit_between history (floor_line floor))
floor_snapshot history floor is =
    record { line = is.line; consistent = is.consistent; transit = λ p q lp lq other. refl }

module _ (history : List Process) (floor : Floor) (is : IsFloor history floor) where
  -- no more is let go than was sent
  pub sent_within : (p : ℕ) → lost_sends floor p ≤ sends (tape_at history p)
  sent_within p = omega (
    arith,
    is.sent p,
    sends_take (tape_at history p)
        (place (tape_at history p) (choice_at (floor_line floor) p)),
  )

  module _ (at : ℕ) (event : Event) (h : at < length history) where
    -- a message that is let go was sent before the event
    sent_earlier : (q : ℕ) (m : MsgName) → IsSentTo (with_event history at event) q m
        → m.number < lost_sends floor m.from → IsSentTo history q m
    sent_earlier q m sent below =
        let grows = tape_grows history at event m.from h in
        let tape : List Event = tape_at history m.from in
        let within : m.number < length (incarnations_sent tape) = omega
        (arith, sent_within m.from) in
        let there : m.number < length (addressees tape) = omega
        (arith, within, length_addressees tape) in
        let held : slice_get (incarnations_sent tape ++ incarnations_sent grows.0) m.number
        ≡ Some m.inc = ap (λ (xs : List ℕ). slice_get xs m.number) (sym (ap incarnations_sent
        grows.1 ∙ filter_map-append incarnation_of tape grows.0)) ∙ sent.held in
        let to : slice_get (addressees tape ++ addressees grows.0) m.number
        ≡ Some q = ap (λ (xs : List ℕ). slice_get xs m.number) (sym
        (ap addressees grows.1 ∙ filter_map-append addressee_of tape grows.0)) ∙ sent.to_is in
        record {
          held = get_front (incarnations_sent tape)
              (incarnations_sent grows.0) m.number m.inc within held;
          to_is = get_front (addressees tape) (addressees grows.0) m.number q there to;
        }

    pub floor_event : IsFloor (with_event history at event) floor
    floor_event =
        let snapshot = snapshot_event history at event floor.checks
        (in_transit_between history (floor_line floor)) h (floor_snapshot history floor is) in
        let fronts = event_fronts history at event h floor.checks is.line in
        record {
          line = snapshot.line;
          consistent = snapshot.consistent;
          sent = λ p. omega (arith, is.sent p, ap sends (fronts p));
          received = λ q m sent below. subst (λ (es : List Event). Contains es (Recv m))
              (sym (fronts q)) (is.received q m (sent_earlier q m sent below) below);
        }

  module _ (line : List Choice) (e : length line ≡ length history)
      (above : IsNowhereLater (floor_line floor) line) where
    kept_by : (c : ℕ) (choice : Choice) → IsNoLater (AtCheck c) choice → IsTrue (is_kept choice c)
    kept_by c (AtCheck k) l = le-leb c k l
    kept_by c Now l = refl

    kept : (p : ℕ) → IsTrue (is_kept (choice_at line p) (get_or floor.checks p 0))
    kept p = kept_by (floor_check floor p) (choice_at line p)
        (subst (λ (c : Choice). IsNoLater c (choice_at line p)) (floor_at floor p) (above p))

    fronts : (p : ℕ) → events_before (restarted_history history line) (floor_line floor) p
        ≡ filter_map restarted_event (events_before history (floor_line floor) p)
    fronts p = kept_front history line floor.checks e kept p

    sent_before : (q : ℕ) (m : MsgName) → IsSentTo (restarted_history history line) q m
        → IsSentTo history q m
    sent_before q m sent =
        let tape : List Event = tape_at history m.from in
        let n : ℕ = place tape (choice_at line m.from) in
        let front_held : Holds (events_before history line m.from) m.inc m.number = ap (λ (xs : List
        ℕ). slice_get xs m.number) (sym (incs_restarted history line m.from e)) ∙ sent.held in
        let front_to : slice_get (addressees (take n tape)) m.number
        ≡ Some q = ap (λ (xs : List ℕ). slice_get xs m.number)
        (sym (ap addressees (tape_restarted history line m.from e) ∙ addressees_restarted
        (events_before history line m.from))) ∙ sent.to_is in
        let whole : addressees tape
        ≡ addressees (take n tape)
        ++ addressees (drop n tape) = ap addressees (sym (take-append-drop n tape)) ∙
        filter_map-append addressee_of (take n tape) (drop n tape) in
        record {
          held = holds_whole history line m.from m.inc m.number front_held;
          to_is = ap (λ (xs : List ℕ). slice_get xs m.number) whole ∙ slice_get-append_left
              (addressees (take n tape)) (addressees (drop n tape)) m.number q front_to;
        }

    pub floor_restarted : IsFloor (restarted_history history line) floor
    floor_restarted =
        let snapshot = snapshot_restarted history line floor.checks (in_transit_between history
        (floor_line floor)) e kept (floor_snapshot history floor is) in
        record {
          line = snapshot.line;
          consistent = snapshot.consistent;
          sent = λ p. omega (
            arith,
            is.sent p,
            ap sends (fronts p),
            ap length
                (sent_left (events_before history (floor_line floor) p)),
          );
          received = λ q m sent below.
              let front : List Event = events_before history (floor_line floor) q in
              let before : Contains front (Recv m) = is.received q m (sent_before q m sent) below in
              subst (λ (es : List Event). Contains es (Recv m)) (sym (fronts q))
              ((names_contain (filter_map restarted_event front) m).0 (subst (λ (ms : List MsgName).
              Contains ms m) (sym (names_restarted front)) ((names_contain front m).1 before)));
        }
