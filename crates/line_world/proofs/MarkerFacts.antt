-- The rounds of a world once a round is begun, once a marker has come, and once a process has
-- turned to a round of colours.
use Rattle.std.proofs.Common.{◌≡◌, ℕ, ◌<◌, ◌≤◌, ◌+◌, Bool, true, false, List, ◌++◌, length, Option}
use Rattle.std.proofs.Common.{Some, None, refl, sym, ap, ◌∙◌, subst, arith, inl, inr}
use Rattle.std.specs.Prelude.{◌&&◌, not}
use Rattle.std.specs.List.{All}
use Rattle.std.proofs.lemmas.Bool.{both_ways, cases_eq, eq-eqb, false_from_ne_true, ne_eqb}
use Rattle.std.proofs.lemmas.List.Elements.{All-weaker}
use Rattle.line_tape.specs.declared.events.Event.{Event}
use Rattle.line_tape.specs.declared.events.Event.TheVariants.{Check, Mark}
use Rattle.line_tape.specs.Fit.{IsFitFifo}
use Rattle.line_tape.specs.History.{Process, tape_at, with_event}
use Rattle.line_tape.specs.Rounds.{has_check_of}
use Rattle.line_tape.proofs.EventLemmas.{tape_same}
use Rattle.line_laws.proofs.RoundLines.{checked_has, completed_checked}
use Rattle.line_laws.proofs.SnapshotLemmas.{snapshot_event}
use Rattle.line_rounds.specs.Turning.{IsTurning}
use Rattle.line_tape.specs.declared.modes.Mode.{Mode}
use Rattle.line_tape.specs.declared.modes.Mode.TheVariants.{Fifo, Unordered}
use Rattle.line_moves.specs.Fates.{is_forced, marker_events}
use Rattle.line_moves.specs.Listed.{ListedRound, channel_in, is_begun, is_completed, listed_round}
use Rattle.line_moves.specs.Listed.{IsSnapshotOf, newly_listed}
use Rattle.line_moves.specs.Moves.{with_events}
use Rattle.line_moves.specs.Openings.{OpenView, first_unlisted, left_open, newly_closed}
use Rattle.line_moves.specs.Openings.{open_number, turning_of, IsOnlyOpen, IsRecordingIn, IsRunning}
use Rattle.line_moves.specs.Worlds.{AreNumbered, AreRounds}
use Rattle.line_moves.proofs.LinkLemmas.{length-with_event}
use Rattle.line_moves.proofs.OpeningLemmas.{begun_by, begun_still, closed_others, completed_has}
use Rattle.line_moves.proofs.OpeningLemmas.{first_most, first_same, forced_none, forced_open}
use Rattle.line_moves.proofs.OpeningLemmas.{has_back, is_checked_now, listed_snapshot, newly_is}
use Rattle.line_moves.proofs.OpeningLemmas.{newly_none, none_left, still_last, AreNumbered-weaker}
use Rattle.line_moves.proofs.OpeningLemmas.{AreRounds-settled, IsRunning-begun}

-- one event more
more_snapshots : (history : List Process) (at : ℕ) (e : Event) (rounds : List ListedRound)
    → at < length history → All (IsSnapshotOf history) rounds
    → All (IsSnapshotOf (with_event history at e)) rounds
more_snapshots history at e rounds within all =
    All-weaker (IsSnapshotOf history) (IsSnapshotOf (with_event history at e)) (λ round is.
    snapshot_event history at e round.checks (channel_in round) within is) rounds all

module _ (mode : Mode) (history : List Process) (last : ℕ) (running : Option OpenView)
    (rounds : List ListedRound) (are : AreRounds mode history last running rounds) where
  -- a round is begun
  module _ (closed : (is_begun history last && not (is_completed mode history last)) ≡ false)
      (at : ℕ) (state : List ℕ) (within : at < length history) (round : OpenView)
      (number : round.number ≡ last + 1) where
    abbrev begun : List Process
    begun = with_event history at (Check state (Some (last + 1)))

    pub begun_fresh : (q : ℕ) → has_check_of (last + 1) (tape_at history q) ≡ false
    begun_fresh q = false_from_ne_true (has_check_of (last + 1) (tape_at history q))
        (λ t. let wrong = are.numbers q (last + 1) t in omega (arith, wrong))

    pub begun_running : IsRecordingIn mode begun round → IsRunning mode begun round
    begun_running recording =
        subst (λ (v : ℕ). IsRunning mode (with_event history at (Check state (Some v))) round)
        number
        (IsRunning-begun mode history at state round within (λ p r has apart. closed_others mode
        history last running are.opening are.unfinished closed p r has)
        (subst (λ (v : ℕ). IsRecordingIn mode (with_event history at (Check state (Some v))) round)
        (sym number) recording))

    begun_numbers : (p r : ℕ) → has_check_of r (tape_at begun p) ≡ true → r ≤ last + 1
    begun_numbers p r has = elim (cases_eq r (last + 1)) [
      | inl same ↦ omega (arith, same)
      | inr apart ↦ let old = are.numbers p r (sym (has_back history at (Check state (Some (last +
          1))) within p r (ne_eqb (last + 1) r (λ e. apart (sym e)))) ∙ has) in omega (arith, old)
    ]

    begun_now : is_begun begun (last + 1) ≡ true
    begun_now =
        let e : Event = Check state (Some (last + 1)) in
        begun_by begun (last + 1) at (omega (arith, within, length-with_event history at e))
        (ap (has_check_of (last + 1)) (tape_same history at e at within refl) ∙ is_checked_now
        (last + 1) (tape_at history at) e (eq-eqb (last + 1) (last + 1) refl))

    pub begun_settled :
        ((r : ℕ) → is_completed mode begun r ≡ true
        → IsSnapshotOf begun (listed_round mode begun r)) → IsRecordingIn mode begun round
        → AreRounds mode begun (last + 1) (left_open mode begun (Some round))
        (rounds ++ newly_closed mode begun (Some round))
    begun_settled holds recording =
        AreRounds-settled mode begun holds (last + 1) rounds begun_numbers (more_snapshots history
        at (Check state (Some (last + 1))) rounds within are.snapshots) (Some round)
        (AreNumbered-weaker (first_unlisted running last) (last + 1) rounds (let most = first_most
        running last in omega (arith, most)) are.numbered) (begun_running recording)
        (λ o is. let same : round
        ≡ o = cc in (sym (ap (λ (v : OpenView). v.number) same) ∙ number, begun_now))

    pub begun_listed : newly_closed mode begun (Some round)
        ≡ newly_listed mode history begun (last + 1)
    begun_listed =
        newly_is mode history begun (last + 1) round number
        (false_from_ne_true (is_completed mode history (last + 1)) (λ t.
        both_ways (has_check_of (last + 1) (tape_at history at)) (begun_fresh at)
        (completed_has mode history (last + 1) at t within)))

module _ (history : List Process) (last : ℕ) (running : Option OpenView) (rounds : List ListedRound)
    (are : AreRounds Fifo history last running rounds) where
  -- a marker has come
  module _ (from to round : ℕ) (state : List ℕ) (within : to < length history)
      (sent : has_check_of round (tape_at history from) ≡ true) where
    abbrev after : Bool → List Process
    after forced = with_events history to (marker_events forced from state round)

    abbrev one : List Process
    one = with_event history to (Check state (Some round))

    one_within : to < length one
    one_within = omega (arith, within, length-with_event history to (Check state (Some round)))

    marker_numbers : (forced : Bool) → (p r : ℕ) → has_check_of r (tape_at (after forced) p) ≡ true
        → r ≤ last
    marker_numbers true p r has = elim (cases_eq r round) [
      | inl same ↦ subst (λ (v : ℕ). v ≤ last) (sym same) (are.numbers from round sent)
      | inr apart ↦ are.numbers p r
          (sym (has_back history to (Check state (Some round)) within p r (ne_eqb round r (λ e.
          apart (sym e)))) ∙ sym (has_back one to (Mark from round) one_within p r refl) ∙ has)
    ]
    marker_numbers false p r has =
        are.numbers p r (sym (has_back history to (Mark from round) within p r refl) ∙ has)

    marker_snapshots : (forced : Bool) → All (IsSnapshotOf (after forced)) rounds
    marker_snapshots true = more_snapshots one to (Mark from round) rounds one_within
        (more_snapshots history to (Check state (Some round)) rounds within are.snapshots)
    marker_snapshots false = more_snapshots history to (Mark from round) rounds within are.snapshots

    marker_begun : (forced : Bool) → is_begun history last ≡ true
        → is_begun (after forced) last ≡ true
    marker_begun true begun = begun_still one to (Mark from round) last one_within
        (begun_still history to (Check state (Some round)) last within begun)
    marker_begun false begun = begun_still history to (Mark from round) last within begun

    pub marker_settled : (forced : Bool) (new : Option OpenView) → IsFitFifo (after forced)
        → open_number new ≡ open_number running → IsOnlyOpen Fifo (after forced) new
        → AreRounds Fifo (after forced) last (left_open Fifo (after forced) new)
        (rounds ++ newly_closed Fifo (after forced) new)
    marker_settled forced new fit number opening =
        AreRounds-settled Fifo (after forced) (λ r completed. listed_snapshot (after forced) r fit
        completed) last rounds (marker_numbers forced) (marker_snapshots forced) new
        (subst (λ (v : ℕ). AreNumbered v rounds) (first_same running new last number) are.numbered)
        opening
        (λ o is. let l = still_last Fifo history last running are.unfinished o.number
        (sym (ap open_number is) ∙ number) in (l.0, marker_begun forced l.1))

    pub marker_listed : (forced : Bool) → forced ≡ is_forced history to round
        → (new : Option OpenView) → open_number new ≡ open_number running
        → newly_closed Fifo (after forced) new ≡ newly_listed Fifo history (after forced) last
    marker_listed forced is (Some o) number = let l = still_last Fifo history last running
        are.unfinished o.number number in newly_is Fifo history (after forced) last o l.0 l.2
    marker_listed true is None number =
        absurd (forced_open history from to round (subst (IsOnlyOpen Fifo history) (none_left
        running number) are.opening) sent (forced_none history to round (sym is)) within)
    marker_listed false is None number =
        let opening : IsOnlyOpen Fifo history None = subst (IsOnlyOpen Fifo history)
        (none_left running number) are.opening in
        let new : List Process = with_event history to (Mark from round) in
        sym (newly_none Fifo history new last (λ completed.
        opening to last (sym (has_back history to (Mark from round) within to last refl)
        ∙ checked_has new last to (completed_checked new last completed)
        (omega (arith, within, length-with_event history to (Mark from round))))))

-- a round of colours that is open: process `at` takes its check of it
module _ (history : List Process) (last : ℕ) (round : OpenView) (rounds : List ListedRound)
    (are : AreRounds Unordered history last (Some round) rounds) (at : ℕ) (state : List ℕ)
    (within : at < length history) where
  abbrev turned : List Process
  turned = with_event history at (Check state (Some last))

  number : round.number ≡ last
  number = are.unfinished.number_is

  -- its check is new
  pub turned_running : (new : OpenView) → new.number ≡ last → IsTurning turned (turning_of new)
      → IsRunning Unordered turned new
  turned_running new is turning =
      subst (λ (v : ℕ). IsRunning Unordered (with_event history at (Check state (Some v))) new) is
      (IsRunning-begun Unordered history at state new within
      (λ p r has apart. are.opening.others p r has (λ same. apart (same ∙ number ∙ sym is)))
      (subst (λ (v : ℕ). IsTurning (with_event history at (Check state (Some v))) (turning_of new))
      (sym is) turning))

  turned_numbers : (p r : ℕ) → has_check_of r (tape_at turned p) ≡ true → r ≤ last
  turned_numbers p r has = elim (cases_eq r last) [
    | inl same ↦ omega (arith, same)
    | inr apart ↦ are.numbers p r (sym (has_back history at (Check state (Some last)) within p r
        (ne_eqb last r (λ e. apart (sym e)))) ∙ has)
  ]

  pub turned_settled :
      ((r : ℕ) → is_completed Unordered turned r ≡ true
      → IsSnapshotOf turned (listed_round Unordered turned r)) → (new : OpenView)
      → new.number ≡ last → IsTurning turned (turning_of new)
      → AreRounds Unordered turned last (left_open Unordered turned (Some new))
      (rounds ++ newly_closed Unordered turned (Some new))
  turned_settled holds new is turning =
      AreRounds-settled Unordered turned holds last rounds turned_numbers
      (more_snapshots history at (Check state (Some last)) rounds within are.snapshots)
      (Some new) are.numbered (turned_running new is turning)
      (λ o here. let same : new ≡ o = cc in (
        sym (ap (λ (v : OpenView). v.number) same) ∙ is,
        begun_still history at (Check state (Some last)) last within are.unfinished.begun,
      ))

  pub turned_listed : (new : OpenView) → new.number ≡ last
      → newly_closed Unordered turned (Some new) ≡ newly_listed Unordered history turned last
  turned_listed new is = newly_is Unordered history turned last new is are.unfinished.unfinished
