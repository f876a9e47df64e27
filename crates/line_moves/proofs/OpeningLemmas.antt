-- What is kept of the open round follows the tapes, step by step.
use Rattle.std.proofs.Common.{◌≡◌, ◌≢◌, ℕ, zero, suc, ◌<◌, ◌≤◌, ◌+◌, Bool, true, false, cond, List}
use Rattle.std.proofs.Common.{[], ◌∷◌, ◌++◌, length, get_or, Option, Some, None, refl, sym, ap, ◌∙◌}
use Rattle.std.proofs.Common.{subst, arith, inl, inr}
use Rattle.std.specs.Option.{is_some}
use Rattle.std.specs.Prelude.{◌==◌, ◌||◌, ◌&&◌, not}
use Rattle.std.specs.List.{All, filter, list_any, range_with_len}
use Rattle.std.proofs.lemmas.List.Kept.{AllPairs-filter}
use Rattle.std.proofs.lemmas.List.Quantifiers.{all_pairs_push}
use Rattle.std.proofs.lemmas.Bool.{cases_eq, cases_lt, ne_eqb, both_ways, or_cases, le-leb}
use Rattle.std.proofs.lemmas.List.{append-nil, get_or_past, length-map}
use Rattle.std.proofs.lemmas.List.FromFn.{get_or-range_with_len, length-range_with_len}
use Rattle.std.proofs.lemmas.List.Folds.{list_any_at}
use Rattle.std.proofs.lemmas.List.Elements.{All-filter, filter_passes, All-weaker, All-append}
use Rattle.std.proofs.lemmas.List.Elements.{All-cons, All-nil}
use Rattle.line_rounds.specs.Recording.{MarkerView}
use Rattle.line_names.specs.declared.messages.MsgName.{MsgName}
use Rattle.line_tape.specs.declared.events.Event.{Event}
use Rattle.line_tape.specs.declared.events.Event.TheVariants.{Check, Mark}
use Rattle.line_tape.specs.History.{Process, tape_at, with_event}
use Rattle.line_tape.specs.Rounds.{has_check_of, is_check_of, is_mark_of, names_from}
use Rattle.line_tape.specs.Colours.{AreColoured}
use Rattle.line_tape.specs.Fit.{IsFitFifo, IsFitUnordered}
use Rattle.line_laws.proofs.ColourRounds.{colour_snapshot}
use Rattle.line_tape.specs.Transit.{names_received}
use Rattle.line_laws.proofs.CompletionLemmas.{no_check_restarted, check_stays, checked_idle}
use Rattle.line_laws.proofs.CompletionLemmas.{completed_idle}
use Rattle.line_laws.proofs.GrowthLemmas.{has_check_push, checked_event, completed_event}
use Rattle.line_tape.proofs.EventLemmas.{tape_same, tape_other}
use Rattle.line_laws.proofs.RoundLines.{in_range, checked_has, completed_checked, marker_snapshot}
use Rattle.line_laws.proofs.SnapshotLemmas.{snapshot_event, snapshot_restarted}
use Rattle.line_rounds.specs.Tables.{between}
use Rattle.line_rounds.proofs.TableLemmas.{between-of}
use Rattle.line_tape.specs.declared.modes.Mode.{Mode}
use Rattle.line_tape.specs.declared.modes.Mode.TheVariants.{Fifo, Unordered}
use Rattle.line_moves.specs.Listed.{ListedRound, channel, channel_in, channel_table, check_in}
use Rattle.line_moves.specs.Listed.{is_begun, is_completed, listed_round, stays, IsSnapshotOf}
use Rattle.line_moves.specs.Listed.{newly_listed}
use Rattle.line_names.specs.declared.choices.Choice.{Choice}
use Rattle.line_names.specs.declared.choices.Choice.TheVariants.{Check as AtCheck, Now}
use Rattle.line_names.specs.Lines.{choice_at}
use Rattle.line_tape.specs.Restart.{is_kept, restarted_history}
use Rattle.line_rounds.specs.Turning.{TurningView}
use Rattle.line_moves.specs.Openings.{OpenView, left_open, marker_at, first_unlisted, newly_closed}
use Rattle.line_moves.specs.Openings.{open_number, opened_turning, turning_of, IsLastBegun}
use Rattle.line_moves.specs.Openings.{IsMarkerOf, IsOnlyOpen, IsRecordingIn, IsRecording, IsRunning}
use Rattle.line_moves.specs.Worlds.{AreNumbered, AreRounds}
use Rattle.line_rounds.proofs.TurningLemmas.{IsTurning-kept}
use Rattle.line_moves.proofs.LinkLemmas.{length-with_event}
use Rattle.line_moves.proofs.RecordingLemmas.{or-true, IsMarkerOf-kept}

-- a check of the round
pub is_checked_now : (r : ℕ) (tape : List Event) (e : Event) → is_check_of r e ≡ true
    → has_check_of r (tape ++ e ∷ []) ≡ true
is_checked_now r tape e is =
    has_check_push tape e r ∙ ap (λ b. has_check_of r tape || b) is ∙ or-true (has_check_of r tape)

-- what the processes have recorded, once the tape of one of them has changed
module _ (history new : List Process) (p r : ℕ) (length_is : length new ≡ length history)
    (others : (q : ℕ) → q ≢ p → tape_at new q ≡ tape_at history q) where
  pub markers_written : (markers markers' : List MarkerView) → ((q : ℕ) → q < length history
      → IsMarkerOf (length history) q r (tape_at history q) (marker_at markers q))
      → ((q : ℕ) → q ≢ p → marker_at markers' q ≡ marker_at markers q)
      → IsMarkerOf (length history) p r (tape_at new p) (marker_at markers' p)
      → (q : ℕ) → q < length new
      → IsMarkerOf (length new) q r (tape_at new q) (marker_at markers' q)
  markers_written markers markers' are same marker = λ q within. elim (cases_eq q p) [
    | inl here ↦ subst
        (λ (v : ℕ). IsMarkerOf (length new) v r (tape_at new v) (marker_at markers' v)) (sym here)
        (subst (λ (n : ℕ). IsMarkerOf n p r (tape_at new p) (marker_at markers' p))
        (sym length_is) marker)
    | inr other ↦ subst (λ (n : ℕ). IsMarkerOf n q r (tape_at new q) (marker_at markers' q))
        (sym length_is)
        (subst (λ (t : List Event). IsMarkerOf (length history) q r t (marker_at markers' q))
        (sym (others q other))
        (subst (IsMarkerOf (length history) q r (tape_at history q)) (sym (same q other))
        (are q (omega (arith, within, length_is)))))
  ]

-- two that are kept as open and have one number
pub first_same : (running new : Option OpenView) (last : ℕ) → open_number new ≡ open_number running
    → first_unlisted running last ≡ first_unlisted new last
first_same None None last e = refl
first_same (Some old) (Some round) last e = refl
first_same None (Some round) last e = absurd (cc)
first_same (Some old) None last e = absurd (cc)

module _ (history : List Process) (at : ℕ) (e : Event) (within : at < length history) where
  -- the round is completed still
  pub completed_stays : (mode : Mode) (r : ℕ) → is_completed mode history r ≡ true
      → is_completed mode (with_event history at e) r ≡ true
  completed_stays Fifo r is = completed_event history at e r within is
  completed_stays Unordered r is = checked_event history at e r within is

  -- a check that was there before an event that is no check of the round
  pub has_back : (p r : ℕ) → is_check_of r e ≡ false
      → has_check_of r (tape_at (with_event history at e) p) ≡ has_check_of r (tape_at history p)
  has_back p r other = elim (cases_eq p at) [
    | inl same ↦ ap (has_check_of r) (tape_same history at e p within same) ∙ check_stays
        (tape_at history p) e r other
    | inr different ↦ ap (has_check_of r) (tape_other history at e p different)
  ]

  -- a check stays
  pub has_still : (p r : ℕ) → has_check_of r (tape_at history p) ≡ true
      → has_check_of r (tape_at (with_event history at e) p) ≡ true
  has_still p r has = elim (cases_eq p at) [
    | inl same ↦ ap (has_check_of r) (tape_same history at e p within same) ∙ has_check_push
        (tape_at history p) e r ∙ ap (λ b. b || is_check_of r e) has
    | inr different ↦ ap (has_check_of r) (tape_other history at e p different) ∙ has
  ]

  -- what the open round keeps, where the event adds nothing to it
  module _ (adds : (r p : ℕ) → names_from p (names_received (e ∷ [])) ≡ []) where
    pub IsRecording-kept : (round : OpenView) → is_check_of round.number e ≡ false
        → ((p : ℕ) → is_mark_of p round.number e ≡ false) → IsRecording history round
        → IsRecording (with_event history at e) round
    IsRecording-kept round other unmarked is =
        let tape : List Event = tape_at history at in
        let here : tape_at (with_event history at e) at
        ≡ tape ++ e ∷ [] = tape_same history at e at within refl in
        record {
          turning = IsTurning-kept history at e (turning_of round) within other is.turning;
          markers = markers_written history (with_event history at e) at round.number
              (length-with_event history at e)
              (λ q apart. tape_other history at e q apart) round.markers round.markers is.markers
              (λ q apart. refl)
              (subst (λ (t : List Event). IsMarkerOf (length history) at round.number t
              (marker_at round.markers at)) (sym here)
              (IsMarkerOf-kept (length history) at round.number tape (marker_at round.markers at)
              (is.markers at within) e other
              (λ p p_within apart. (unmarked p, adds round.number p))));
        }

  -- each round on a tape is completed, but one
  pub others_kept : (mode : Mode) (number : ℕ) → ((r : ℕ) → r ≢ number → is_check_of r e ≡ false)
      → ((p r : ℕ) → has_check_of r (tape_at history p) ≡ true → r ≢ number
      → is_completed mode history r ≡ true)
      → (p r : ℕ) → has_check_of r (tape_at (with_event history at e) p) ≡ true → r ≢ number
      → is_completed mode (with_event history at e) r ≡ true
  others_kept mode number other old p r has apart =
      completed_stays mode r (old p r (sym (has_back p r (other r apart)) ∙ has) apart)

  all_kept : (mode : Mode) → ((r : ℕ) → is_check_of r e ≡ false)
      → ((p r : ℕ) → has_check_of r (tape_at history p) ≡ true → is_completed mode history r ≡ true)
      → (p r : ℕ) → has_check_of r (tape_at (with_event history at e) p) ≡ true
      → is_completed mode (with_event history at e) r ≡ true
  all_kept mode other old p r has =
      completed_stays mode r (old p r (sym (has_back p r (other r)) ∙ has))

  -- nothing but completed rounds on the tapes
  pub IsOpening-none : (mode : Mode) → ((r : ℕ) → is_check_of r e ≡ false)
      → IsOnlyOpen mode history None → IsOnlyOpen mode (with_event history at e) None
  IsOpening-none mode other old = all_kept mode other old

  module _ (other : (r : ℕ) → is_check_of r e ≡ false) where
    -- the round that is open, by an event that is no check of a round
    pub IsRunning-kept : (mode : Mode) (round new : OpenView) → new.number ≡ round.number
        → IsRunning mode history round → IsRecordingIn mode (with_event history at e) new
        → IsRunning mode (with_event history at e) new
    IsRunning-kept mode round new number is recording = record {
      others = λ p r has apart. others_kept mode round.number (λ s _. other s) is.others p r has
          (λ same. apart (same ∙ sym number));
      recording = recording;
    }

    -- an event that neither is a check of a round nor a marker nor a message
    pub IsOpening-kept : (mode : Mode) (running : Option OpenView)
        → ((r p : ℕ) → names_from p (names_received (e ∷ [])) ≡ [])
        → ((r p : ℕ) → is_mark_of p r e ≡ false) → IsOnlyOpen mode history running
        → IsOnlyOpen mode (with_event history at e) running
    IsOpening-kept mode None adds unmarked old = all_kept mode other old
    IsOpening-kept Fifo (Some round) adds unmarked old = IsRunning-kept Fifo round round refl old
        (IsRecording-kept adds round (other round.number) (unmarked round.number) old.recording)
    IsOpening-kept Unordered
        (Some round) adds unmarked old = IsRunning-kept Unordered round round refl old
        (IsTurning-kept history at e (turning_of round) within (other round.number) old.recording)

    -- where links keep no order
    pub IsOpening-unordered : (running : Option OpenView) → IsOnlyOpen Unordered history running
        → IsOnlyOpen Unordered (with_event history at e) running
    IsOpening-unordered None old = all_kept Unordered other old
    IsOpening-unordered (Some round) old = IsRunning-kept Unordered round round refl old
        (IsTurning-kept history at e (turning_of round) within (other round.number) old.recording)

    -- whether a round is begun
    begun_kept : (r : ℕ) → is_begun (with_event history at e) r ≡ is_begun history r
    begun_kept r =
        ap (λ (n : ℕ). list_any (λ p. has_check_of r (tape_at (with_event history at e) p))
        (range_with_len 0 n)) (length-with_event history at e)
        ∙ any_same 0 (length history)
      where
        any_same : (a n : ℕ)
            → list_any (λ p. has_check_of r (tape_at (with_event history at e) p)) (range_with_len a
            n) ≡ list_any (λ p. has_check_of r (tape_at history p)) (range_with_len a n)
        any_same a zero = refl
        any_same a (suc n) =
            ap (λ b. b || list_any (λ p. has_check_of r (tape_at (with_event history at e) p))
            (range_with_len (a + 1) n)) (has_back a r (other r))
            ∙ ap (λ b. has_check_of r (tape_at history a) || b) (any_same (a + 1) n)

    -- none of the numbers is later
    pub numbers_kept : (last : ℕ) → ((p r : ℕ) → has_check_of r (tape_at history p) ≡ true → r ≤
        last) → (p r : ℕ) → has_check_of r (tape_at (with_event history at e) p) ≡ true → r ≤ last
    numbers_kept last old p r has = old p r (sym (has_back p r (other r)) ∙ has)

    module _ (unmarked : (r p : ℕ) → is_mark_of p r e ≡ false) where
      pub completed_same : (mode : Mode) (r : ℕ)
          → is_completed mode (with_event history at e) r ≡ is_completed mode history r
      completed_same Fifo r = completed_idle history at e r within (other r) (unmarked r)
      completed_same Unordered r = checked_idle history at e r within (other r)

      IsLast-kept : (mode : Mode) (last : ℕ) (running new : Option OpenView)
          → open_number new ≡ open_number running → IsLastBegun mode history last running
          → IsLastBegun mode (with_event history at e) last new
      IsLast-kept mode last running None number is = tt
      IsLast-kept mode last None (Some round) number is = absurd (cc)
      IsLast-kept mode last (Some old) (Some round) number is =
          let same : round.number ≡ old.number = cc in
          record {
            number_is = same ∙ is.number_is;
            begun = begun_kept last ∙ is.begun;
            unfinished =
                completed_same mode last ∙ is.unfinished;
          }

      -- what a world keeps true of its rounds
      pub AreRounds-kept : (mode : Mode) (last : ℕ) (running new : Option OpenView)
          (rounds : List ListedRound) → open_number new ≡ open_number running
          → IsOnlyOpen mode (with_event history at e) new
          → AreRounds mode history last running rounds
          → AreRounds mode (with_event history at e) last new rounds
      AreRounds-kept mode last running new rounds number opening are = record {
        numbers = numbers_kept last are.numbers;
        opening = opening;
        unfinished = IsLast-kept mode last running new number are.unfinished;
        snapshots = All-weaker (IsSnapshotOf history) (IsSnapshotOf (with_event history at e))
            (λ round is. snapshot_event history at e round.checks (channel_in round) within is)
            rounds are.snapshots;
        numbered = subst (λ (v : ℕ). AreNumbered v rounds)
            (first_same running new last number) are.numbered;
      }

      -- no round is completed
      pub none_listed : (mode : Mode) (last : ℕ)
          → newly_listed mode history (with_event history at e) last ≡ []
      none_listed mode last =
          let new : List ListedRound = listed_round mode (with_event history at e) last ∷ [] in
          ap (λ b. cond (b && not (is_completed mode history last)) new [])
          (completed_same mode last) ∙ never (is_completed mode history last) new
        where
          never : (b : Bool) (xs : List ListedRound) → cond (b && not b) xs [] ≡ []
          never true xs = refl
          never false xs = refl

-- a channel of a table of channels
pub table_cell : (n : ℕ) (channels : ℕ → ℕ → List MsgName) (p q : ℕ) → p < n → q < n → p ≢ q
    → between (channel_table n channels) p q ≡ channels p q
table_cell n channels p q p_within q_within apart =
    between-of n (λ a b. cond (a == b) [] (channels a b)) p q p_within q_within ∙ ap
    (λ b. cond b [] (channels p q)) (ne_eqb p q apart)

-- the channels that are listed
pub listed_channel : (mode : Mode) (history : List Process) (r p q : ℕ) → p < length history
    → q < length history → p ≢ q
    → channel_in (listed_round mode history r) p q ≡ channel mode history r p q
listed_channel mode history r p q p_within q_within apart =
    table_cell (length history) (channel mode history r) p q p_within q_within apart

-- a completed round of markers is a snapshot as it is listed
pub listed_snapshot : (history : List Process) (r : ℕ) → IsFitFifo history
    → is_completed Fifo history r ≡ true → IsSnapshotOf history (listed_round Fifo history r)
listed_snapshot history r fit completed =
    let is = marker_snapshot history r fit completed in
    record {
      line = is.line;
      consistent = is.consistent;
      transit = λ p q p_within q_within apart. listed_channel Fifo history r p q p_within q_within
          apart ∙ is.transit p q p_within q_within apart;
    }

-- and a completed round of colours
pub counted_snapshot : (history : List Process) (r : ℕ) → IsFitUnordered history
    → AreColoured history → is_completed Unordered history r ≡ true
    → IsSnapshotOf history (listed_round Unordered history r)
counted_snapshot history r fit coloured completed =
    let is = colour_snapshot history r fit coloured completed in
    record {
      line = is.line;
      consistent = is.consistent;
      transit = λ p q p_within q_within apart. listed_channel Unordered history r p q p_within
          q_within apart ∙ is.transit p q p_within q_within apart;
    }

-- the numbers of listed rounds lie below a greater one too
pub AreNumbered-weaker : (first next : ℕ) (rounds : List ListedRound) → first ≤ next
    → AreNumbered first rounds → AreNumbered next rounds
AreNumbered-weaker first next rounds most is = record {
  earlier = All-weaker (λ (round : ListedRound). round.number < first) (λ (round : ListedRound).
      round.number < next) (λ round less. omega (arith, less, most)) rounds is.earlier;
  ascending = is.ascending;
}

-- one more round is listed, of a number that they lie below
pub AreNumbered-push : (first : ℕ) (rounds : List ListedRound) (round : ListedRound) → round.number
    ≡ first → AreNumbered first rounds → AreNumbered (suc first) (rounds ++ round ∷ [])
AreNumbered-push first rounds round number is =
    let below : ListedRound → Type 0 = λ r. r.number < suc first in
    record {
      earlier = All-append below rounds (round ∷ [])
          (AreNumbered-weaker first (suc first) rounds (omega arith) is).earlier
          (All-cons below round [] (omega (arith, number)) (All-nil below));
      ascending = all_pairs_push
          (λ (a b : ListedRound). a.number < b.number) rounds round is.ascending
          (λ k d within. let less = is.earlier k d within in omega (arith, less, number));
    }

AreNumbered-none : (first : ℕ) (rounds : List ListedRound) → AreNumbered first rounds
    → AreNumbered first (rounds ++ [])
AreNumbered-none first rounds is = subst (AreNumbered first) (sym (append-nil rounds)) is

-- and some of them leave the list
pub AreNumbered-filter : (first : ℕ) (test : ListedRound → Bool) (rounds : List ListedRound)
    → AreNumbered first rounds → AreNumbered first (filter test rounds)
AreNumbered-filter first test rounds is = record {
  earlier = All-filter test (λ (round : ListedRound). round.number < first) rounds is.earlier;
  ascending = AllPairs-filter (λ (a b : ListedRound). a.number < b.number) test rounds is.ascending;
}

-- they lie below the next number in any case
pub first_most : (running : Option OpenView) (last : ℕ) → first_unlisted running last ≤ suc last
first_most None last = omega arith
first_most (Some round) last = omega arith

-- the rounds once a step of the open round is settled, where a completed one is a snapshot as it is
-- listed
module _ (mode : Mode) (history : List Process)
    (holds : (r : ℕ) → is_completed mode history r ≡ true
    → IsSnapshotOf history (listed_round mode history r)) (last : ℕ) (rounds : List ListedRound)
    (numbers : (p r : ℕ) → has_check_of r (tape_at history p) ≡ true → r ≤ last)
    (snapshots : All (IsSnapshotOf history) rounds) where
  pub AreRounds-settled : (running : Option OpenView)
      → AreNumbered (first_unlisted running last) rounds → IsOnlyOpen mode history running → ((round
      : OpenView) → running ≡ Some round → (round.number ≡ last) × (is_begun history last ≡ true))
      → AreRounds mode history last (left_open mode history running)
      (rounds ++ newly_closed mode history running)
  AreRounds-settled None numbered opening begun = record {
    numbers = numbers;
    opening = opening;
    unfinished = tt;
    snapshots =
        All-append (IsSnapshotOf history) rounds [] snapshots (All-nil (IsSnapshotOf history));
    numbered = AreNumbered-none (suc last) rounds numbered;
  }
  AreRounds-settled (Some round) numbered opening begun = elim
      (is_completed mode history round.number) as (λ b. is_completed mode history round.number ≡ b
      → AreRounds mode history last (cond b None (Some round))
      (rounds ++ cond b (listed_round mode history round.number ∷ []) [])) [
        | true ↦ λ completed. record {
          numbers = numbers;
          opening = λ p r has. elim (cases_eq r round.number) [
            | inl same ↦ subst (λ (v : ℕ). is_completed mode history v ≡ true) (sym same) completed
            | inr apart ↦ opening.others p r has apart
          ];
          unfinished = tt;
          snapshots = All-append (IsSnapshotOf history) rounds
              (listed_round mode history round.number ∷ []) snapshots
              (All-cons (IsSnapshotOf history) (listed_round mode history round.number) []
              (holds round.number completed) (All-nil (IsSnapshotOf history)));
          numbered = AreNumbered-push last rounds (listed_round mode history round.number)
              (begun round refl).0 numbered;
        }
        | false ↦ λ unfinished. record {
          numbers = numbers;
          opening = opening;
          unfinished = record {
            number_is = (begun round refl).0;
            begun = (begun round refl).1;
            unfinished = subst (λ (v : ℕ). is_completed mode history v ≡ false)
                (begun round refl).0 unfinished;
          };
          snapshots = All-append (IsSnapshotOf history) rounds [] snapshots
              (All-nil (IsSnapshotOf history));
          numbered = AreNumbered-none last rounds numbered;
        }
      ] refl

-- what is listed then is what the change completed
pub newly_is : (mode : Mode) (old new : List Process) (last : ℕ) (round : OpenView)
    → round.number ≡ last → is_completed mode old last ≡ false
    → newly_closed mode new (Some round) ≡ newly_listed mode old new last
newly_is mode old new last round number unfinished =
    ap (λ (v : ℕ). cond (is_completed mode new v) (listed_round mode new v ∷ []) []) number
    ∙ ap (λ b. cond b (listed_round mode new last ∷ []) [])
    (sym (and-true (is_completed mode new last)))
    ∙ ap (λ b. cond (is_completed mode new last && not b) (listed_round mode new last ∷ []) [])
    (sym unfinished)
  where
    and-true : (b : Bool) → (b && true) ≡ b
    and-true true = refl
    and-true false = refl

-- nothing is listed where the round was completed before
pub newly_none : (mode : Mode) (old new : List Process) (last : ℕ) → (is_completed mode new last
    ≡ true → is_completed mode old last ≡ true) → newly_listed mode old new last ≡ []
newly_none mode old new last back = elim (is_completed mode new last) as
    (λ b. is_completed mode new last ≡ b
    → cond (b && not (is_completed mode old last)) (listed_round mode new last ∷ []) [] ≡ []) [
      | true ↦ λ completed. ap (λ b. cond (not b) (listed_round mode new last ∷ []) [])
          (back completed)
      | false ↦ λ never. refl
    ] refl

-- the marker of another round
pub mark_apart : (p from number r : ℕ) → r ≢ number → is_mark_of p number (Mark from r) ≡ false
mark_apart p from number r apart =
    ap (λ b. (from == p) && b) (ne_eqb r number apart) ∙ and-false (from == p)
  where
    and-false : (b : Bool) → (b && false) ≡ false
    and-false true = refl
    and-false false = refl

-- the marker that has a process take its check is of the round that is open
pub forced_number : (history : List Process) (round : OpenView) (from to r : ℕ)
    → IsRunning Fifo history round → has_check_of r (tape_at history from) ≡ true
    → has_check_of r (tape_at history to) ≡ false → to < length history → round.number ≡ r
forced_number history round from to r opening sent none within = elim (cases_eq r round.number) [
  | inl same ↦ sym same
  | inr apart ↦ absurd (both_ways (has_check_of r (tape_at history to)) none (checked_has history r
      to (completed_checked history r (opening.others from r sent apart)) within))
]

pub forced_open : (history : List Process) (from to r : ℕ) → IsOnlyOpen Fifo history None
    → has_check_of r (tape_at history from) ≡ true → has_check_of r (tape_at history to) ≡ false
    → to < length history → ⊥
forced_open history from to r opening sent none within = both_ways (has_check_of r (tape_at history
    to)) none (checked_has history r to (completed_checked history r (opening from r sent)) within)

-- the open round, once a process has taken its check of it
pub IsRunning-begun : (mode : Mode) (history : List Process) (at : ℕ) (state : List ℕ)
    (new : OpenView) → at < length history
    → ((p r : ℕ) → has_check_of r (tape_at history p) ≡ true → r ≢ new.number
    → is_completed mode history r ≡ true)
    → IsRecordingIn mode (with_event history at (Check state (Some new.number))) new
    → IsRunning mode (with_event history at (Check state (Some new.number))) new
IsRunning-begun mode history at state new within old recording = record {
  others = λ p r has apart. others_kept history at (Check state (Some new.number)) within mode
      new.number (λ s other. ne_eqb new.number s (λ same. other (sym same))) old p r has apart;
  recording = recording;
}

-- and the mark of the marker that had it do so
pub IsRunning-forced : (mode : Mode) (history : List Process) (at from number : ℕ) (state : List ℕ)
    (new : OpenView) → at < length history → new.number ≡ number
    → ((p r : ℕ) → has_check_of r (tape_at history p) ≡ true → r ≢ number
    → is_completed mode history r ≡ true)
    → IsRecordingIn mode
    (with_event (with_event history at (Check state (Some number))) at (Mark from number)) new
    → IsRunning mode
    (with_event (with_event history at (Check state (Some number))) at (Mark from number)) new
IsRunning-forced mode history at from number state new within is old recording =
    let one : List Process = with_event history at (Check state (Some number)) in
    record {
      others = λ p r has apart. others_kept one at (Mark from number) (omega (
        arith,
        within,
        length-with_event history at (Check state (Some number)),
      )) mode number (λ s other. refl)
          (λ q s s_has s_apart. others_kept history at (Check state (Some number)) within mode
          number (λ t other. ne_eqb number t (λ same. other (sym same))) old q s s_has s_apart)
          p r has (λ same. apart (same ∙ sym is));
      recording = recording;
    }

-- a round that is begun stands on a tape
pub any_found : (history : List Process) (r a n : ℕ)
    → list_any (λ p. has_check_of r (tape_at history p)) (range_with_len a n) ≡ true
    → (p : ℕ) × (has_check_of r (tape_at history p) ≡ true) × (p < a + n)
any_found history r a zero t = absurd (cc)
any_found history r a (suc n) t = elim (or_cases (has_check_of r (tape_at history a))
    (list_any (λ p. has_check_of r (tape_at history p)) (range_with_len (a + 1) n)) t) [
      | inl here ↦ (a, here, omega arith)
      | inr there ↦ let found =
          any_found history r (a + 1) n there in (found.0, found.1, omega (arith, found.2))
    ]

-- where no round is kept as open, none is
pub closed_none : (mode : Mode) (history : List Process) (last : ℕ) → IsOnlyOpen mode history None
    → (is_begun history last && not (is_completed mode history last)) ≡ false
closed_none mode history last opening = elim (is_begun history last) as
    (λ b. is_begun history last ≡ b → (b && not (is_completed mode history last)) ≡ false) [
      | true ↦ λ begun. let found =
          any_found history last 0 (length history) begun in ap not (opening found.0 last found.1)
      | false ↦ λ never. refl
    ] refl

-- a check of a round on a tape begins it
pub begun_by : (history : List Process) (r p : ℕ) → p < length history
    → has_check_of r (tape_at history p) ≡ true → is_begun history r ≡ true
begun_by history r p within has =
    let at : 0 + p ≡ p = omega arith in
    list_any_at (λ q. has_check_of r (tape_at history q)) (range_with_len 0 (length history)) p 0
    (omega (arith, within, length-range_with_len 0 (length history)))
    (ap (λ (q : ℕ). has_check_of r (tape_at history q))
    (get_or-range_with_len 0 (length history) p 0 within ∙ at) ∙ has)

-- a marker that has a process take its check comes before it
pub forced_none : (history : List Process) (to r : ℕ)
    → not (has_check_of r (tape_at history to)) ≡ true → has_check_of r (tape_at history to) ≡ false
forced_none history to r forced =
    elim (has_check_of r (tape_at history to)) as (λ b. not b ≡ true → b ≡ false) [
      | true ↦ λ t. absurd (cc)
      | false ↦ λ t. refl
    ] forced

-- what is kept of the open round, where the tapes stay as they are
pub IsRunning-renewed : (mode : Mode) (history : List Process) (round new : OpenView)
    → new.number ≡ round.number → IsRunning mode history round → IsRecordingIn mode history new
    → IsRunning mode history new
IsRunning-renewed mode history round new number is recording = record {
  others = λ p r has apart. is.others p r has (λ same. apart (same ∙ sym number));
  recording = recording;
}

-- the rounds, where the tapes stay as they are
pub AreRounds-renewed : (mode : Mode) (history : List Process) (last : ℕ)
    (running new : Option OpenView) (rounds : List ListedRound)
    → open_number new ≡ open_number running → IsOnlyOpen mode history new
    → AreRounds mode history last running rounds → AreRounds mode history last new rounds
AreRounds-renewed mode history last running new rounds number opening are = record {
  numbers = are.numbers;
  opening = opening;
  unfinished = renewed running new number are.unfinished;
  snapshots = are.snapshots;
  numbered =
      subst (λ (v : ℕ). AreNumbered v rounds) (first_same running new last number) are.numbered;
}
  where
    renewed : (old round : Option OpenView) → open_number round ≡ open_number old
        → IsLastBegun mode history last old → IsLastBegun mode history last round
    renewed old None e is = tt
    renewed None (Some round) e is = absurd (cc)
    renewed (Some old) (Some round) e is = let same : round.number ≡ old.number = cc in record
        { number_is = same ∙ is.number_is; begun = is.begun; unfinished = is.unfinished }

-- a snapshot stays one where a restart cuts none of its checks
pub snapshots_restarted : (history : List Process) (line : List Choice) (rounds : List ListedRound)
    → length line ≡ length history
    → All (IsSnapshotOf history) rounds
    → All (IsSnapshotOf (restarted_history history line)) (filter (stays line) rounds)
snapshots_restarted history line rounds size snapshots = λ k d within. kept
    (get_or (filter (stays line) rounds) k d) (All-filter (stays line) (IsSnapshotOf history) rounds
    snapshots k d within) (filter_passes (stays line) rounds k d within)
  where
    first_kept : (choice : Choice) → is_kept choice 0 ≡ true
    first_kept (AtCheck c) = le-leb 0 c (omega arith)
    first_kept Now = refl

    kept : (round : ListedRound) → IsSnapshotOf history round → stays line round ≡ true
        → IsSnapshotOf (restarted_history history line) round
    kept round is all =
        let many : length round.checks ≡ length line = sym
        (length-map round.checks (λ c. AtCheck c)) ∙ is.line.length_is ∙ sym size in
        snapshot_restarted history line round.checks (channel_in round) size
        (λ p. elim (cases_lt p (length line)) [
          | inl below ↦ in_range (λ q. is_kept (choice_at line q) (check_in round q)) 0
              (length line) p all (omega arith) (omega (arith, below))
          | inr past ↦ subst (λ (c : ℕ). is_kept (choice_at line p) c ≡ true) (sym (get_or_past
              round.checks p 0 (omega (arith, past, many)))) (first_kept (choice_at line p))
        ]) is

-- after a restart no round is open, and the listed ones stay whose checks are all kept
pub AreRounds-restarted : (mode : Mode) (history : List Process) (line : List Choice) (last : ℕ)
    (running : Option OpenView) (rounds : List ListedRound) → length line ≡ length history
    → AreRounds mode history last running rounds
    → AreRounds mode (restarted_history history line) last None (filter (stays line) rounds)
AreRounds-restarted mode history line last running rounds size are = record {
  numbers = λ p r has. absurd (both_ways (has_check_of r
      (tape_at (restarted_history history line) p)) (no_check_restarted history line r p size) has);
  opening = λ p r has. absurd (both_ways (has_check_of r
      (tape_at (restarted_history history line) p)) (no_check_restarted history line r p size) has);
  unfinished = tt;
  numbered = AreNumbered-filter (suc last) (stays line) rounds (AreNumbered-weaker
      (first_unlisted running last) (suc last) rounds (first_most running last) are.numbered);
  snapshots = snapshots_restarted history line rounds size are.snapshots;
}

-- a completed round is on each tape
pub completed_has : (mode : Mode) (history : List Process) (r q : ℕ) → is_completed mode history r
    ≡ true → q < length history → has_check_of r (tape_at history q) ≡ true
completed_has Fifo history r q is within =
    checked_has history r q (completed_checked history r is) within
completed_has Unordered history r q is within = checked_has history r q is within

-- a begun round stays so
pub begun_still : (history : List Process) (at : ℕ) (e : Event) (r : ℕ) → at < length history
    → is_begun history r ≡ true → is_begun (with_event history at e) r ≡ true
begun_still history at e r within begun =
    let found = any_found history r 0 (length history) begun in
    begun_by (with_event history at e) r found.0 (omega (
      arith,
      found.2,
      length-with_event history
          at e,
    )) (has_still history at e within found.0 r found.1)

-- where no round is open, each one on a tape is completed
pub closed_others : (mode : Mode) (history : List Process) (last : ℕ) (running : Option OpenView)
    → IsOnlyOpen mode history running → IsLastBegun mode history last running
    → (is_begun history last && not (is_completed mode history last)) ≡ false
    → (p r : ℕ) → has_check_of r (tape_at history p) ≡ true → is_completed mode history r ≡ true
closed_others mode history last None opening is closed = opening
closed_others mode history last (Some round) opening is closed =
    absurd (both_ways (is_begun history last && not (is_completed mode history last)) closed
    (ap (λ b. b && not (is_completed mode history last)) is.begun ∙ ap
    (λ b. true && not b) is.unfinished))

-- the round that is kept as open, by its number
pub still_last : (mode : Mode) (history : List Process) (last : ℕ) (running : Option OpenView)
    → IsLastBegun mode history last running → (number : ℕ) → Some number ≡ open_number running
    → (number ≡ last) × (is_begun history last ≡ true) × (is_completed mode history last ≡ false)
still_last mode history last None is number e = absurd (cc)
still_last mode history last (Some old) is number e =
    let same : number ≡ old.number = cc in (same ∙ is.number_is, is.begun, is.unfinished)

pub none_left : (running : Option OpenView) → None ≡ open_number running → running ≡ None
none_left None e = refl
none_left (Some old) e = absurd (cc)

-- one is kept as open just where the last round begun is open
pub open_told : (mode : Mode) (history : List Process) (last : ℕ) (running : Option OpenView)
    → IsOnlyOpen mode history running → IsLastBegun mode history last running
    → is_some running ≡ (is_begun history last && not (is_completed mode history last))
open_told mode history last None opening is = sym (closed_none mode history last opening)
open_told mode history last (Some round) opening is = sym (ap (λ b. b
    && not (is_completed mode history last)) is.begun ∙ ap (λ b. true && not b) is.unfinished)

pub some_turning : (turning : Option TurningView)
    → is_some turning ≡ is_some (opened_turning turning)
some_turning None = refl
some_turning (Some turning) = refl
