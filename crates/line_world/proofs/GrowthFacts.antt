-- The rounds of a machine as its history grows by a step, and as it goes back.
use Rattle.std.proofs.Common.{◌≡◌, ◌≢◌, ℕ, suc, ◌<◌, ◌≤◌, ◌+◌, ◌⊎◌, Bool, true, false, cond, List}
use Rattle.std.proofs.Common.{[], ◌∷◌, ◌++◌, length, Some, refl, sym, ap, ◌∙◌, subst, arith, inl}
use Rattle.std.proofs.Common.{inr}
use Rattle.std.specs.Prelude.{◌==◌, ◌||◌, ◌&&◌, not}
use Rattle.std.specs.List.{All, filter, list_any}
use Rattle.std.proofs.lemmas.Bool.{both_ways, cases_eq, cases_lt, eq-eqb, false_from_ne_true}
use Rattle.std.proofs.lemmas.Bool.{ne_eqb}
use Rattle.std.proofs.lemmas.List.{append-nil}
use Rattle.std.proofs.lemmas.List.Elements.{All-append, All-cons, All-nil, All-weaker}
use Rattle.line_names.specs.declared.choices.Choice.{Choice}
use Rattle.line_tape.specs.declared.events.Event.{Event}
use Rattle.line_tape.specs.declared.events.Event.TheVariants.{Check}
use Rattle.line_tape.specs.History.{Process, tape_at, with_event}
use Rattle.line_tape.specs.Restart.{restarted_history}
use Rattle.line_tape.specs.Rounds.{has_check_of, is_check_of}
use Rattle.line_laws.proofs.CompletionLemmas.{checked_from, completed_from, no_check_restarted}
use Rattle.line_tape.proofs.ListLemmas.{any_push}
use Rattle.line_laws.proofs.SnapshotLemmas.{snapshot_event}
use Rattle.line_tape.proofs.StayLemmas.{length_restarted}
use Rattle.line_tape.specs.declared.modes.Mode.{Mode}
use Rattle.line_tape.specs.declared.modes.Mode.TheVariants.{Fifo, Unordered}
use Rattle.line_moves.specs.Listed.{ListedRound, channel_in, is_begun, is_completed, listed_round}
use Rattle.line_moves.specs.Listed.{newly_listed, stays, IsSnapshotOf}
use Rattle.line_moves.specs.Worlds.{AreNumbered}
use Rattle.line_moves.proofs.LinkLemmas.{length-with_event}
use Rattle.line_moves.proofs.OpeningLemmas.{any_found, begun_by, completed_has, completed_stays}
use Rattle.line_moves.proofs.OpeningLemmas.{has_back, snapshots_restarted, AreNumbered-filter}
use Rattle.line_moves.proofs.OpeningLemmas.{AreNumbered-push, AreNumbered-weaker}
use Rattle.line_moves.proofs.RecordingLemmas.{or-true}

-- round r is among these
abbrev pub lists : List ListedRound → ℕ → Bool
lists rounds r = list_any (λ (round : ListedRound). round.number == r) rounds

-- the rounds on the tapes are none later than the last one begun, and each other is completed; the
-- completed ones are listed, and the listed ones are snapshots, by number
pub record AreListed (mode : Mode) (history : List Process) (last : ℕ)
    (rounds : List ListedRound) : Type 0 where
  pub numbers : (p r : ℕ) → has_check_of r (tape_at history p) ≡ true → r ≤ last
  pub others : (p r : ℕ) → has_check_of r (tape_at history p) ≡ true → r ≢ last
      → is_completed mode history r ≡ true
  pub snapshots : All (IsSnapshotOf history) rounds
  pub numbered : AreNumbered (suc last) rounds
  pub unlisted : is_begun history last ≡ true → is_completed mode history last ≡ false
      → AreNumbered last rounds
  pub told : (p r : ℕ) → has_check_of r (tape_at history p) ≡ true
      → is_completed mode history r ≡ true → lists rounds r ≡ true

-- a history grows: what is new on its tapes is of one round alone, the last one begun or, where
-- that is closed, the next
pub record Grows (mode : Mode) (old new : List Process) (last next : ℕ) : Type 0 where
  pub some : 0 < length old
  pub size : length new ≡ length old
  pub numbers : (p r : ℕ) → has_check_of r (tape_at new p) ≡ true
      → (has_check_of r (tape_at old p) ≡ true) ⊎ (r ≡ next)
  pub stays : (r : ℕ) → is_completed mode old r ≡ true → is_completed mode new r ≡ true
  pub snapshots : (round : ListedRound) → IsSnapshotOf old round → IsSnapshotOf new round
  pub next_is : ((next ≡ last) × (is_begun new last ≡ true → is_begun old last ≡ true))
      ⊎ ((next ≡ suc last)
      × ((p : ℕ) → has_check_of last (tape_at old p) ≡ true → is_completed mode old last ≡ true))

-- what is listed of a round that a change completes, or of another
newly_cases : (a b : Bool) (round : ListedRound)
    → ((a ≡ true) × (b ≡ false) × (cond (a && not b) (round ∷ []) [] ≡ round ∷ []))
    ⊎ ((a ≡ true → b ≡ true) × (cond (a && not b) (round ∷ []) [] ≡ []))
newly_cases true true round = inr (λ t. refl, refl)
newly_cases true false round = inl (refl, refl, refl)
newly_cases false b round = inr (λ t. absurd (cc), refl)

module _ (mode : Mode) (old new : List Process) (last next : ℕ) (rounds : List ListedRound)
    (grows : Grows mode old new last next) (are : AreListed mode old last rounds) where
  no_less : last ≤ next
  no_less = elim grows.next_is [
    | inl same ↦ let e = same.0 in omega (arith, e)
    | inr more ↦ let e = more.0 in omega (arith, e)
  ]

  some_new : 0 < length new
  some_new = omega (arith, grows.some, grows.size)

  -- a round that was on a tape was completed, but the last one
  closed : (p r : ℕ) → has_check_of r (tape_at old p) ≡ true → r ≢ next
      → is_completed mode old r ≡ true
  closed p r had apart = elim (cases_eq r last) [
    | inl here ↦ elim grows.next_is [
      | inl same ↦ absurd (apart (here ∙ sym same.0))
      | inr more ↦ subst (λ (v : ℕ). is_completed mode old v ≡ true) (sym here)
          (more.1 p (subst (λ (v : ℕ). has_check_of v (tape_at old p) ≡ true) here had))
    ]
    | inr other ↦ are.others p r had other
  ]

  -- no other round is completed
  pub grown_completes : (r : ℕ) → is_completed mode old r ≡ false → is_completed mode new r ≡ true
      → r ≡ next
  grown_completes r was is = elim (cases_eq r next) [
    | inl same ↦ same
    | inr apart ↦ elim (grows.numbers 0 r (completed_has mode new r 0 is some_new)) [
      | inl had ↦ absurd (both_ways (is_completed mode old r) was (closed 0 r had apart))
      | inr same ↦ same
    ]
  ]

  grown_numbers : (p r : ℕ) → has_check_of r (tape_at new p) ≡ true → r ≤ next
  grown_numbers p r has = elim (grows.numbers p r has) [
    | inl had ↦ let most = are.numbers p r had in omega (arith, most, no_less)
    | inr same ↦ omega (arith, same)
  ]

  grown_others : (p r : ℕ) → has_check_of r (tape_at new p) ≡ true → r ≢ next
      → is_completed mode new r ≡ true
  grown_others p r has apart = elim (grows.numbers p r has) [
    | inl had ↦ grows.stays r (closed p r had apart)
    | inr same ↦ absurd (apart same)
  ]

  grown_unlisted : is_begun new next ≡ true → is_completed mode old next ≡ false
      → AreNumbered next rounds
  grown_unlisted begun was = elim grows.next_is [
    | inl same ↦ subst (λ (v : ℕ). AreNumbered v rounds) (sym same.0)
        (are.unlisted (same.1 (subst (λ (v : ℕ). is_begun new v ≡ true) same.0 begun))
        (subst (λ (v : ℕ). is_completed mode old v ≡ false) same.0 was))
    | inr more ↦ AreNumbered-weaker (suc last) next rounds
        (let e = more.0 in omega (arith, e)) are.numbered
  ]

  grown_snapshots : All (IsSnapshotOf new) rounds
  grown_snapshots =
      All-weaker (IsSnapshotOf old) (IsSnapshotOf new) grows.snapshots rounds are.snapshots

  -- a round that was completed is listed still
  still_told : (r : ℕ) → is_completed mode old r ≡ true → lists rounds r ≡ true
  still_told r was = are.told 0 r (completed_has mode old r 0 was grows.some) was

  -- what is completed then is listed, and nothing else
  pub grown_listed : ((r : ℕ) → is_completed mode new r ≡ true → IsSnapshotOf new (listed_round mode
      new r)) → AreListed mode new next (rounds ++ newly_listed mode old new next)
  grown_listed holds = elim (newly_cases (is_completed mode new next) (is_completed mode old next)
      (listed_round mode new next)) [
        | inl found ↦ subst (λ (ls : List ListedRound). AreListed mode new next (rounds ++ ls))
            (sym found.2) (record {
              numbers = grown_numbers;
              others = grown_others;
              snapshots = All-append (IsSnapshotOf new) rounds
                  (listed_round mode new next ∷ []) grown_snapshots (All-cons (IsSnapshotOf new)
                  (listed_round mode new next) [] (holds next found.0)
                  (All-nil (IsSnapshotOf new)));
              numbered =
                  AreNumbered-push next rounds (listed_round mode new next) refl (grown_unlisted
                  (begun_by new next 0 some_new (completed_has mode new next 0 found.0 some_new))
                  found.1);
              unlisted =
                  λ begun never. absurd (both_ways (is_completed mode new next) never found.0);
              told = λ p r has is. any_push (λ (round : ListedRound). round.number == r) rounds
                  (listed_round mode new next)
                  ∙ elim (is_completed mode old r) as
                  (λ b. is_completed mode old r ≡ b → (lists rounds r || (next == r)) ≡ true) [
                    | true ↦ λ was. ap (λ b. b || (next == r)) (still_told r was)
                    | false ↦ λ was. ap (λ b. lists rounds r || b)
                        (eq-eqb next r (sym (grown_completes r was is))) ∙ or-true (lists rounds r)
                  ] refl;
            })
        | inr none ↦ subst (λ (ls : List ListedRound). AreListed mode new next (rounds ++ ls))
            (sym none.1) (subst (AreListed mode new next) (sym (append-nil rounds)) (record {
              numbers = grown_numbers;
              others = grown_others;
              snapshots = grown_snapshots;
              numbered =
                  AreNumbered-weaker (suc last) (suc next) rounds
                  (omega (arith, no_less)) are.numbered;
              unlisted =
                  λ begun never. grown_unlisted begun (false_from_ne_true (is_completed mode old
                  next) (λ t. both_ways (is_completed mode new next) never (grows.stays next t)));
              told = λ p r has is. elim (is_completed mode old r) as
                  (λ b. is_completed mode old r ≡ b → lists rounds r ≡ true) [
                    | true ↦ λ was. still_told r was
                    | false ↦ λ was.
                        let same : r ≡ next = grown_completes r was is in
                        absurd (both_ways (is_completed mode old r) was
                        (subst (λ (v : ℕ). is_completed mode old v ≡ true) (sym same)
                        (none.0 (subst (λ (v : ℕ). is_completed mode new v ≡ true) same is))))
                  ] refl;
            }))
      ]

-- nothing comes
pub grows_none : (mode : Mode) (history : List Process) (last : ℕ) → 0 < length history
    → Grows mode history history last last
grows_none mode history last some = record {
  some = some;
  size = refl;
  numbers = λ p r has. inl has;
  stays = λ r is. is;
  snapshots = λ round is. is;
  next_is = inl (refl, λ begun. begun);
}

module _ (mode : Mode) (history : List Process) (at : ℕ) (e : Event)
    (within : at < length history) where
  begun_back : (r : ℕ) → is_check_of r e ≡ false → is_begun (with_event history at e) r ≡ true
      → is_begun history r ≡ true
  begun_back r other begun =
      let found = any_found (with_event history at e) r 0
      (length (with_event history at e)) begun in
      begun_by history r found.0 (let below = found.2 in omega (
        arith,
        below,
        length-with_event
            history at e,
      )) (sym (has_back history at e within found.0 r other) ∙ found.1)

  module _ (idle : (r : ℕ) → is_check_of r e ≡ false) where
    -- an event comes that is no check of a round
    pub grows_idle : (last : ℕ) → Grows mode history (with_event history at e) last last
    grows_idle last = record {
      some = omega (arith, within);
      size = length-with_event history at e;
      numbers = λ p r has. inl (sym (has_back history at e within p r (idle r)) ∙ has);
      stays = completed_stays history at e within mode;
      snapshots = λ round is. snapshot_event history at e round.checks (channel_in round) within is;
      next_is = inl (refl, begun_back last (idle last));
    }

    -- and it comes after others
    pub grows_more : (start : List Process) (last next : ℕ) → Grows mode start history last next
        → Grows mode start (with_event history at e) last next
    grows_more start last next before = record {
      some = before.some;
      size = length-with_event history at e ∙ before.size;
      numbers =
          λ p r has. before.numbers p r (sym (has_back history at e within p r (idle r)) ∙ has);
      stays = λ r was. completed_stays history at e within mode r (before.stays r was);
      snapshots = λ round is. snapshot_event history at e round.checks (channel_in round) within
          (before.snapshots round is);
      next_is = elim before.next_is [
        | inl same ↦ inl (same.0, λ begun. same.1 (begun_back last (idle last) begun))
        | inr more ↦ inr more
      ];
    }

module _ (mode : Mode) (history : List Process) (at : ℕ) (state : List ℕ)
    (within : at < length history) (last : ℕ) where
  check_numbers : (next p r : ℕ) → has_check_of r (tape_at (with_event history at (Check state
      (Some next))) p) ≡ true → (has_check_of r (tape_at history p) ≡ true) ⊎ (r ≡ next)
  check_numbers next p r has = elim (cases_eq r next) [
    | inl same ↦ inr same
    | inr apart ↦ inl (sym (has_back history at (Check state (Some next)) within p r
        (ne_eqb next r (λ same. apart (sym same)))) ∙ has)
  ]

  -- a check of the last round comes, which is begun
  pub grows_check : is_begun history last ≡ true
      → Grows mode history (with_event history at (Check state (Some last))) last last
  grows_check begun =
      let e : Event = Check state (Some last) in
      record {
        some = omega (arith, within);
        size = length-with_event history at e;
        numbers = check_numbers last;
        stays = completed_stays history at e within mode;
        snapshots =
            λ round is. snapshot_event history at e round.checks (channel_in round) within is;
        next_is = inl (refl, λ still. begun);
      }

  -- a check of the next round comes, where the last one is closed
  pub grows_next :
      ((p : ℕ) → has_check_of last (tape_at history p) ≡ true
      → is_completed mode history last ≡ true)
      → Grows mode history (with_event history at (Check state (Some (last + 1)))) last (last + 1)
  grows_next done =
      let e : Event = Check state (Some (last + 1)) in
      record {
        some = omega (arith, within);
        size = length-with_event history at e;
        numbers = check_numbers (last + 1);
        stays = completed_stays history at e within mode;
        snapshots =
            λ round is. snapshot_event history at e round.checks (channel_in round) within is;
        next_is = inr (omega arith, done);
      }

-- a restart leaves no round on the tapes
module _ (mode : Mode) (history : List Process) (line : List Choice)
    (size : length line ≡ length history) where
  none_left : (p r : ℕ) → has_check_of r (tape_at (restarted_history history line) p) ≡ true → ⊥
  none_left p r has = both_ways (has_check_of r (tape_at (restarted_history history line) p))
      (no_check_restarted history line r p size) has

  pub restart_listed : (last : ℕ) (rounds : List ListedRound) → AreListed mode history last rounds
      → AreListed mode (restarted_history history line) last (filter (stays line) rounds)
  restart_listed last rounds are = record {
    numbers = λ p r has. absurd (none_left p r has);
    others = λ p r has apart. absurd (none_left p r has);
    snapshots = snapshots_restarted history line rounds size are.snapshots;
    numbered = AreNumbered-filter (suc last) (stays line) rounds are.numbered;
    unlisted = λ begun never. let found = any_found (restarted_history history line) last 0
        (length (restarted_history history line)) begun in absurd (none_left found.0 last found.1);
    told = λ p r has is. absurd (none_left p r has);
  }

  -- where there are no processes, each round is completed
  empty_completed : (m : Mode) (r : ℕ) → length history ≡ 0 → is_completed m history r ≡ true
  empty_completed Fifo r none =
      completed_from history r (λ q below. absurd (omega (arith, below, none)))
  empty_completed Unordered r none =
      checked_from history r (λ q below. absurd (omega (arith, below, none)))

  -- it completes none
  pub restart_completes : (r : ℕ) → is_completed mode history r ≡ false
      → is_completed mode (restarted_history history line) r ≡ true → ⊥
  restart_completes r was is = elim (cases_lt 0 (length history)) [
    | inl some ↦ none_left 0 r (completed_has mode (restarted_history history line) r 0 is
        (omega (arith, some, length_restarted history line size)))
    | inr none ↦ both_ways (is_completed mode history r) was
        (empty_completed mode r (omega (arith, none)))
  ]
