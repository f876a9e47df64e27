-- To let go again by what is kept alone, what is kept of listed rounds, and that it is as every run
-- leaves a machine.
use Rattle.std.proofs.Common.{◌≡◌, ℕ, zero, suc, ◌<◌, ◌≤◌, true, false, cond, List, [], ◌∷◌, length}
use Rattle.std.proofs.Common.{map, take, get_or, Some, refl, sym, ap, ◌∙◌, subst, arith, inl, inr}
use Rattle.std.specs.Prelude.{nat_le}
use Rattle.std.specs.List.{All, AllPairs, Contains, filter, slice_get}
use Rattle.std.proofs.lemmas.Bool.{leb-true, cases_lt, false≢true}
use Rattle.std.proofs.lemmas.List.{get_or_past, length-map}
use Rattle.std.proofs.lemmas.List.Elements.{All-cons, All-contains_itself, All-filter, All-head}
use Rattle.std.proofs.lemmas.List.Elements.{All-nil, All-tail, All-weaker}
use Rattle.std.proofs.lemmas.List.Kept.{AllPairs-filter}
use Rattle.std.proofs.lemmas.Option.{slice_get_read}
use Rattle.line_names.specs.declared.choices.Choice.{Choice}
use Rattle.line_names.specs.declared.choices.Choice.TheVariants.{Check as AtCheck}
use Rattle.line_names.specs.declared.messages.MsgName.{MsgName}
use Rattle.line_names.specs.Lines.{choice_at, IsNowhereLater}
use Rattle.line_names.specs.Order.{IsNoLater}
use Rattle.line_tape.specs.declared.events.Event.{Event}
use Rattle.line_tape.specs.declared.events.Event.TheVariants.{Mark}
use Rattle.line_tape.specs.Fit.{IsFitFifo}
use Rattle.line_tape.specs.Front.{place}
use Rattle.line_tape.specs.History.{Process, tape_at}
use Rattle.line_tape.specs.Rounds.{check_line, has_check_of, is_check_of, rounds_checked}
use Rattle.line_laws.proofs.KeptLemmas.{choice_of_checks}
use Rattle.line_laws.proofs.NextLemmas.{check_in as round_in}
use Rattle.line_laws.proofs.OrderLemmas.{ordered_fit}
use Rattle.line_laws.proofs.RoundLemmas.{any_take}
use Rattle.line_laws.proofs.RoundLines.{in_range}
use Rattle.line_tape.specs.declared.modes.Mode.{Mode}
use Rattle.line_tape.specs.declared.modes.Mode.TheVariants.{Fifo}
use Rattle.line_moves.specs.Listed.{ListedRound, channel_in, check_in, IsSnapshotOf}
use Rattle.line_moves.specs.Modes.{IsFitIn}
use Rattle.line_moves.specs.Worlds.{AreNumbered}
use Rattle.line_world.specs.Machine.{Machine, is_open}
use Rattle.line_world.specs.Sound.{IsSound}
use Rattle.line_cuts.specs.Cuts.{Floor, FloorSurvives, IsFloor, HasOldRounds, floor_check}
use Rattle.line_cuts.specs.Cuts.{floor_line, cut_history, cut_marks, cut_name, whole_floor}
use Rattle.line_cuts.proofs.ConsistentCuts.{floor_at}
use Rattle.line_cuts.proofs.FitCuts.{fit_cut, rounds_cut, HaveOldMarks}
use Rattle.line_cuts.proofs.LatestCuts.{length_history}
use Rattle.line_cuts.proofs.LaterFloors.{floor_both, survives_both}
use Rattle.line_cuts.proofs.RoundCuts.{checked_cut}
use Rattle.line_cuts.proofs.SnapshotCuts.{snapshot_cut}
use Rattle.line_live.specs.CutMachines.{cut_listed, cut_machine, is_listed_on, IsBeside, IsFurther}
use Rattle.line_live.specs.CutMachines.{MayForget}
use Rattle.line_live.proofs.BeginLives.{begins_beside, goes_on_beside}
use Rattle.line_live.proofs.CheckLives.{open_same}
use Rattle.line_live.proofs.ListingCuts.{unchecked_cut}

-- a round is open in what is kept where it is in the whole
pub open_whole : (floor : Floor) (machine : Machine) → IsBeside floor machine
    → is_open (cut_machine floor machine) ≡ is_open machine
open_whole floor machine is =
    let ordered : machine ≡ record machine { mode = Fifo } = ap
    (λ (mode : Mode). record machine { mode = mode }) is.mode in
    subst (λ (m : Machine). IsBeside floor m → is_open (cut_machine floor m) ≡ is_open m)
    (sym ordered)
    (λ beside. open_same floor machine.history machine.marks machine.last_round machine.rounds
    machine.copies beside 0 []) is

module _ (floor later : Floor) (machine : Machine) (is : IsBeside floor machine)
    (idle : is_open (cut_machine floor machine) ≡ false) (last : later.round ≡ machine.last_round)
    (there : IsFloor (cut_history floor machine.history) later) (stays : FloorSurvives
    (cut_history floor machine.history) (cut_marks floor machine.marks) later)
    (some : (p : ℕ) → p < length machine.history → 1 ≤ floor_check floor p
    → 1 ≤ floor_check later p) where
  -- the machine that keeps everything stays beside the one that lets go again
  pub beside_later : IsBeside (whole_floor floor later) machine
  beside_later =
      goes_on_beside floor (whole_floor floor later) machine is
      (sym (open_whole floor machine is) ∙ idle) last
      (floor_both floor later machine.history is.is there some (ordered_fit machine.history is.fit))
      (survives_both floor later machine.history is.is there some machine.marks is.stays stays)

  -- and the later floor is a further one
  pub further_later : length floor.sends ≡ length later.sends
      → length machine.marks.bars ≡ length machine.history
      → All (IsSnapshotOf machine.history) machine.rounds → IsFurther floor later machine
  further_later sends barred snapshots = record {
    first = sym (length-map floor.checks (λ c. AtCheck c)) ∙ is.is.line.length_is;
    checks = sym (length-map later.checks (λ c. AtCheck c)) ∙ there.line.length_is ∙ length_history
        floor machine.history;
    sends = sends;
    some = some;
    rising = omega (arith, last, is.round);
    marked = is.marked;
    barred = barred;
    listed = All-weaker (IsSnapshotOf machine.history)
        (λ (round : ListedRound). length round.checks ≡ length machine.history) (λ round s. sym
        (length-map round.checks (λ c. AtCheck c)) ∙ s.line.length_is) machine.rounds snapshots;
  }

-- an element of a list of lists of which each is mapped
mapped_at : {X : Type 0} (f : List X → List X) → f [] ≡ [] → (xs : List (List X)) (p : ℕ)
    → get_or (map f xs) p [] ≡ f (get_or xs p [])
mapped_at f none [] p = sym none
mapped_at f none (x ∷ xs) zero = refl
mapped_at f none (x ∷ xs) (suc p) = mapped_at f none xs p

-- the channels of a round that stays listed
pub channel_cut : (floor : Floor) (round : ListedRound) (p q : ℕ)
    → channel_in (cut_listed floor round) p q ≡ map (cut_name floor) (channel_in round p q)
channel_cut floor round p q =
    ap (λ (row : List (List MsgName)). get_or row q []) (mapped_at
    (λ row. map (λ messages. map (cut_name floor) messages) row) refl round.channels p)
    ∙ mapped_at (λ messages. map (cut_name floor) messages) refl (get_or round.channels p []) q

module _ (floor : Floor) (history : List Process) (fit : IsFitFifo history)
    (is : IsFloor history floor) where
  abbrev kept : List Process
  kept = cut_history floor history

  -- none of its checks is before the floor
  listed_above : (round : ListedRound) → is_listed_on floor round ≡ true
      → IsNowhereLater (floor_line floor) (check_line round.checks)
  listed_above round on p =
      let low : floor_check floor p ≤ check_in round p = elim (cases_lt p (length floor.checks)) [
        | inl within ↦ leb-true (floor_check floor p) (check_in round p)
            (in_range (λ q. nat_le (floor_check floor q) (check_in round q)) 0
            (length floor.checks) p on (omega arith) (omega arith))
        | inr past ↦ omega (arith, get_or_past floor.checks p 0 past)
      ] in
      subst (λ (c : Choice). IsNoLater c (choice_at (check_line round.checks) p))
      (sym (floor_at floor p))
      (subst (IsNoLater (AtCheck (floor_check floor p)))
      (sym (choice_of_checks round.checks p)) low)

  pub snapshot_left : (round : ListedRound) → is_listed_on floor round ≡ true
      → IsSnapshotOf history round → IsSnapshotOf kept (cut_listed floor round)
  snapshot_left round on snapshot =
      let left = snapshot_cut floor history round.checks (channel_in round)
      (ordered_fit history fit) is (listed_above round on) snapshot in
      record {
        line = left.line;
        consistent = left.consistent;
        transit = λ p q hp hq other.
            channel_cut floor round p q ∙ left.transit p q hp hq other;
      }

  -- what is kept of the listed rounds
  pub snapshots_left : (rounds : List ListedRound) → All (IsSnapshotOf history) rounds
      → All (IsSnapshotOf kept) (map (cut_listed floor) (filter (is_listed_on floor) rounds))
  snapshots_left [] all = All-nil (IsSnapshotOf kept)
  snapshots_left (round ∷ rounds) all =
      let rest = snapshots_left rounds (All-tail (IsSnapshotOf history) round rounds all) in
      let others : List ListedRound = filter (is_listed_on floor) rounds in
      elim (is_listed_on floor round) as (λ b. b ≡ is_listed_on floor round
      → All (IsSnapshotOf kept) (map (cut_listed floor) (cond b (round ∷ others) others))) [
        | true ↦ λ e. All-cons (IsSnapshotOf kept) (cut_listed floor round)
            (map (cut_listed floor) others)
            (snapshot_left round (sym e) (All-head (IsSnapshotOf history) round rounds all)) rest
        | false ↦ λ e. rest
      ] refl

-- their numbers ascend as before, and none is later
abbrev AreAscending : List ListedRound → Type 0
AreAscending rounds = AllPairs (λ (a b : ListedRound). a.number < b.number) rounds

number_at : (floor : Floor) (rounds : List ListedRound) (i : ℕ) (d : ListedRound) → i < length
    rounds → (get_or (map (cut_listed floor) rounds) i d).number ≡ (get_or rounds i d).number
number_at floor [] i d h = absurd (omega arith)
number_at floor (round ∷ rounds) zero d h = refl
number_at floor (round ∷ rounds) (suc i) d h = number_at floor rounds i d (omega arith)

mapped_ascending : (floor : Floor) (rounds : List ListedRound) → AreAscending rounds
    → AreAscending (map (cut_listed floor) rounds)
mapped_ascending floor rounds ascending i j d l within =
    let count : length (map (cut_listed floor) rounds)
    ≡ length rounds = length-map rounds (cut_listed floor) in
    omega (
      arith,
      ascending i j d l (omega (arith, count)),
      number_at floor rounds i d
          (omega (arith, count)),
      number_at floor rounds j d (omega (arith, count)),
    )

ascending_left : (floor : Floor) (rounds : List ListedRound) → AreAscending rounds
    → AreAscending (map (cut_listed floor) (filter (is_listed_on floor) rounds))
ascending_left floor rounds ascending = mapped_ascending floor (filter (is_listed_on floor) rounds)
    (AllPairs-filter (λ (a b : ListedRound). a.number < b.number)
    (is_listed_on floor) rounds ascending)

pub numbered_left : (floor : Floor) (first : ℕ) (rounds : List ListedRound) → AreNumbered first
    rounds → AreNumbered first (map (cut_listed floor) (filter (is_listed_on floor) rounds))
numbered_left floor first rounds is = record {
  earlier = λ i d within.
      let left : List ListedRound = filter (is_listed_on floor) rounds in
      let count : length (map (cut_listed floor) left)
      ≡ length left = length-map left (cut_listed floor) in
      omega (
        arith,
        All-filter (is_listed_on floor)
            (λ (round : ListedRound). round.number < first) rounds is.earlier i d
            (omega (arith, within, count)),
        number_at floor left i d (omega (arith, within, count)),
      );
  ascending = ascending_left floor rounds is.ascending;
}

-- where no round is later than the floor's
module _ (floor : Floor) (history : List Process) (fit : IsFitFifo history)
    (greatest : (p r : ℕ) → has_check_of r (tape_at history p) ≡ true → r ≤ floor.round) where
  old_rounds : (p : ℕ) → All (λ r. r ≤ floor.round) (rounds_checked (tape_at history p))
  old_rounds p =
      let tape : List Event = tape_at history p in
      let rounds : List ℕ = rounds_checked tape in
      All-weaker (Contains rounds) (λ r. r ≤ floor.round)
      (λ r c. greatest p r (round_in r tape c)) rounds (All-contains_itself rounds)

  old_marks : (p : ℕ) → HaveOldMarks floor p (tape_at history p)
  old_marks p from round (k, within, is) =
      let tape : List Event = tape_at history p in
      let at : slice_get tape k ≡ Some (Mark from round) = slice_get_read tape (length tape) k
      (Mark from round) refl within (sym is) in
      let checked : Contains (rounds_checked (take k tape)) round = fit.marks p k from round at in
      greatest p round (any_take (is_check_of round) tape k (round_in round (take k tape) checked))

  old_before : HasOldRounds history floor
  old_before p =
      let tape : List Event = tape_at history p in
      let n : ℕ = place tape (choice_at (floor_line floor) p) in
      let rounds : List ℕ = rounds_checked (take n tape) in
      All-weaker (Contains rounds) (λ r. r ≤ floor.round) (λ r c. greatest p r (any_take
      (is_check_of r) tape n (round_in r (take n tape) c))) rounds (All-contains_itself rounds)

  -- none is left, and links keep their order
  pub unbegun_left : (p : ℕ) → rounds_checked (tape_at (cut_history floor history) p) ≡ []
  unbegun_left p = rounds_cut floor history old_rounds p

  pub fit_left : IsFitFifo (cut_history floor history)
  fit_left = fit_cut floor history fit old_before old_rounds old_marks

module _ (floor : Floor) (machine : Machine) (may : MayForget floor machine) where
  is_beside : IsBeside floor machine
  is_beside = begins_beside floor machine may

  greatest : (p r : ℕ) → has_check_of r (tape_at machine.history p) ≡ true → r ≤ floor.round
  greatest p r has = omega (arith, may.last, is_beside.greatest p r has)

  -- no check that is kept is of a round
  no_round : (p r : ℕ) → has_check_of r (tape_at (cut_history floor machine.history) p) ≡ true → ⊥
  no_round p r has = elim (cases_lt floor.round r) [
    | inl late ↦
        let whole : has_check_of r (tape_at machine.history p)
        ≡ true = sym (checked_cut floor machine.history is_beside.old r late p) ∙ has in
        absurd (omega (arith, greatest p r whole))
    | inr low ↦ false≢true (sym (unchecked_cut floor machine.history r p low) ∙ has)
  ]

  -- what is kept is as every run leaves a machine
  pub kept_sound : IsSound (cut_machine floor machine)
  kept_sound = record {
    fit = subst (λ (mode : Mode). IsFitIn mode (cut_history floor machine.history)) (sym may.mode)
        (fit_left floor machine.history is_beside.fit greatest);
    snapshots = snapshots_left floor machine.history is_beside.fit is_beside.is machine.rounds
        may.sound.snapshots;
    ascending = ascending_left floor machine.rounds may.sound.ascending;
    greatest = λ p r has. absurd (no_round p r has);
    others = λ p r has other. absurd (no_round p r has);
    listed = λ p r has done. absurd (no_round p r has);
  }
