-- Listed rounds that are told by their numbers and checks.
use Rattle.std.proofs.Common.{◌≡◌, ◌↔◌, IsTrue, Bool, ℕ, zero, suc, ◌+◌, ◌<◌, ◌≤◌, cond, List, []}
use Rattle.std.proofs.Common.{◌∷◌, ◌++◌, length, map, take, get_or, refl, sym, ap, ◌∙◌, subst}
use Rattle.std.proofs.Common.{arith, inl, inr}
use Rattle.std.specs.Prelude.{◌==◌}
use Rattle.std.specs.List.{All, AllPairs}
use Rattle.std.proofs.lemmas.Bool.{cases_eq, cases_lt, eq-eqb, ne_eqb}
use Rattle.std.proofs.lemmas.List.{get_or-map, length-map, map-append, take_more}
use Rattle.std.proofs.lemmas.List.Elements.{All-map, All-weaker}
use Rattle.std.proofs.lemmas.List.FromFn.{length-map-range_with_len}
use Rattle.line_names.specs.declared.choices.Choice.{Choice}
use Rattle.line_names.specs.declared.choices.Choice.TheVariants.{Check as AtCheck}
use Rattle.line_names.specs.declared.messages.MsgName.{MsgName}
use Rattle.line_names.specs.Lines.{choice_at}
use Rattle.line_tape.specs.Front.{front}
use Rattle.line_tape.specs.History.{Process, tape_at}
use Rattle.line_tape.specs.Line.{events_before, AreSentBefore, IsConsistent, IsLine}
use Rattle.line_tape.specs.Rounds.{check_line}
use Rattle.line_tape.specs.Transit.{in_transit_between}
use Rattle.line_vectors.specs.Reach.{sents_of}
use Rattle.line_vectors.specs.Vectors.{Fits}
use Rattle.line_cuts.specs.Cuts.{Floor}
use Rattle.line_cuts.specs.Floors.{floor_of_line, settled_sends}
use Rattle.line_rounds.specs.Tables.{between, table_of}
use Rattle.line_rounds.proofs.TableLemmas.{between-of, table_of-all, IsTable-of}
use Rattle.line_moves.specs.Listed.{ListedRound, channel_in, channel_table, IsSnapshotOf}
use Rattle.line_moves.specs.Worlds.{AreNumbered}
use Rattle.line_live.specs.Resumed.{CheckedRound, checks_in_round, resumed_round, AreByNumber}
use Rattle.line_live.specs.Resumed.{AreChecks, IsConsistentRound}
use Rattle.line_live.proofs.ListedCuts.{same_round}

-- the channel from a process to another is what is in transit at the checks
pub resumed_channel : (history : List Process) (round : CheckedRound) (p q : ℕ) → p < length history
    → q < length history → (p ≡ q → ⊥)
    → channel_in (resumed_round history round) p q
    ≡ in_transit_between history (check_line round.checks) p q
resumed_channel history round p q p_within q_within apart =
    let lists : ℕ → ℕ → List MsgName = in_transit_between history (check_line round.checks) in
    between-of (length history) (λ a b. cond (a == b) [] (lists a b)) p q p_within q_within
    ∙ ap (λ b. cond b [] (lists p q)) (ne_eqb p q apart)

-- a round whose checks make a consistent line is a snapshot
pub resumed_snapshot : (history : List Process) (round : CheckedRound)
    → IsConsistentRound history round → IsSnapshotOf history (resumed_round history round)
resumed_snapshot history round is = record {
  line = is.line;
  consistent = is.consistent;
  transit =
      λ p q p_within q_within apart. resumed_channel history round p q p_within q_within apart;
}

pub resumed_snapshots : (history : List Process) (rounds : List CheckedRound)
    → All (IsConsistentRound history) rounds
    → All (IsSnapshotOf history) (map (resumed_round history) rounds)
resumed_snapshots history rounds all k d within =
    let dx : CheckedRound = checks_in_round d in
    let inside : k < length rounds = omega
    (arith, within, length-map rounds (resumed_round history)) in
    subst (IsSnapshotOf history) (sym (get_or-map (resumed_round history) rounds k dx d inside))
    (resumed_snapshot history (get_or rounds k dx) (all k dx inside))

-- rounds in order are numbered
pub resumed_numbered : (history : List Process) (last : ℕ) (rounds : List CheckedRound)
    → AreByNumber last rounds → AreNumbered (last + 1) (map (resumed_round history) rounds)
resumed_numbered history last rounds is = record {
  earlier = λ k d within.
      let dx : CheckedRound = checks_in_round d in
      let inside : k < length rounds = omega
      (arith, within, length-map rounds (resumed_round history)) in
      let at : (get_or (map (resumed_round history) rounds) k d).number
      ≡ (get_or rounds k dx).number = ap (λ (r : ListedRound). r.number)
      (get_or-map (resumed_round history) rounds k dx d inside) in
      let known : (get_or rounds k dx).number ≤ last = is.begun k dx inside in
      omega (arith, at, known);
  ascending = λ i j d below within.
      let dx : CheckedRound = checks_in_round d in
      let inside : j < length rounds = omega
      (arith, within, length-map rounds (resumed_round history)) in
      let at : (get_or (map (resumed_round history) rounds) i d).number
      ≡ (get_or rounds i dx).number = ap (λ (r : ListedRound). r.number)
      (get_or-map (resumed_round history) rounds i dx d (omega (arith, below, inside))) in
      let there : (get_or (map (resumed_round history) rounds) j d).number
      ≡ (get_or rounds j dx).number = ap (λ (r : ListedRound). r.number)
      (get_or-map (resumed_round history) rounds j dx d inside) in
      let known : (get_or rounds i dx).number <
      (get_or rounds j dx).number = is.ascending i j dx below inside in
      omega (arith, at, there, known);
}

-- numbers that rise from each round to the next rise from each to each later one
pub rising : (rounds : List CheckedRound) → ((k : ℕ) (d : CheckedRound) → k + 1 < length rounds
    → (get_or rounds k d).number < (get_or rounds (k + 1) d).number)
    → AllPairs (λ (a b : CheckedRound). a.number < b.number) rounds
rising rounds next i zero d below within = absurd (omega (arith, below))
rising rounds next i (suc j) d below within =
    let same : j + 1 ≡ suc j = omega arith in
    let here : (get_or rounds j d).number < (get_or rounds (suc j) d).number = subst
    (λ (n : ℕ). (get_or rounds j d).number < (get_or rounds n d).number) same
    (next j d (omega (arith, within))) in
    elim (cases_lt i j) [
      | inl lower ↦
          let known : (get_or rounds i d).number <
          (get_or rounds j d).number = rising rounds next i j d lower (omega (arith, within)) in
          omega (arith, known, here)
      | inr upper ↦
          let equal : i ≡ j = omega (arith, below, upper) in
          let known : (get_or rounds i d).number
          ≡ (get_or rounds j d).number = ap (λ (n : ℕ). (get_or rounds n d).number) equal in
          omega (arith, known, here)
    ]

-- a table of channels made of the counts at a line
pub table_counted : (history : List Process) (line : List Choice) (n : ℕ)
    (table : List (List (List MsgName))) → n ≡ length history
    → table ≡ table_of (length history) (in_transit_between history line)
    → channel_table n (between table)
    ≡ channel_table (length history) (in_transit_between history line)
table_counted history line n table count table_is =
    let lists : ℕ → ℕ → List MsgName = in_transit_between history line in
    let full : ℕ → ℕ → List MsgName = between table in
    let made : List (List (List MsgName)) = channel_table (length history) full in
    ap (λ (m : ℕ). channel_table m full) count
    ∙ table_of-all (length history) (λ p q. cond (p == q) [] (lists p q)) made
    (IsTable-of (length history) (λ p q. cond (p == q) [] (full p q)))
    (λ p q p_within q_within.
    between-of (length history) (λ a b. cond (a == b) [] (full a b)) p q p_within q_within
    ∙ ap (λ (v : List MsgName). cond (p == q) [] v) (ap (λ (t : List (List (List MsgName))). between
    t p q) table_is ∙ between-of (length history) lists p q p_within q_within))

module _ (history : List Process) (round : ListedRound) (made : round.channels ≡ channel_table
    (length round.checks) (channel_in round)) (is : IsSnapshotOf history round) where
  count : length round.checks ≡ length history
  count = sym (length-map round.checks (λ c. AtCheck c)) ∙ is.line.length_is

  whole_made : round.channels ≡ channel_table (length history) (channel_in round)
  whole_made = made ∙ ap (λ (n : ℕ). channel_table n (channel_in round)) count

  -- a snapshot is told by its number and checks
  pub resumed_same : resumed_round history (checks_in_round round) ≡ round
  resumed_same =
      let line : List Choice = check_line round.checks in
      let lists : ℕ → ℕ → List MsgName = in_transit_between history line in
      let table : List (List (List MsgName)) = channel_table (length history) lists in
      same_round (resumed_round history (checks_in_round round)) round refl refl
      (table_of-all (length history) (λ p q. cond (p == q) [] (channel_in round p q)) table
      (IsTable-of (length history) (λ p q. cond (p == q) [] (lists p q)))
      (λ p q p_within q_within.
      between-of (length history) (λ a b. cond (a == b) [] (lists a b)) p q p_within q_within
      ∙ elim (cases_eq p q) [
        | inl same ↦ ap (λ b. cond b [] (lists p q)) (eq-eqb p q same) ∙ ap
            (λ b. cond b [] (channel_in round p q)) (sym (eq-eqb p q same))
        | inr apart ↦ ap (λ (v : List MsgName). cond (p == q) [] v)
            (sym (is.transit p q p_within q_within apart))
      ])
      ∙ sym whole_made)

-- and so are all that are listed
pub all_same : (history : List Process) (rounds : List ListedRound)
    → All (IsSnapshotOf history) rounds → All (λ (round : ListedRound). round.channels
    ≡ channel_table (length round.checks) (channel_in round)) rounds
    → map (resumed_round history) (map checks_in_round rounds) ≡ rounds
all_same history [] snapshots made = refl
all_same history (round ∷ rounds) snapshots made =
    ap (λ (r : ListedRound). r ∷ map (resumed_round history) (map checks_in_round rounds))
    (resumed_same history round (made 0 round (omega arith)) (snapshots 0 round (omega arith)))
    ∙ ap (λ (rs : List ListedRound). round ∷ rs) (all_same history rounds (λ k d within. snapshots
    (suc k) d (omega (arith, within))) (λ k d within. made (suc k) d (omega (arith, within))))

-- a round that is no listed one
none_listed : ListedRound
none_listed = record { number = 0; checks = []; channels = [] }

told_at : (rounds : List ListedRound) (k : ℕ) (d : CheckedRound)
    → k < length (map checks_in_round rounds)
    → get_or (map checks_in_round rounds) k d ≡ checks_in_round (get_or rounds k none_listed)
told_at rounds k d within = get_or-map checks_in_round rounds k none_listed d
    (omega (arith, within, length-map rounds checks_in_round))

-- they stand in order, and their checks make consistent lines
pub told_in_order : (last : ℕ) (rounds : List ListedRound) → AreNumbered (last + 1) rounds
    → AreByNumber last (map checks_in_round rounds)
told_in_order last rounds is = record {
  begun = λ k d within.
      let at : (get_or (map checks_in_round rounds) k d).number ≡ (get_or rounds k
      none_listed).number = ap (λ (r : CheckedRound). r.number) (told_at rounds k d within) in
      let known : (get_or rounds k none_listed).number < last + 1 = is.earlier k none_listed
      (omega (arith, within, length-map rounds checks_in_round)) in
      omega (arith, at, known);
  ascending = λ i j d below within.
      let at : (get_or (map checks_in_round rounds) i d).number
      ≡ (get_or rounds i none_listed).number =
      ap (λ (r : CheckedRound). r.number) (told_at rounds i d (omega (arith, below, within))) in
      let there : (get_or (map checks_in_round rounds) j d).number ≡ (get_or rounds j
      none_listed).number = ap (λ (r : CheckedRound). r.number) (told_at rounds j d within) in
      let known : (get_or rounds i none_listed).number <
      (get_or rounds j none_listed).number = is.ascending i j none_listed below
      (omega (arith, within, length-map rounds checks_in_round)) in
      omega (arith, at, there, known);
}

pub told_consistent : (history : List Process) (rounds : List ListedRound)
    → All (IsSnapshotOf history) rounds → All (λ (round : ListedRound). AreChecks round.checks)
    rounds → All (IsConsistentRound history) (map checks_in_round rounds)
told_consistent history rounds all checked k d within =
    let inside : k < length rounds = omega (arith, within, length-map rounds checks_in_round) in
    let snapshot : IsSnapshotOf history (get_or rounds k none_listed) = all k none_listed inside in
    subst (IsConsistentRound history) (sym (told_at rounds k d within)) (record {
      checked = checked
          k none_listed inside;
      line = snapshot.line;
      consistent = snapshot.consistent;
    })

-- and what is listed of such rounds has no initial state either
pub resumed_checked : (history : List Process) (rounds : List CheckedRound)
    → All (IsConsistentRound history) rounds
    → All (λ (round : ListedRound). AreChecks round.checks) (map (resumed_round history) rounds)
resumed_checked history rounds all =
    All-map (λ (round : ListedRound). AreChecks round.checks) (resumed_round history) rounds
    (All-weaker (IsConsistentRound history) (λ (round : CheckedRound). AreChecks round.checks)
    (λ round is. is.checked) rounds all)

-- a vector fits the sends before a line exactly where all that its process received is sent before
-- it
pub fits_sent : (history : List Process) (line : List Choice) (p : ℕ) (choice : Choice)
    (reach sent : List ℕ) → choice ≡ choice_at line p → sent ≡ sents_of history line
    → ((other : List Choice) → Fits reach (sents_of history other)
    ↔ AreSentBefore history other (front (tape_at history p) choice))
    → Fits reach sent ↔ AreSentBefore history line (events_before history line p)
fits_sent history line p choice reach sent at sent_is decides =
    subst (λ (c : Choice). Fits reach sent
    ↔ AreSentBefore history line (front (tape_at history p) c)) at
    (subst (λ (s : List ℕ). Fits reach s ↔ AreSentBefore history line
    (front (tape_at history p) choice)) (sym sent_is) (decides line))

-- the line of a round's checks is one: whether it is consistent is whether the round is
pub told_round : (history known : List Process) (round : CheckedRound) (line : List Choice)
    (checks : List ℕ) → known ≡ history → line ≡ check_line checks → checks ≡ round.checks
    → AreChecks checks → IsLine known line
    → (b : Bool) → IsTrue b ↔ IsConsistent history line → IsTrue b ↔ IsConsistentRound history round
told_round history known round line checks known_is line_is checks_is checked is_line b both =
    let same : line ≡ check_line round.checks = line_is ∙ ap check_line checks_is in
    let is : IsLine history (check_line round.checks) = subst (IsLine history) same
    (subst (λ (h : List Process). IsLine h line) known_is is_line) in (
      λ t. record {
        checked = subst AreChecks checks_is checked;
        line = is;
        consistent = subst
            (IsConsistent history) same (both.0 t);
      },
      λ round_is. both.1 (subst (IsConsistent history) (sym same) round_is.consistent),
    )

-- one listed round more
pub listed_more : (history : List Process) (rounds : List CheckedRound) (i : ℕ)
    (here : CheckedRound) (listed : ListedRound) (old new : List ListedRound) → i < length rounds
    → here ≡ get_or rounds i here
    → listed ≡ resumed_round history here → old ≡ map (resumed_round history) (take i rounds)
    → new ≡ old ++ listed ∷ [] → new ≡ map (resumed_round history) (take (i + 1) rounds)
listed_more history rounds i here listed old new within at listed_is old_is new_is =
    let f : CheckedRound → ListedRound = resumed_round history in
    new_is
    ∙ ap (λ (xs : List ListedRound). xs ++ listed ∷ []) old_is
    ∙ ap (λ (v : ListedRound). map f (take i rounds) ++ v ∷ []) (listed_is ∙ ap f at)
    ∙ sym (ap (map f) (take_more rounds i here within) ∙ map-append f (take i rounds)
    (get_or rounds i here ∷ []))

-- the floor at a line has a count of sends for each process
pub found_sends : (later : Floor) (history : List Process) (line : List Choice) (last : ℕ)
    → later ≡ floor_of_line history line last → length later.sends ≡ length history
found_sends later history line last value = ap (λ (f : Floor). length f.sends) value ∙
    length-map-range_with_len (settled_sends history line) 0 (length history)
