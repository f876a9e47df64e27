-- What an event leaves of the two machines.
use Rattle.std.proofs.Common.{◌≡◌, ℕ, zero, suc, ◌+◌, ◌<◌, ◌≤◌, Bool, true, false, not, ◌&&◌, cond}
use Rattle.std.proofs.Common.{List, [], ◌∷◌, ◌++◌, length, map, refl, sym, ap, ◌∙◌, subst, arith}
use Rattle.std.proofs.Common.{inl, inr}
use Rattle.std.specs.Prelude.{nat_le, nat_lt, IsTrue}
use Rattle.std.specs.List.{All, filter, list_any, range_with_len}
use Rattle.std.proofs.lemmas.List.Elements.{All-append, All-cons, All-nil, All-tail, filter-append}
use Rattle.std.proofs.lemmas.Bool.{false_from_ne_true, le-leb, or_cases, ltb-true, lt-ltb, cases_eq}
use Rattle.std.proofs.lemmas.List.{length-set, map-append}
use Rattle.line_names.specs.declared.choices.Choice.TheVariants.{Check as AtCheck}
use Rattle.line_names.specs.declared.messages.MsgName.{MsgName}
use Rattle.line_tape.specs.declared.events.Event.{Event}
use Rattle.line_tape.specs.declared.events.Event.TheVariants.{Send as SendEvent, Recv}
use Rattle.line_tape.specs.declared.events.Event.TheVariants.{Check as CheckEvent, Mark}
use Rattle.line_tape.specs.declared.items.Item.{Item}
use Rattle.line_tape.specs.declared.limits.TheConstants.{MOST_EVENTS}
use Rattle.line_tape.specs.Event.{checks}
use Rattle.line_tape.specs.Fit.{IsNextFifo, items_got, items_put}
use Rattle.line_tape.specs.Front.{HasChoice}
use Rattle.line_tape.specs.History.{Process, process_at, tape_at, with_event}
use Rattle.line_tape.specs.Rounds.{is_check_of, is_mark_of, is_completed_fifo, has_check_of}
use Rattle.line_tape.specs.Rounds.{rounds_checked}
use Rattle.line_tape.specs.Survival.{survives, is_damaged, is_allowed}
use Rattle.line_tape.specs.Views.{MarksView, bar_at}
use Rattle.line_tape.proofs.ChoiceLemmas.{survives_within}
use Rattle.line_tape.proofs.EventLemmas.{tape_grows, tape_same, tape_other}
use Rattle.line_laws.proofs.CompletionLemmas.{check_stays, completed_idle}
use Rattle.line_laws.proofs.GrowthLemmas.{completed_event, has_check_push}
use Rattle.line_laws.proofs.NextLemmas.{got_first, link_after, stays_fit}
use Rattle.line_laws.proofs.OrderLemmas.{ordered_fit}
use Rattle.line_laws.proofs.RoundLines.{checks-append}
use Rattle.line_laws.proofs.SnapshotLemmas.{event_fronts}
use Rattle.line_tape.specs.declared.modes.Mode.TheVariants.{Fifo}
use Rattle.line_moves.specs.Listed.{ListedRound, is_begun, newly_listed}
use Rattle.line_world.specs.Machine.{Machine}
use Rattle.line_world.specs.Refusals.{is_stranger, is_full}
use Rattle.line_cuts.specs.Cuts.{Floor, lost_sends, floor_check, is_left, cut_name, cut_events}
use Rattle.line_cuts.specs.Cuts.{cut_event, cut_history, cut_marks}
use Rattle.line_cuts.proofs.ConsistentCuts.{tape_cut, floor_at}
use Rattle.line_cuts.proofs.FloorStays.{floor_event}
use Rattle.line_cuts.proofs.LatestCuts.{length_history}
use Rattle.line_cuts.proofs.StepCuts.{event_cut}
use Rattle.line_live.specs.CutMachines.{cut_listed, cut_machine, is_listed_on, IsBeside, IsItemLeft}
use Rattle.line_live.proofs.ListLemmas.{any_same}
use Rattle.line_live.proofs.ListingCuts.{newly_cut}

-- no more events are left than there were
pub length_left : (floor : Floor) (p k skip : ℕ) (es : List Event)
    → length (cut_events floor p k skip es) ≤ length es
length_left floor p k skip [] = omega arith
length_left floor p k skip (SendEvent to inc body ∷ es) =
    elim (nat_le (lost_sends floor p) k) as
    (λ b. length
    (cond b (SendEvent to inc body ∷ cut_events floor p (suc k) skip es)
    (cut_events floor p (suc k) skip es)) ≤ suc (length es)) [
      | true ↦ omega (
        arith,
        length_left
            floor p (suc k) skip es,
      )
      | false ↦ omega (arith, length_left floor p (suc k) skip es)
    ]
length_left floor p k skip (Recv m ∷ es) =
    elim (is_left floor m) as
    (λ b. length
    (cond b (Recv (cut_name floor m) ∷ cut_events floor p k skip es)
    (cut_events floor p k skip es)) ≤ suc (length es)) [
      | true ↦ omega (
        arith,
        length_left floor
            p k skip es,
      )
      | false ↦ omega (arith, length_left floor p k skip es)
    ]
length_left floor p k zero (CheckEvent state round ∷ es) =
    omega (arith, length_left floor p k zero es)
length_left floor p k (suc zero) (CheckEvent state round ∷ es) =
    omega (arith, length_left floor p k zero es)
length_left floor p k (suc (suc skip)) (CheckEvent state round ∷ es) =
    omega (arith, length_left floor p k (suc skip) es)
length_left floor p k skip (Mark from round ∷ es) =
    elim (nat_lt floor.round round) as
    (λ b. length
    (cond b (Mark from round ∷ cut_events floor p k skip es) (cut_events floor p k skip es)) ≤
    suc (length es)) [
      | true ↦ omega (arith, length_left floor p k skip es)
      | false ↦ omega
          (arith, length_left floor p k skip es)
    ]

-- the same processes are strangers, and a tape that is full there is full
pub stranger_same : (floor : Floor) (old : Machine) (p : ℕ)
    → is_stranger (cut_machine floor old) p ≡ is_stranger old p
stranger_same floor old p = ap (λ n. nat_le n p) (length_history floor old.history)

pub fuller : (floor : Floor) (old : Machine) (p n : ℕ) → is_full (cut_machine floor old) p n ≡ true
    → is_full old p n ≡ true
fuller floor old p n e =
    let few : MOST_EVENTS < length (tape_at (cut_history floor old.history) p) + n = ltb-true
    MOST_EVENTS (length (tape_at (cut_history floor old.history) p) + n) e in
    lt-ltb MOST_EVENTS (length (tape_at old.history p) + n) (omega (
      arith,
      few,
      ap length (tape_cut
          floor old.history p),
      length_left floor p 0 (floor_check floor p) (tape_at old.history p),
    ))

-- a check survives where the tape has more checks
pub survives_more : (a b : List Process) (marks : MarksView) (p c : ℕ)
    → checks (tape_at a p) ≤ checks (tape_at b p) → IsTrue (survives a marks [] p (AtCheck c))
    → IsTrue (survives b marks [] p (AtCheck c))
survives_more a b marks p zero h s = refl
survives_more a b marks p (suc c) h s =
    let there : suc c ≤ checks (tape_at a p) = survives_within a marks [] p (suc c) s in
    ap (λ v. v && not (is_damaged marks p (suc c)) && is_allowed (bar_at marks p) (AtCheck (suc c)))
    (le-leb (suc c) (checks (tape_at b p)) (omega arith) ∙ sym
    (le-leb (suc c) (checks (tape_at a p)) there)) ∙ s

-- the event may come next beside the floor: it is of no round up to the floor's, what it puts on
-- links is left, and one event is left of it
pub record IsEventOn (floor : Floor) (history : List Process) (at : ℕ)
    (e left : Event) : Type 0 where
  pub next : IsNextFifo history at e
  pub unchecked : (r : ℕ) → r ≤ floor.round → is_check_of r e ≡ false
  pub unmarked : (r p : ℕ) → r ≤ floor.round → is_mark_of p r e ≡ false
  pub put : (p q : ℕ) → All (IsItemLeft floor) (items_put history at e p q)
  pub is_cut : cut_event floor history at e ≡ left ∷ []

abbrev pub made : List Process → MarksView → ℕ → List ListedRound → List (List (List MsgName))
    → Machine
made history marks last rounds copies = record {
  mode = Fifo;
  history = history;
  marks = marks;
  last_round = last;
  rounds = rounds;
  copies = copies;
}

-- of a list all of whose parts are left, the later part
rest_of : (floor : Floor) (xs ys : List Item) → All (IsItemLeft floor) (xs ++ ys)
    → All (IsItemLeft floor) ys
rest_of floor [] ys all = all
rest_of floor (x ∷ xs) ys all = rest_of floor xs ys (All-tail (IsItemLeft floor) x (xs ++ ys) all)

module _ (floor : Floor) (history : List Process) (marks : MarksView) (last : ℕ)
    (rounds : List ListedRound) (copies : List (List (List MsgName)))
    (is : IsBeside floor (made history marks last rounds copies))
    (at : ℕ) (e left : Event) (h : at < length history) (on : IsEventOn floor history at e left)
    (last' : ℕ) (rising : last ≤ last') (checked : (r : ℕ) → is_check_of r e ≡ true → r ≡ last')
    (settled : (last ≡ last' → ⊥) → is_begun history last ≡ true
    → is_completed_fifo history last ≡ true) where
  abbrev new : List Process
  new = with_event history at e

  longer : length new ≡ length history
  longer =
      length-set history at (record (process_at history at) { tape = tape_at history at ++ e ∷ [] })

  -- a round that the event is no check of is begun where it was
  begun_same : (r : ℕ) → is_check_of r e ≡ false → is_begun new r ≡ is_begun history r
  begun_same r none =
      ap (λ n. list_any (λ p. has_check_of r (tape_at new p)) (range_with_len 0 n)) longer
      ∙ any_same (λ p. has_check_of r (tape_at new p)) (λ p. has_check_of r (tape_at history p))
      (range_with_len 0 (length history)) (λ p. elim (cases_eq p at) [
        | inl same ↦ ap (has_check_of r) (tape_same history at e p h same) ∙ check_stays
            (tape_at history p) e r none
        | inr other ↦ ap (has_check_of r) (tape_other history at e p other)
      ])

  pub completed_same : (r : ℕ) → r ≤ floor.round
      → is_completed_fifo new r ≡ is_completed_fifo history r
  completed_same r low =
      completed_idle history at e r h (on.unchecked r low) (λ p. on.unmarked r p low)

  -- the machine that keeps everything stays beside the other
  pub beside_event : (rounds' : List ListedRound) (copies' : List (List (List MsgName)))
      → IsBeside floor (made new marks last' rounds' copies')
  beside_event rounds' copies' = record {
    mode = refl;
    fit = stays_fit history at e is.fit h on.next;
    marked = is.marked ∙ sym longer;
    is = floor_event history floor is.is at e h;
    stays = λ p l.
        let grows = tape_grows history at e p h in
        let more : checks (tape_at history p) ≤ checks (tape_at new p) = omega
        (arith, ap checks grows.1, checks-append (tape_at history p) grows.0) in
        survives_more history new marks p (floor_check floor p) more
        (is.stays p (omega (arith, longer)));
    old = λ p. subst (λ (es : List Event). All (λ round. round ≤ floor.round) (rounds_checked es))
        (sym (event_fronts history at e h floor.checks is.is.line p)) (is.old p);
    round = omega (arith, is.round);
    greatest = λ p r has. elim (cases_eq p at) [
      | inl same ↦ elim
          (or_cases (has_check_of r (tape_at history p)) (is_check_of r e) (sym (ap (has_check_of r)
          (tape_same history at e p h same) ∙ has_check_push (tape_at history p) e r) ∙ has)) [
            | inl before ↦ omega (arith, is.greatest p r before)
            | inr now ↦ omega (arith, checked r now)
          ]
      | inr other ↦ omega (
        arith,
        is.greatest p r
            (sym (ap (has_check_of r) (tape_other history at e p other)) ∙ has),
      )
    ];
    links = λ p q lp lq other.
        let got = got_first history at e h on.next p q in
        subst (All (IsItemLeft floor)) (sym (link_after history at e is.fit h p q got.0 got.1))
        (All-append (IsItemLeft floor) got.0 (items_put history at e p q)
        (rest_of floor (items_got at e p q) got.0 (subst (All (IsItemLeft floor)) got.1
        (is.links p q (omega (arith, longer)) (omega (arith, longer)) other))) (on.put p q));
    others = λ r other begun.
        let none : is_check_of r e
        ≡ false = false_from_ne_true (is_check_of r e) (λ t. other (checked r t)) in
        let before : is_begun history r ≡ true = sym (begun_same r none) ∙ begun in
        completed_event history at e r h (elim (cases_eq r last) [
          | inl same ↦ ap (is_completed_fifo history) same ∙ settled (λ x. other (same ∙ x))
              (ap (is_begun history) (sym same) ∙ before)
          | inr apart ↦ is.others r apart before
        ]);
    closed = λ r low begun. completed_same r low ∙ is.closed r low
        (sym (begun_same r (on.unchecked r low)) ∙ begun);
  }

  -- what is left of the history then
  pub history_event : with_event (cut_history floor history) at left ≡ cut_history floor new
  history_event =
      let exists : floor_check floor at ≤ checks (tape_at history at) = subst
      (HasChoice (tape_at history at)) (floor_at floor at) (is.is.line.exist at) in
      sym (event_cut floor history at e left h exists on.is_cut)

  -- and of what is listed
  pub newly_event : newly_listed Fifo (cut_history floor history) (cut_history floor new) last'
      ≡ map (cut_listed floor) (filter (is_listed_on floor) (newly_listed Fifo history new last'))
  newly_event =
      let beside = beside_event rounds copies in
      newly_cut floor history new last' (ordered_fit new beside.fit) beside.is is.old beside.old
      (omega (arith, longer)) (completed_same last')

-- what is left of a machine that a step has changed
module _ (floor : Floor) (history : List Process) (marks : MarksView) (last : ℕ)
    (rounds : List ListedRound) (copies : List (List (List MsgName))) where
  pub step_same : (new cut_new : List Process) → cut_new ≡ cut_history floor new
      → newly_listed Fifo (cut_history floor history) (cut_history floor new) last ≡ map
      (cut_listed floor) (filter (is_listed_on floor) (newly_listed Fifo history new last))
      → made cut_new (cut_marks floor marks) last (map (cut_listed floor) (filter (is_listed_on
      floor) rounds) ++ newly_listed Fifo (cut_history floor history) cut_new last) copies
      ≡ cut_machine floor
      (made new marks last (rounds ++ newly_listed Fifo history new last) copies)
  step_same new cut_new same newly =
      let kept : List ListedRound = map (cut_listed floor) (filter (is_listed_on floor) rounds) in
      let more : List ListedRound = newly_listed Fifo history new last in
      ap (λ (v : List Process). made v (cut_marks floor marks) last
      (kept ++ newly_listed Fifo (cut_history floor history) v last) copies) same
      ∙ ap (λ (v : List ListedRound). made (cut_history floor new) (cut_marks floor marks) last
      (kept ++ v) copies) newly
      ∙ ap (λ (v : List ListedRound). made (cut_history floor new)
      (cut_marks floor marks) last v copies)
      (sym (ap (map (cut_listed floor))
      (filter-append (is_listed_on floor) rounds more) ∙ map-append (cut_listed floor)
      (filter (is_listed_on floor) rounds) (filter (is_listed_on floor) more)))

-- what an event that puts nothing on links puts there
pub nothing_put : (floor : Floor) (b : Bool) → All (IsItemLeft floor) (cond {A = List Item} b [] [])
nothing_put floor true = All-nil (IsItemLeft floor)
nothing_put floor false = All-nil (IsItemLeft floor)

-- and one that puts one item there
pub one_put : (floor : Floor) (item : Item) (b c : Bool) → IsItemLeft floor item
    → All (IsItemLeft floor) (cond b (cond c (item ∷ []) []) [])
one_put floor item true true left =
    All-cons (IsItemLeft floor) item [] left (All-nil (IsItemLeft floor))
one_put floor item true false left = All-nil (IsItemLeft floor)
one_put floor item false c left = All-nil (IsItemLeft floor)
