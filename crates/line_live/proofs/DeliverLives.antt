-- A delivery: of a message, or of a marker, by which its receiver may have to take a check.
use Rattle.std.proofs.Common.{◌≡◌, ◌≢◌, ℕ, ◌+◌, ◌-◌, ◌<◌, ◌≤◌, Bool, true, false, not, ◌||◌, cond}
use Rattle.std.proofs.Common.{List, [], ◌∷◌, ◌++◌, length, Option, Some, None, refl, sym, ap, ◌∙◌}
use Rattle.std.proofs.Common.{subst, arith, ◌⊎◌, inl, inr}
use Rattle.std.specs.Prelude.{◌==◌}
use Rattle.std.specs.List.{All, Contains, filter_map, slice_get}
use Rattle.std.proofs.lemmas.Bool.{cases_eq, false≢true, leb-true, leb-false, ne_eqb, eq-eqb}
use Rattle.std.proofs.lemmas.Bool.{eqb-true, eqb-false, lt-ltb, and_right, cases_Bool, or_parts}
use Rattle.std.proofs.lemmas.Bool.{or_right}
use Rattle.std.proofs.lemmas.List.{length-set}
use Rattle.std.proofs.lemmas.List.Elements.{All-head, Contains-append_left, Contains-push}
use Rattle.line_names.specs.declared.messages.MsgName.{MsgName}
use Rattle.line_tape.specs.declared.events.Event.{Event}
use Rattle.line_tape.specs.declared.events.Event.TheVariants.{Recv, Check as CheckEvent, Mark}
use Rattle.line_tape.specs.declared.items.Item.{Item}
use Rattle.line_tape.specs.declared.items.Item.TheVariants.{Message, Marker}
use Rattle.line_tape.specs.Fit.{items_put, link}
use Rattle.line_tape.specs.History.{Process, process_at, tape_at, with_event}
use Rattle.line_tape.specs.Rounds.{is_completed_fifo, has_check_of}
use Rattle.line_tape.specs.Views.{MarksView}
use Rattle.line_tape.proofs.EventLemmas.{tape_same}
use Rattle.line_laws.proofs.CompletionLemmas.{contains_round, marker_checked}
use Rattle.line_laws.proofs.GrowthLemmas.{has_check_push}
use Rattle.line_laws.proofs.NextLemmas.{link_after}
use Rattle.line_laws.proofs.OrderLemmas.{ordered_fit}
use Rattle.line_tape.specs.declared.modes.Mode.TheVariants.{Fifo}
use Rattle.line_tape.specs.declared.steps.Step.{Step}
use Rattle.line_tape.specs.declared.steps.Step.TheVariants.{Deliver}
use Rattle.line_moves.specs.Fates.{events_taken, is_forced, marker_events}
use Rattle.line_moves.specs.Listed.{is_begun, ListedRound, newly_listed}
use Rattle.line_moves.specs.Worlds.{IsItemOf}
use Rattle.line_world.specs.declared.replies.Answer.{Answer}
use Rattle.line_world.specs.declared.replies.Answer.TheVariants.{Done, Refused}
use Rattle.line_world.specs.declared.replies.Reply.{Reply}
use Rattle.line_world.specs.declared.replies.Reply.TheVariants.{Took, Marked}
use Rattle.line_world.specs.declared.replies.StepError.{StepError}
use Rattle.line_world.specs.declared.replies.StepError.TheVariants.{NoSuchProcess, ToSelf}
use Rattle.line_world.specs.declared.replies.StepError.TheVariants.{StateTooLong, LinkEmpty}
use Rattle.line_world.specs.declared.replies.StepError.TheVariants.{BadPick, TapeFull}
use Rattle.line_world.specs.Machine.{Machine, with_step}
use Rattle.line_world.specs.Refusals.{first_cause, is_full, is_full_for, is_long, is_stranger}
use Rattle.line_world.specs.Refusals.{link_causes, refusal_of, IsRefused}
use Rattle.line_world.specs.Runs.{Takes}
use Rattle.line_world.specs.Steps.{reply_taken}
use Rattle.line_cuts.specs.Cuts.{Floor, lost_sends, is_left, cut_name, cut_history, cut_item}
use Rattle.line_cuts.specs.Cuts.{whole_name}
use Rattle.line_cuts.proofs.LinkCuts.{link_cut}
use Rattle.line_cuts.proofs.RoundCuts.{checked_cut}
use Rattle.line_live.specs.CutMachines.{cut_machine, whole_reply, AnswersAlike, IsBeside}
use Rattle.line_live.specs.CutMachines.{IsItemLeft}
use Rattle.line_live.proofs.CauseLemmas.{passes, refused_alike, room_cases}
use Rattle.line_live.proofs.CheckLives.{check_on}
use Rattle.line_live.proofs.EventLives.{made, nothing_put, stranger_same, fuller, step_same}
use Rattle.line_live.proofs.EventLives.{beside_event, completed_same, history_event, newly_event}
use Rattle.line_live.proofs.EventLives.{IsEventOn}
use Rattle.line_live.proofs.ListingCuts.{newly_cut}
use Rattle.line_laws.proofs.RoundLines.{closed_has_check}
use Rattle.line_live.proofs.BeginLives.{begun_has}
use Rattle.line_live.proofs.PickedItems.{link_from, left_item, picked_cut, length_cut, first_is}
use Rattle.line_live.proofs.PickedItems.{some_same, none_got, unforced, forced, IsCutOf}

module _ (floor : Floor) (history : List Process) (marks : MarksView) (last : ℕ)
    (rounds : List ListedRound) (copies : List (List (List MsgName))) (is : IsBeside floor
    (made history marks last rounds copies)) (from to pick : ℕ) (state : List ℕ) where
  abbrev old : Machine
  old = made history marks last rounds copies

  abbrev kept : Machine
  kept = cut_machine floor old

  abbrev cut_past : List Process
  cut_past = cut_history floor history

  items_same : link cut_past from to ≡ filter_map (cut_item floor) (link history from to)
  items_same = link_cut floor history is.old is.fit from to

  -- a marker forces a check there where it does in the whole
  forced_same : (r : ℕ) → floor.round < r → is_forced cut_past to r ≡ is_forced history to r
  forced_same r late = ap not (checked_cut floor history is.old r late to)

  kept_is : (item k : Item) → IsItemLeft floor item → (c : Item) → cut_item floor item ≡ Some c
      → cut_item floor item ≡ Some k → k ≡ c
  kept_is item k left c e d = some_same k c (sym d ∙ e)

  full_same : (k i : Option Item) → IsCutOf floor k i → is_full_for kept from to state k ≡ true
      → is_full_for old from to state i ≡ true
  full_same None None c e = e
  full_same None (Some i) c e = absurd c
  full_same (Some k) None c e = absurd c
  full_same (Some k) (Some (Message m)) (is_cut, left) e =
      let same : k ≡ Message (cut_name floor m) = some_same k (Message (cut_name floor m))
      (sym is_cut ∙ left_item floor (Message m) left) in
      fuller floor old to 1
      (sym (ap (λ (v : Item). is_full_for kept from to state (Some v)) same) ∙ e)
  full_same (Some k) (Some (Marker r)) (is_cut, left) e =
      let same : k
      ≡ Marker r = some_same k (Marker r) (sym is_cut ∙ left_item floor (Marker r) left) in
      fuller floor old to (length (marker_events (is_forced history to r) from state r))
      (sym (ap (λ b. is_full kept to (length (marker_events b from state r))) (forced_same r left))
      ∙ sym (ap (λ (v : Item). is_full_for kept from to state (Some v)) same) ∙ e)

  -- the causes are the same
  abbrev causes : List (Bool × StepError)
  causes = link_causes old from to pick state

  strangers_same : (is_stranger kept from || is_stranger kept to)
      ≡ (is_stranger old from || is_stranger old to)
  strangers_same = ap (λ b. b || is_stranger kept to) (stranger_same floor old from) ∙ ap
      (λ b. is_stranger old from || b) (stranger_same floor old to)

  no_check : (r : ℕ) → false ≡ true → r ≡ last
  no_check r e = absurd (cc)

  same_last : (h : List Process) → (last ≡ last → ⊥) → is_begun h last ≡ true
      → is_completed_fifo h last ≡ true
  same_last h other begun = absurd (other refl)

  module _ (reply : Reply) (cut : Machine) (h : to < length history) (first : pick ≡ 0)
      (room : (refusal_of old (Deliver from to pick state) ≡ None)
      ⊎ (refusal_of old (Deliver from to pick state) ≡ Some TapeFull)) where
    begins : (item : Item) → slice_get (link history from to) pick ≡ Some item
        → (rest : List Item) × (link history from to ≡ item ∷ rest)
    begins item e =
        first_is (link history from to) item (ap (slice_get (link history from to)) (sym first) ∙ e)

    module _ (m : MsgName) (picked : slice_get (link history from to) pick ≡ Some (Message m))
        (left : is_left floor m ≡ true) where
      back : whole_name floor (cut_name floor m) ≡ m
      back =
          let enough : lost_sends floor m.from ≤ m.number = leb-true
          (lost_sends floor m.from) m.number left in
          let number : (m.number - lost_sends floor m.from) + lost_sends floor m.from
          ≡ m.number = omega arith in
          ap (λ (n : ℕ). record { from = m.from; inc = m.inc; number = n }) number

      sender : m.from ≡ from
      sender = All-head (IsItemOf from) (Message m) (begins (Message m) picked).0
          (subst (All (IsItemOf from)) (begins (Message m) picked).1 (link_from history from to))

      receipt_on : IsEventOn floor history to (Recv m) (Recv (cut_name floor m))
      receipt_on = record {
        next = (
          (begins (Message m) picked).0,
          ap (λ v. link history v to) sender ∙
              (begins (Message m) picked).1,
        );
        unchecked = λ r low. refl;
        unmarked = λ r p low. refl;
        put = λ p q. nothing_put floor (p == to);
        is_cut = ap (λ b. cond b (Recv (cut_name floor m) ∷ []) []) left;
      }

      message_alike : reply ≡ Took (cut_name floor m) None → cut ≡ with_step kept to (Recv (cut_name
          floor m) ∷ []) last → AnswersAlike floor old (Deliver from to pick state) (Done reply) cut
      message_alike reply_is new_is = record {
        new = with_step old to (Recv m ∷ []) last;
        takes = (
          room,
          record {
            item = Message m;
            picked = picked;
            reply_is = ap
                (whole_reply floor) reply_is ∙ ap (λ (v : MsgName). Took v None) back;
            new_is = refl;
          },
        );
        beside = beside_event floor history marks last rounds copies is to (Recv m)
            (Recv (cut_name floor m)) h receipt_on last (omega arith) no_check (same_last history)
            (rounds ++ newly_listed Fifo history (with_event history to (Recv m)) last) copies;
        same = new_is ∙ step_same floor history marks last rounds copies
            (with_event history to (Recv m)) (with_event cut_past to (Recv (cut_name floor m)))
            (history_event floor history marks last rounds copies is to (Recv m) (Recv
            (cut_name floor m)) h receipt_on last (omega arith) no_check (same_last history))
            (newly_event floor history marks last rounds copies is to (Recv m) (Recv
            (cut_name floor m)) h receipt_on last (omega arith) no_check (same_last history));
      }

    module _ (r : ℕ) (picked : slice_get (link history from to) pick ≡ Some (Marker r))
        (late : floor.round < r) where
      abbrev mark : Event
      mark = Mark from r

      abbrev check : Event
      check = CheckEvent state (Some r)

      -- the marker is received from any history whose link begins with it
      mark_on : (h' : List Process) (rest : List Item) → link h' from to ≡ Marker r ∷ rest
          → has_check_of r (tape_at h' to) ≡ true → IsEventOn floor h' to mark mark
      mark_on h' rest e has = record {
        next = ((rest, e), contains_round (tape_at h' to) r has);
        unchecked = λ s low. refl;
        unmarked =
            λ s p low. and_right (from == p) (r == s) (ne_eqb r s (λ x. omega (arith, late)));
        put = λ p q. nothing_put floor (p == to);
        is_cut = ap (λ b. cond b (mark ∷ []) []) (lt-ltb floor.round r late);
      }

      -- the sender has begun the round
      begun_there : is_begun history r ≡ true
      begun_there =
          let there : Contains (link history from to) (Marker r) = subst
          (λ (xs : List Item). Contains xs (Marker r)) (sym (begins (Marker r) picked).1)
          (Contains-append_left (Marker r ∷ []) (begins (Marker r) picked).0 (Marker r)
          (Contains-push [] (Marker r))) in
          begun_has history from r (marker_checked history from to r there)

      module _ (none : has_check_of r (tape_at history to) ≡ false) where
        check_first : IsEventOn floor history to check check
        check_first = check_on floor history marks last rounds copies is to state (Some r) none
            (λ s e. let same : r ≡ s = cc e in omega (arith, late))

        -- so it is the last one, since the receiver has not checked it
        is_last : r ≡ last
        is_last = elim (cases_eq r last) [
          | inl same ↦ same
          | inr other ↦ absurd (false≢true
              (sym none ∙ closed_has_check history r to (is.others r other begun_there) h))
        ]

        checked : (s : ℕ) → (r == s) ≡ true → s ≡ last
        checked s e = sym (eqb-true r s e) ∙ is_last

        abbrev mid : List Process
        mid = with_event history to check

        beside_mid : IsBeside floor (made mid marks last rounds copies)
        beside_mid = beside_event floor history marks last rounds copies is to check check h
            check_first last (omega arith) checked (same_last history) rounds copies

        within_mid : to < length mid
        within_mid = omega (
          arith,
          h,
          length-set history to
              (record (process_at history to) { tape = tape_at history to ++ check ∷ [] }),
        )

        has_mid : has_check_of r (tape_at mid to) ≡ true
        has_mid = ap (has_check_of r) (tape_same history to check to h refl) ∙ has_check_push
            (tape_at history to) check r ∙ or_right (has_check_of r (tape_at history to)) (r == r)
            (eq-eqb r r refl)

        link_mid : link mid from to
            ≡ Marker r ∷ ((begins (Marker r) picked).0 ++ items_put history to check from to)
        link_mid =
            link_after history to check is.fit h from to (link history from to)
            (ap (λ (v : List Item). v ++ link history from to) (sym (none_got (to == to))))
            ∙ ap (λ (v : List Item). v ++ items_put history to check from to)
            (begins (Marker r) picked).1

        mark_then : IsEventOn floor mid to mark mark
        mark_then = mark_on mid
            ((begins (Marker r) picked).0 ++ items_put history to check from to) link_mid has_mid

        abbrev end : List Process
        end = with_event mid to mark

        forced_alike : is_forced history to r ≡ true → reply ≡ Marked r true
            → cut ≡ with_step kept to (check ∷ mark ∷ []) last
            → AnswersAlike floor old (Deliver from to pick state) (Done reply) cut
        forced_alike is_so reply_is new_is =
            let beside = beside_event floor mid marks last rounds copies beside_mid to mark mark
            within_mid mark_then last (omega arith) no_check (same_last mid)
            (rounds ++ newly_listed Fifo history end last) copies in
            record {
              new = with_step old to (check ∷ mark ∷ []) last;
              takes = (
                room,
                record {
                  item = Marker r;
                  picked = picked;
                  reply_is = ap (whole_reply floor) reply_is ∙ sym (ap (λ b. Marked r b) is_so);
                  new_is =
                      sym (ap (λ b. with_step old to (marker_events b from state r) last) is_so);
                },
              );
              beside = beside;
              same = new_is ∙ step_same floor history marks last rounds copies end
                  (with_event (with_event cut_past to check) to mark)
                  (ap (λ (v : List Process). with_event v to mark)
                  (history_event floor history marks last rounds copies is to check check h
                  check_first last (omega arith) checked (same_last history))
                  ∙ history_event floor mid marks last rounds copies beside_mid to mark mark
                  within_mid mark_then last (omega arith) no_check (same_last mid))
                  (newly_cut floor history end last
                  (ordered_fit end beside.fit) beside.is is.old beside.old
                  (omega (
                    arith,
                    within_mid,
                    length-set mid to
                        (record (process_at mid to) { tape = tape_at mid to ++ mark ∷ [] }),
                  ))
                  (λ low. completed_same floor mid marks last rounds copies beside_mid to mark mark
                  within_mid mark_then last (omega arith) no_check (same_last mid) last low
                  ∙ completed_same floor history marks last rounds copies is to check check h
                  check_first last (omega arith) checked (same_last history) last low));
            }

      marked_alike : is_forced history to r ≡ false → reply ≡ Marked r false → cut ≡ with_step kept
          to (mark ∷ []) last → AnswersAlike floor old (Deliver from to pick state) (Done reply) cut
      marked_alike is_so reply_is new_is =
          let on : IsEventOn floor history to mark mark = mark_on history
          (begins (Marker r) picked).0 (begins (Marker r) picked).1
          (unforced (has_check_of r (tape_at history to)) is_so) in
          record {
            new = with_step old to (mark ∷ []) last;
            takes = (
              room,
              record {
                item = Marker r;
                picked = picked;
                reply_is = ap (whole_reply floor) reply_is ∙ sym (ap (λ b. Marked r b) is_so);
                new_is = sym (ap (λ b. with_step old to (marker_events b from state r) last) is_so);
              },
            );
            beside = beside_event floor history marks last rounds copies is to mark mark h on last
                (omega arith) no_check (same_last history)
                (rounds ++ newly_listed Fifo history (with_event history to mark) last) copies;
            same = new_is ∙ step_same floor history marks last rounds copies
                (with_event history to mark) (with_event cut_past to mark)
                (history_event floor history marks last rounds copies is to mark mark h on last
                (omega arith) no_check (same_last history))
                (newly_event floor history marks last rounds copies is to mark mark h on last
                (omega arith) no_check (same_last history));
          }

      marker_alike : (b : Bool) → is_forced history to r ≡ b
          → reply ≡ Marked r (is_forced cut_past to r)
          → cut ≡ with_step kept to (marker_events (is_forced cut_past to r) from state r) last
          → AnswersAlike floor old (Deliver from to pick state) (Done reply) cut
      marker_alike true is_so reply_is new_is =
          let there : is_forced cut_past to r ≡ true = forced_same r late ∙ is_so in
          forced_alike (forced (has_check_of r (tape_at history to)) is_so) is_so
          (reply_is ∙ ap (λ b. Marked r b) there)
          (new_is ∙ ap (λ b. with_step kept to (marker_events b from state r) last) there)
      marker_alike false is_so reply_is new_is =
          let there : is_forced cut_past to r ≡ false = forced_same r late ∙ is_so in
          marked_alike is_so (reply_is ∙ ap (λ b. Marked r b) there)
          (new_is ∙ ap (λ b. with_step kept to (marker_events b from state r) last) there)

    -- by what is picked in the whole
    picked_alike : (k : Item) (i : Option Item) → slice_get (link history from to) pick ≡ i
        → IsCutOf floor (Some k) i → reply ≡ reply_taken Fifo cut_past to k
        → cut ≡ with_step kept to (events_taken Fifo cut_past from to state k) last
        → AnswersAlike floor old (Deliver from to pick state) (Done reply) cut
    picked_alike k None e c reply_is new_is = absurd c
    picked_alike k (Some (Message m)) e (is_cut, left) reply_is new_is =
        let same : k ≡ Message (cut_name floor m) = some_same k (Message (cut_name floor m))
        (sym is_cut ∙ left_item floor (Message m) left) in
        message_alike m e left (reply_is ∙ ap (λ (v : Item). reply_taken Fifo cut_past to v) same)
        (new_is ∙ ap (λ (v : Item). with_step kept to
        (events_taken Fifo cut_past from to state v) last) same)
    picked_alike k (Some (Marker r)) e (is_cut, left) reply_is new_is =
        let same : k
        ≡ Marker r = some_same k (Marker r) (sym is_cut ∙ left_item floor (Marker r) left) in
        marker_alike r e left (is_forced history to r) refl
        (reply_is ∙ ap (λ (v : Item). reply_taken Fifo cut_past to v) same) (new_is ∙ ap (λ
        (v : Item). with_step kept to (events_taken Fifo cut_past from to state v) last) same)

  abbrev full_kept : Bool
  full_kept = is_full_for kept from to state (slice_get (link cut_past from to) pick)

  abbrev full_old : Bool
  full_old = is_full_for old from to state (slice_get (link history from to) pick)

  abbrev step : Step
  step = Deliver from to pick state

  -- what comes after the first two causes
  abbrev later : Bool → Bool → List (Bool × StepError)
  later none full = (is_long state, StateTooLong) ∷ (none, LinkEmpty) ∷ (not (pick == 0), BadPick)
      ∷ (full, TapeFull) ∷ []

  abbrev listed : Bool → Bool → Bool → List (Bool × StepError)
  listed stranger none full = (stranger, NoSuchProcess) ∷ (from == to, ToSelf) ∷ later none full

  -- where one of these two holds
  soon_done : (a b : Bool) (rest : List (Bool × StepError)) → (a || b) ≡ true
      → first_cause ((a, NoSuchProcess) ∷ (b, ToSelf) ∷ rest) ≡ None → ⊥
  soon_done true b rest soon e = cc
  soon_done false true rest soon e = cc
  soon_done false false rest soon e = cc

  soon_refused : (a b : Bool) (e : StepError) (rest more : List (Bool × StepError))
      → (a || b) ≡ true → IsRefused kept step e (first_cause ((a, NoSuchProcess) ∷ (b, ToSelf)
      ∷ rest)) → IsRefused old step e (first_cause ((a, NoSuchProcess) ∷ (b, ToSelf) ∷ more))
  soon_refused true b e rest more soon r = r
  soon_refused false true e rest more soon r = r
  soon_refused false false e rest more soon r = absurd (cc)

  soon_alike : ((is_stranger old from || is_stranger old to) || (from == to)) ≡ true → (answer :
      Answer) (cut : Machine) → Takes kept step answer cut → AnswersAlike floor old step answer cut
  soon_alike soon (Done reply) cut (none, does) =
      absurd (soon_done (is_stranger old from || is_stranger old to) (from == to)
      (later (length (link cut_past from to) == 0) full_kept) soon
      (sym (ap (λ b. first_cause (listed b (length (link cut_past from to) == 0) full_kept))
      strangers_same) ∙ none))
  soon_alike soon (Refused e) cut (refused, same) = record {
    new = old;
    takes = (
      soon_refused (is_stranger old from || is_stranger old to) (from == to) e
          (later (length (link cut_past from to) == 0) full_kept)
          (later (length (link history from to) == 0) full_old) soon
          (subst (λ b. IsRefused kept step e (first_cause
          (listed b (length (link cut_past from to) == 0) full_kept))) strangers_same refused),
      refl,
    );
    beside = is;
    same = same;
  }

  -- where none of them does
  module _ (hf : from < length history) (ht : to < length history) (other : from ≢ to) where
    all_left : All (IsItemLeft floor) (link history from to)
    all_left = is.links from to hf ht other

    causes_same : (full : Bool) → first_cause (link_causes kept from to pick state
        ++ (full, TapeFull) ∷ []) ≡ first_cause (causes ++ (full, TapeFull) ∷ [])
    causes_same full =
        ap (λ b. first_cause (listed b (length (link cut_past from to) == 0) full)) strangers_same
        ∙ ap (λ n. first_cause (listed (is_stranger old from || is_stranger old to) (n == 0) full))
        (ap (λ (xs : List Item). length xs) items_same ∙ length_cut floor
        (link history from to) all_left)

    -- and the first item is picked
    first_picked : (full : Bool) → first_cause (causes ++ (full, TapeFull) ∷ []) ≡ None → pick ≡ 0
    first_picked full none =
        let rest4 : List (Bool × StepError) = (full, TapeFull) ∷ [] in
        let rest3 : List (Bool × StepError) = (not (pick == 0), BadPick) ∷ rest4 in
        let rest2 : List (Bool × StepError) = (length (link history from to) == 0, LinkEmpty)
        ∷ rest3 in
        let rest1 : List (Bool × StepError) = (is_long state, StateTooLong) ∷ rest2 in
        let p1 = passes (is_stranger old from || is_stranger old to) NoSuchProcess
        ((from == to, ToSelf) ∷ rest1) none in
        let p2 = passes (from == to) ToSelf rest1 p1.1 in
        let p3 = passes (is_long state) StateTooLong rest2 p2.1 in
        let p4 = passes (length (link history from to) == 0) LinkEmpty rest3 p3.1 in
        let p5 = passes (not (pick == 0)) BadPick rest4 p4.1 in
        eqb-true pick 0 (unforced (pick == 0) p5.0)

    -- what is picked there, beside what is picked in the whole
    both_picked : IsCutOf floor (slice_get (link cut_past from to) pick)
        (slice_get (link history from to) pick)
    both_picked =
        subst (λ (xs : List Item). IsCutOf floor (slice_get xs pick) (slice_get (link history from
        to) pick)) (sym items_same) (picked_cut floor (link history from to) pick all_left)

    apart_alike : (answer : Answer) (cut : Machine) → Takes kept step answer cut
        → AnswersAlike floor old step answer cut
    apart_alike (Done reply) cut (none, does) =
        let none' : first_cause (causes ++ (full_kept, TapeFull) ∷ [])
        ≡ None = sym (causes_same full_kept) ∙ none in
        picked_alike reply cut ht (first_picked full_kept none') (room_cases causes full_kept
        full_old none') does.item (slice_get (link history from to) pick) refl
        (subst (λ (o : Option Item). IsCutOf floor o (slice_get (link history from to) pick))
        does.picked both_picked) does.reply_is does.new_is
    apart_alike (Refused e) cut (refused, same) = record {
      new = old;
      takes = (
        refused_alike kept old step e causes full_kept full_old (full_same (slice_get (link cut_past
            from to) pick) (slice_get (link history from to) pick) both_picked) (λ late. late)
            (subst (IsRefused kept step e) (causes_same full_kept) refused),
        refl,
      );
      beside = is;
      same = same;
    }

  pub deliver_alike : (answer : Answer) (cut : Machine) → Takes kept step answer cut
      → AnswersAlike floor old step answer cut
  deliver_alike answer cut takes =
      elim (cases_Bool ((is_stranger old from || is_stranger old to) || (from == to))) [
        | inl soon ↦ soon_alike soon answer cut takes
        | inr apart ↦
            let parts = or_parts (is_stranger old from || is_stranger old to) (from == to) apart in
            let named = or_parts (is_stranger old from) (is_stranger old to) parts.0 in
            apart_alike (leb-false (length history) from named.0)
            (leb-false (length history) to named.1) (eqb-false from to parts.1) answer cut takes
      ]
