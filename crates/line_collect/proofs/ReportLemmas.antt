-- What is kept of a collection, beside the one that keeps everything, as reports come.
use Rattle.std.proofs.Common.{◌≡◌, ℕ, ◌+◌, ◌-◌, ◌<◌, ◌≤◌, Bool, true, false, cond, List, [], ◌∷◌}
use Rattle.std.proofs.Common.{◌++◌, length, Option, Some, None, refl, sym, ap, ◌∙◌, subst, arith}
use Rattle.std.specs.Prelude.{nat_le, nat_lt, not, ◌==◌, ◌||◌}
use Rattle.std.specs.List.{slice_get}
use Rattle.std.specs.Option.{unwrap_or}
use Rattle.std.proofs.lemmas.Bool.{eqb-true, le-leb, leb-false, lt-ltb, ltb-false, ne_eqb}
use Rattle.std.proofs.lemmas.Bool.{not-false, or_parts}
use Rattle.std.proofs.lemmas.List.{length-set}
use Rattle.std.proofs.lemmas.Option.{unwrap_or-slice_get}
use Rattle.line_catalogue.specs.Agreement.{EventAgrees, IsSentAsNow, NameAgrees}
use Rattle.line_catalogue.proofs.AgreementLemmas.{Agrees-more}
use Rattle.line_claims.specs.Ranges.{IsRoundNumber}
use Rattle.line_collect.specs.Alongside.{IsLeftOfAll, TakesReportWithRoom}
use Rattle.line_collect.specs.Collections.{CollectionView, with_report}
use Rattle.line_collect.specs.declared.reports.Report.{Report}
use Rattle.line_collect.specs.declared.reports.Report.TheVariants as reports
use Rattle.line_collect.specs.declared.tellings.Told.{Told}
use Rattle.line_collect.specs.Answers.{told_record}
use Rattle.line_collect.specs.Lives.{DoesLive, LiveCollectionView, keeping, kept_check}
use Rattle.line_collect.specs.Lives.{live_refusal}
use Rattle.line_collect.specs.Ranges.{IsReportInRange}
use Rattle.line_collect.specs.Refusals.{incarnation_to_send, is_misnamed, is_no_check, is_stale}
use Rattle.line_collect.specs.Refusals.{is_tape_full}
use Rattle.line_collect.proofs.EventLemmas.{to_send_agrees}
use Rattle.line_collect.proofs.MarksAlike.{bar_same, mark_same}
use Rattle.line_collect.proofs.MarksLeft.{bar_marks_same, barred_same, count_same}
use Rattle.line_collect.proofs.MarksLeft.{damaged_same_here, marks_same, spared, unbarred}
use Rattle.line_cuts.specs.Cuts.{Floor, cut_event, cut_history, cut_marks, cut_name, cut_round}
use Rattle.line_cuts.specs.Cuts.{floor_check, is_left, lost_checks, lost_sends, whole_name}
use Rattle.line_cuts.proofs.AgreementCuts.{held_cut, incarnation_cut}
use Rattle.line_cuts.proofs.ConsistentCuts.{floor_at, tape_cut}
use Rattle.line_cuts.proofs.FloorStays.{floor_event, sent_within}
use Rattle.line_cuts.proofs.LatestCuts.{length_history}
use Rattle.line_cuts.proofs.SendCuts.{sends_left}
use Rattle.line_cuts.proofs.StepCuts.{event_cut}
use Rattle.line_cuts.proofs.SurvivalCuts.{checks_left}
use Rattle.line_cuts.specs.Marks.{AreSameMarks}
use Rattle.line_live.proofs.EventLives.{survives_more}
use Rattle.line_moves.specs.Moves.{next_check}
use Rattle.line_names.specs.declared.choices.Choice.TheVariants.{Check as AtCheck}
use Rattle.line_names.specs.declared.limits.TheConstants.{MOST_BODY}
use Rattle.line_names.specs.declared.messages.MsgName.{MsgName}
use Rattle.line_text.specs.Replies.{checked_record, sent_record}
use Rattle.line_tape.specs.declared.events.Event.{Event}
use Rattle.line_tape.specs.declared.events.Event.TheVariants as events
use Rattle.line_tape.specs.declared.limits.TheConstants.{MOST_STATE}
use Rattle.line_tape.specs.Event.{checks, incarnations_sent, sends}
use Rattle.line_tape.specs.Front.{HasChoice}
use Rattle.line_tape.specs.History.{Process, incarnation_at, process_at, tape_at, with_event}
use Rattle.line_tape.specs.Spent.{next_name}
use Rattle.line_tape.specs.Survival.{is_barred, is_damaged, survives}
use Rattle.line_tape.specs.Views.{MarksView, damaged_at, with_bar, with_mark}
use Rattle.line_tape.proofs.EventLemmas.{tape_grows}

-- a cause that does not refuse does not hold, nor do those after it
passed_over : (b : Bool) (code : ℕ) (rest : Option ℕ) → cond b (Some code) rest ≡ None
    → (b ≡ false) × (rest ≡ None)
passed_over true code rest unrefused = absurd (cc unrefused)
passed_over false code rest unrefused = (refl, unrefused)

-- more checks, where more events are
checks_more : (xs ys : List Event) → checks xs ≤ checks (xs ++ ys)
checks_more [] ys = omega arith
checks_more (events.Send to inc body ∷ xs) ys = checks_more xs ys
checks_more (events.Recv m ∷ xs) ys = checks_more xs ys
checks_more (events.Check state round ∷ xs) ys = let ih = checks_more xs ys in omega (arith, ih)
checks_more (events.Mark from round ∷ xs) ys = checks_more xs ys

-- what is left of the round of a check
round_stays : (round : Option ℕ) → IsRoundNumber round → cut_round 0 round ≡ round
round_stays None is = refl
round_stays (Some r) is = ap (λ (b : Bool). cond b (Some r) None) (lt-ltb 0 r (omega (arith, is.0)))

module _ (live : LiveCollectionView) (whole : CollectionView) (left : IsLeftOfAll live whole) where
  abbrev floor : Floor
  floor = live.floor

  abbrev cut_past : List Process
  cut_past = cut_history live.floor whole.history

  abbrev cut_marked : MarksView
  cut_marked = cut_marks live.floor whole.marks

  same_count : length live.kept.history ≡ length whole.history
  same_count =
      ap (λ (h : List Process). length h) left.history ∙ length_history live.floor whole.history

  exists : (p : ℕ) → floor_check live.floor p ≤ checks (tape_at whole.history p)
  exists p =
      subst (HasChoice (tape_at whole.history p)) (floor_at live.floor p) (left.is.line.exist p)

  -- incarnations are the same
  incarnation_same : (p : ℕ) → incarnation_at live.kept.history p ≡ incarnation_at whole.history p
  incarnation_same p = ap (λ (h : List Process). incarnation_at h p) left.history ∙ incarnation_cut
      live.floor whole.history p

  stale_same : (p inc : ℕ) → is_stale live.kept.history p inc ≡ is_stale whole.history p inc
  stale_same p inc = ap (λ (i : ℕ). not (inc == i)) (incarnation_same p)

  -- so is the name of a message, brought back
  named_same : (m : MsgName) → is_left live.floor m ≡ true
      → is_misnamed live.kept.history (cut_name live.floor m) ≡ is_misnamed whole.history m
  named_same m kept =
      let there : incarnation_to_send cut_past m.from (m.number - lost_sends live.floor m.from)
      ≡ incarnation_to_send whole.history m.from m.number =
      sym (unwrap_or-slice_get (incarnations_sent (tape_at cut_past m.from))
      (m.number - lost_sends live.floor m.from) (incarnation_at cut_past m.from))
      ∙ ap (λ (o : Option ℕ). unwrap_or o (incarnation_at cut_past m.from))
      (held_cut live.floor whole.history m kept)
      ∙ ap (λ (i : ℕ). unwrap_or (slice_get (incarnations_sent (tape_at whole.history m.from))
      m.number) i) (incarnation_cut live.floor whole.history m.from)
      ∙ unwrap_or-slice_get (incarnations_sent (tape_at whole.history m.from)) m.number
      (incarnation_at whole.history m.from) in
      ap (λ (h : List Process). is_misnamed h (cut_name live.floor m)) left.history
      ∙ ap (λ (i : ℕ). not (m.inc == i)) there

  next_same : (p : ℕ)
      → whole_name live.floor (next_name live.kept.history p) ≡ next_name whole.history p
  next_same p =
      let enough : lost_sends live.floor p ≤ sends
      (tape_at whole.history p) = sent_within whole.history live.floor left.is p in
      let count : sends (tape_at live.kept.history p) + lost_sends live.floor p
      ≡ sends (tape_at whole.history p) =
      omega (
        arith,
        enough,
        ap (λ (h : List Process). sends (tape_at h p)) left.history,
        ap sends
            (tape_cut live.floor whole.history p),
        sends_left live.floor p 0
            (floor_check live.floor p) (tape_at whole.history p),
      ) in
      ap (λ (n : ℕ). record { from = p; inc = incarnation_at live.kept.history p; number = n })
      count
      ∙ ap (λ (i : ℕ). record { from = p; inc = i; number = sends (tape_at whole.history p) })
      (incarnation_same p)

  index_same : (p : ℕ)
      → next_check live.kept.history p + lost_checks live.floor p ≡ next_check whole.history p
  index_same p = omega (
    arith,
    exists p,
    ap (λ (h : List Process). checks (tape_at h p)) left.history,
    ap checks
        (tape_cut live.floor whole.history p),
    checks_left live.floor p 0 (floor_check live.floor p)
        (tape_at whole.history p) (exists p),
  )

  -- an event of which another one is left
  event_left : (at : ℕ) (event kept : Event) → at < length whole.history
      → cut_event live.floor whole.history at event ≡ kept ∷ [] → IsSentAsNow whole.history at event
      → EventAgrees whole.history event
      → IsLeftOfAll (keeping live (with_report live.kept at kept)) (with_report whole at event)
  event_left at event kept h is now agrees =
      let longer : length (with_event whole.history at event)
      ≡ length whole.history = length-set whole.history at (record
      (process_at whole.history at) { tape = tape_at whole.history at ++ event ∷ [] }) in
      record {
        agrees = Agrees-more whole.history at event h now agrees left.agrees;
        marked = left.marked ∙ sym longer;
        barred = left.barred ∙ sym longer;
        sends = left.sends ∙ sym longer;
        round = left.round;
        is = floor_event whole.history live.floor left.is at event h;
        stays = λ p within.
            let grows = tape_grows whole.history at event p h in
            survives_more whole.history (with_event whole.history at event) whole.marks p
            (floor_check live.floor p)
            (omega (arith, checks_more (tape_at whole.history p) grows.0, ap checks grows.1))
            (left.stays p (omega (arith, within, longer)));
        history =
            ap (λ (h : List Process). with_event h at kept) left.history
            ∙ sym (event_cut live.floor whole.history at event kept h (exists at) is);
        marks = left.marks;
      }

  -- marks in the place of those that there are
  marks_left : (marks kept : MarksView) → length marks.damaged ≡ length whole.marks.damaged
      → length marks.bars ≡ length whole.marks.bars
      → ((p : ℕ) → p < length whole.history → survives whole.history marks [] p (AtCheck
      (floor_check live.floor p)) ≡ true) → AreSameMarks kept (cut_marks live.floor marks)
      → IsLeftOfAll (keeping live (record live.kept { marks = kept }))
      (record whole { marks = marks })
  marks_left marks kept damaged bars stays same = record {
    agrees = left.agrees;
    marked = damaged ∙ left.marked;
    barred = bars ∙ left.barred;
    sends = left.sends;
    round = left.round;
    is = left.is;
    stays = stays;
    history = left.history;
    marks = same;
  }

  -- what becomes of the two
  pub record IsTakenByBoth (report : Report) (told : Told) (new : LiveCollectionView) : Type 0 where
    pub after : CollectionView
    pub takes : TakesReportWithRoom whole report told after
    pub stays : IsLeftOfAll new after

  send_taken : (by inc to : ℕ) (body : List ℕ) (told : Told) (new : LiveCollectionView)
      → by < length whole.history → live_refusal live (reports.Send by inc to body) ≡ None
      → DoesLive live (reports.Send by inc to body) told new
      → IsTakenByBoth (reports.Send by inc to body) told new
  send_taken by inc to body told new h none does =
      let stale = passed_over (is_stale live.kept.history by inc) 47 _ none in
      let long = passed_over (nat_lt MOST_BODY (length body)) 2 _ stale.1 in
      let fresh : is_stale whole.history by inc ≡ false = sym (stale_same by inc) ∙ stale.0 in
      let event : Event = events.Send to inc body in
      let is : cut_event live.floor whole.history by event ≡ event ∷ [] =
      ap (λ (b : Bool). cond b (event ∷ []) []) (le-leb (lost_sends live.floor by)
      (sends (tape_at whole.history by)) (sent_within whole.history live.floor left.is by)) in
      record {
        after = with_report whole by event;
        takes = record {
          unrefused = ap (λ (b : Bool). cond b (Some 47) (cond (nat_lt MOST_BODY (length body))
              (Some 2) None)) fresh ∙ ap (λ (b : Bool). cond b (Some 2) None) long.0;
          does = (
            ap (λ (t : Told). told_record t ∷ []) does.0 ∙ ap
                (λ (m : MsgName). sent_record m ∷ []) (next_same by),
            refl,
          );
        };
        stays = subst (λ (l : LiveCollectionView). IsLeftOfAll l (with_report whole by event))
            (sym does.1)
            (event_left by event event h is (eqb-true inc (incarnation_at whole.history by)
            (not-false (inc == incarnation_at whole.history by) fresh)) tt);
      }

  receive_taken : (by inc : ℕ) (m : MsgName) (told : Told) (new : LiveCollectionView)
      → by < length whole.history → live_refusal live (reports.Receive by inc m) ≡ None
      → DoesLive live (reports.Receive by inc m) told new
      → IsTakenByBoth (reports.Receive by inc m) told new
  receive_taken by inc m told new h none does =
      let stale = passed_over (is_stale live.kept.history by inc) 47 _ none in
      let full = passed_over (is_tape_full live.kept.history by) 3 _ stale.1 in
      let gone = passed_over (not (is_left live.floor m) || is_misnamed live.kept.history
      (cut_name live.floor m)) 38 _ full.1 in
      let parts = or_parts (not (is_left live.floor m))
      (is_misnamed live.kept.history (cut_name live.floor m)) gone.0 in
      let kept : is_left live.floor m ≡ true = not-false (is_left live.floor m) parts.0 in
      let fresh : is_stale whole.history by inc ≡ false = sym (stale_same by inc) ∙ stale.0 in
      let named : is_misnamed whole.history m ≡ false = sym (named_same m kept) ∙ parts.1 in
      let event : Event = events.Recv m in
      let there : Event = events.Recv (cut_name live.floor m) in
      let is : cut_event live.floor whole.history by event
      ≡ there ∷ [] = ap (λ (b : Bool). cond b (there ∷ []) []) kept in
      let agrees : NameAgrees whole.history m = to_send_agrees whole.history m
      (eqb-true m.inc (incarnation_to_send whole.history m.from m.number)
      (not-false (m.inc == incarnation_to_send whole.history m.from m.number) named)) in
      record {
        after = with_report whole by event;
        takes = record {
          unrefused = ap (λ (b : Bool). cond b (Some 47) (cond (is_misnamed whole.history m)
              (Some 38) None)) fresh ∙ ap (λ (b : Bool). cond b (Some 38) None) named;
          does = (ap (λ (t : Told). told_record t ∷ []) does.0, refl);
        };
        stays = subst (λ (l : LiveCollectionView). IsLeftOfAll l (with_report whole by event))
            (sym does.1) (event_left by event there h is tt agrees);
      }

  check_taken : (by inc : ℕ) (state : List ℕ) (round : Option ℕ) (told : Told)
      (new : LiveCollectionView) → by < length whole.history → IsRoundNumber round
      → live_refusal live (reports.Check by inc state round) ≡ None
      → DoesLive live (reports.Check by inc state round) told new
      → IsTakenByBoth (reports.Check by inc state round) told new
  check_taken by inc state round told new h numbered none does =
      let stale = passed_over (is_stale live.kept.history by inc) 47 _ none in
      let long = passed_over (nat_lt MOST_STATE (length state)) 5 _ stale.1 in
      let fresh : is_stale whole.history by inc ≡ false = sym (stale_same by inc) ∙ stale.0 in
      let event : Event = events.Check state round in
      let is : cut_event live.floor whole.history by event ≡ event ∷ [] =
      ap (λ (r : ℕ). events.Check state (cut_round r round) ∷ []) left.round ∙ ap
      (λ (r : Option ℕ). events.Check state r ∷ []) (round_stays round numbered) in
      record {
        after = with_report whole by event;
        takes = record {
          unrefused = ap (λ (b : Bool). cond b (Some 47) (cond (nat_lt MOST_STATE (length state))
              (Some 5) None)) fresh ∙ ap (λ (b : Bool). cond b (Some 5) None) long.0;
          does = (
            ap (λ (t : Told). told_record t ∷ []) does.0 ∙ ap
                (λ (c : ℕ). checked_record by c ∷ []) (index_same by),
            refl,
          );
        };
        stays = subst (λ (l : LiveCollectionView). IsLeftOfAll l (with_report whole by event))
            (sym does.1) (event_left by event event h is tt tt);
      }

  mark_taken : (by inc sender round : ℕ) (told : Told) (new : LiveCollectionView)
      → by < length whole.history → 1 ≤ round → live_refusal live (reports.Mark by inc sender round)
      ≡ None → DoesLive live (reports.Mark by inc sender round) told new
      → IsTakenByBoth (reports.Mark by inc sender round) told new
  mark_taken by inc sender round told new h numbered none does =
      let stale = passed_over (is_stale live.kept.history by inc) 47 _ none in
      let fresh : is_stale whole.history by inc ≡ false = sym (stale_same by inc) ∙ stale.0 in
      let event : Event = events.Mark sender round in
      let is : cut_event live.floor whole.history by event ≡ event ∷ [] = ap (λ (b : Bool). cond b
      (event ∷ []) []) (lt-ltb live.floor.round round (omega (arith, left.round, numbered))) in
      record {
        after = with_report whole by event;
        takes = record {
          unrefused = ap (λ (b : Bool). cond b (Some 47) None) fresh;
          does = (ap (λ (t : Told). told_record t ∷ []) does.0, refl);
        };
        stays = subst (λ (l : LiveCollectionView). IsLeftOfAll l (with_report whole by event))
            (sym does.1) (event_left by event event h is tt tt);
      }

  damage_taken : (by check : ℕ) (told : Told) (new : LiveCollectionView) → by < length whole.history
      → live_refusal live (reports.Damage by check) ≡ None
      → DoesLive live (reports.Damage by check) told new
      → IsTakenByBoth (reports.Damage by check) told new
  damage_taken by check told new h none does =
      let index : ℕ = kept_check live.floor by check in
      let low = passed_over (nat_le check (floor_check live.floor by)) 7 _ none in
      let lacks = passed_over (is_no_check live.kept.history by index) 4 _ low.1 in
      let damaged = passed_over (is_damaged live.kept.marks by index) 8 _ lacks.1 in
      let above : floor_check live.floor by < check = leb-false check
      (floor_check live.floor by) low.0 in
      let within : by < length whole.marks.damaged = omega (arith, h, left.marked) in
      let some : (check == 0) ≡ false = ne_eqb check 0 (λ e. omega (arith, above, e)) in
      let there : is_no_check whole.history by check ≡ false =
      sym (count_same live.floor whole.history whole.marks by check (exists by)) ∙ ap
      (λ (past : List Process). is_no_check past by index) (sym left.history) ∙ lacks.0 in
      let new_there : is_damaged whole.marks by check ≡ false =
      sym (damaged_same_here live.floor whole.history whole.marks by check above) ∙ sym
      (left.marks.damaged by index) ∙ damaged.0 in
      record {
        after = record whole { marks = with_mark whole.marks by check };
        takes = record {
          unrefused =
              ap (λ (b : Bool). cond b (Some 7) (cond (is_no_check whole.history by check) (Some 4)
              (cond (is_damaged whole.marks by check) (Some 8) None))) some
              ∙ ap (λ (b : Bool). cond b (Some 4)
              (cond (is_damaged whole.marks by check) (Some 8) None)) there
              ∙ ap (λ (b : Bool). cond b (Some 8) None) new_there;
          does = (ap (λ (t : Told). told_record t ∷ []) does.0, refl);
        };
        stays = subst (λ (l : LiveCollectionView). IsLeftOfAll l
            (record whole { marks = with_mark whole.marks by check })) (sym does.1)
            (marks_left (with_mark whole.marks by check) (with_mark live.kept.marks by index)
            (length-set whole.marks.damaged by (damaged_at whole.marks by ++ check ∷ [])) refl
            (λ p l. spared live.floor whole.history whole.marks by check above within p
            (floor_check live.floor p)
            (λ e. omega (arith, above, ap (floor_check live.floor) e)) (left.stays p l))
            (subst (AreSameMarks (with_mark live.kept.marks by index))
            (marks_same live.floor whole.history whole.marks by check above within)
            (mark_same live.kept.marks cut_marked by index left.marks)));
      }

  bar_taken : (by check : ℕ) (told : Told) (new : LiveCollectionView) → by < length whole.history
      → live_refusal live (reports.Bar by check) ≡ None
      → DoesLive live (reports.Bar by check) told new
      → IsTakenByBoth (reports.Bar by check) told new
  bar_taken by check told new h none does =
      let index : ℕ = kept_check live.floor by check in
      let low = passed_over (nat_lt check (floor_check live.floor by)) 4 _ none in
      let lacks = passed_over (is_no_check live.kept.history by index) 4 _ low.1 in
      let barred = passed_over (is_barred live.kept.marks by index) 40 _ lacks.1 in
      let above : floor_check live.floor by ≤ check = ltb-false check
      (floor_check live.floor by) low.0 in
      let there : is_no_check whole.history by check ≡ false =
      sym (count_same live.floor whole.history whole.marks by check (exists by)) ∙ ap
      (λ (past : List Process). is_no_check past by index) (sym left.history) ∙ lacks.0 in
      let bar_there : is_barred live.kept.marks by index
      ≡ is_barred cut_marked by index = ap (λ (bars : List (Option ℕ)). is_barred
      (record { damaged = []; bars = bars }) by index) left.marks.bars in
      let lower : is_barred whole.marks by check ≡ false = sym (barred_same live.floor whole.history
      whole.marks by check above) ∙ sym bar_there ∙ barred.0 in
      record {
        after = record whole { marks = with_bar whole.marks by check };
        takes = record {
          unrefused =
              ap (λ (b : Bool). cond b (Some 4)
              (cond (is_barred whole.marks by check) (Some 40) None)) there
              ∙ ap (λ (b : Bool). cond b (Some 40) None) lower;
          does = (ap (λ (t : Told). told_record t ∷ []) does.0, refl);
        };
        stays = subst (λ (l : LiveCollectionView). IsLeftOfAll l
            (record whole { marks = with_bar whole.marks by check })) (sym does.1)
            (marks_left (with_bar whole.marks by check) (with_bar live.kept.marks by index) refl
            (length-set whole.marks.bars by (Some check))
            (λ p l. unbarred live.floor whole.history whole.marks by check above p
            (floor_check live.floor p)
            (λ e. omega (arith, above, ap (floor_check live.floor) e)) (left.stays p l))
            (subst (AreSameMarks (with_bar live.kept.marks by index))
            (bar_marks_same live.floor whole.history whole.marks by check above)
            (bar_same live.kept.marks cut_marked by index left.marks)));
      }

  -- a report that is taken is taken by the collection that keeps everything, and told the same
  pub report_taken : (report : Report) (told : Told) (new : LiveCollectionView)
      → IsReportInRange (length live.kept.history) report → live_refusal live report ≡ None
      → DoesLive live report told new → IsTakenByBoth report told new
  report_taken (reports.Send by inc to body) told new range none does =
      send_taken by inc to body told new (omega (arith, range.0, same_count)) none does
  report_taken (reports.Receive by inc m) told new range none does =
      receive_taken by inc m told new (omega (arith, range.0, same_count)) none does
  report_taken (reports.Check by inc state round) told new range none does =
      check_taken by inc state round told new (omega (arith, range.0, same_count)) range.1 none does
  report_taken (reports.Mark by inc sender round) told new range none does = mark_taken by inc
      sender round told new (omega (arith, range.0, same_count)) range.2.0 none does
  report_taken (reports.Damage by check) told new range none does =
      damage_taken by check told new (omega (arith, range, same_count)) none does
  report_taken (reports.Bar by check) told new range none does =
      bar_taken by check told new (omega (arith, range, same_count)) none does
  report_taken (reports.Plan failed) told new range none does = absurd does
  report_taken reports.Live told new range none does = absurd does
  report_taken (reports.Recover failed) told new range none does = absurd does
  report_taken reports.Forget told new range none does = absurd does
  report_taken reports.History told new range none does = absurd does
  report_taken (reports.Bundle failed) told new range none does = absurd does
  report_taken (reports.Refused code) told new range none does = absurd does
