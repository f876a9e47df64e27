-- What is left of a history takes the events that the whole takes.
use Rattle.std.proofs.Common.{◌≡◌, ◌≢◌, ℕ, zero, suc, ◌+◌, ◌-◌, ◌<◌, ◌≤◌, Bool, true, not, ◌&&◌}
use Rattle.std.proofs.Common.{cond, List, [], ◌∷◌, ◌++◌, length, None, Some, refl, sym, ap, ◌∙◌}
use Rattle.std.proofs.Common.{subst, arith, inl, inr}
use Rattle.std.specs.Prelude.{IfErr, IsTrue, OnErr, OnOk, Result, Ok, Err, Option, ◌⊎◌}
use Rattle.std.proofs.lemmas.Bool.{cases_eq, cases_lt, le-leb, le-ltb, leb-true, lt-ltb}
use Rattle.std.proofs.lemmas.List.{append-nil, length-set, get_or-set_same, get_or-set_other}
use Rattle.line_names.specs.declared.messages.MsgName.{MsgName}
use Rattle.line_names.specs.declared.choices.Choice.TheVariants.{Check as AtCheck}
use Rattle.line_tape.specs.declared.events.Event.{Event}
use Rattle.line_tape.specs.declared.events.Event.TheVariants.{Send, Recv, Check, Mark}
use Rattle.line_tape.specs.declared.limits.TheConstants.{MOST_EVENTS}
use Rattle.line_tape.specs.Event.{checks, sends, HasLongState, NamesBelow}
use Rattle.line_tape.specs.Front.{HasChoice}
use Rattle.line_tape.specs.History.{Process, fresh, incarnation_at, process_at, tape_at, with_event}
use Rattle.line_tape.specs.Survival.{is_allowed, is_damaged, survives}
use Rattle.line_tape.specs.Views.{MarksView, bar_at}
use Rattle.line_tape.proofs.EventLemmas.{tape_grows}
use Rattle.line_tape.proofs.ChoiceLemmas.{survives_within}
use Rattle.line_catalogue.specs.Agreement.{Agrees, AgreesNext, EventAgrees, IsSentAsNow, NameAgrees}
use Rattle.line_catalogue.specs.declared.refusals.AddError.{AddError}
use Rattle.line_catalogue.specs.declared.refusals.AddError.TheVariants.{OutOfMemory, NoSuchProcess}
use Rattle.line_catalogue.specs.declared.refusals.AddError.TheVariants.{StateTooLong, TapeFull}
use Rattle.line_catalogue.specs.declared.refusals.AddError.TheVariants.{NamesDisagree}
use Rattle.line_catalogue.proofs.AgreementLemmas.{Agrees-last, Agrees-more, NameAgrees-before}
use Rattle.line_catalogue.proofs.CatalogueLemmas.{AreOnChecks-event}
use Rattle.line_cuts.specs.Cuts.{Floor, cut_event, cut_events, cut_history, cut_marks, cut_name}
use Rattle.line_cuts.specs.Cuts.{cut_round, cut_tape, floor_check, is_left, lost_sends}
use Rattle.line_cuts.specs.Marks.{AreSameMarks}
use Rattle.line_cuts.proofs.AgreementCuts.{agrees_cut, held_cut, incarnation_cut}
use Rattle.line_cuts.proofs.ConsistentCuts.{floor_at, tape_cut}
use Rattle.line_cuts.proofs.FloorStays.{floor_event, sent_within}
use Rattle.line_cuts.proofs.LatestCuts.{length_history}
use Rattle.line_cuts.proofs.SendCuts.{sends_left}
use Rattle.line_cuts.proofs.StepCuts.{cut_append, cut_process, event_cut, process_cut, same_history}
use Rattle.line_posts.specs.Collected.{IsNotAdded, IsWellNamed}
use Rattle.line_posts.specs.Forgotten.{ReceivesGone}
use Rattle.line_posts.specs.declared.forgetting.Forgotten.{Forgotten}
use Rattle.line_posts.specs.Kept.{IsKeptOf, IsLeftAt, IsTested, IsTestRefused, MayAdd}
use Rattle.line_posts.proofs.GatheringLemmas.{IsAddable}

-- more checks, where more events are
checks_more : (xs ys : List Event) → checks xs ≤ checks (xs ++ ys)
checks_more [] ys = omega arith
checks_more (Send to inc body ∷ xs) ys = checks_more xs ys
checks_more (Recv m ∷ xs) ys = checks_more xs ys
checks_more (Check state round ∷ xs) ys = let ih = checks_more xs ys in omega (arith, ih)
checks_more (Mark from round ∷ xs) ys = checks_more xs ys

-- a check survives where the tape has more checks
survives_more : (a b : List Process) (marks : MarksView) (p c : ℕ)
    → checks (tape_at a p) ≤ checks (tape_at b p) → IsTrue (survives a marks [] p (AtCheck c))
    → IsTrue (survives b marks [] p (AtCheck c))
survives_more a b marks p zero h s = refl
survives_more a b marks p (suc c) h s =
    let there : suc c ≤ checks (tape_at a p) = survives_within a marks [] p (suc c) s in
    ap (λ v. v && not (is_damaged marks p (suc c)) && is_allowed (bar_at marks p) (AtCheck (suc c)))
    (le-leb (suc c) (checks (tape_at b p)) (omega arith) ∙ sym
    (le-leb (suc c) (checks (tape_at a p)) there)) ∙ s

-- an event of which nothing is left
module _ (floor : Floor) (history : List Process) (at : ℕ) (event : Event) (h : at < length history)
    (exists : floor_check floor at ≤ checks (tape_at history at))
    (is : cut_event floor history at event ≡ []) where
  -- adds nothing to what is left
  none_cut : cut_history floor (with_event history at event) ≡ cut_history floor history
  none_cut =
      let new : Process = record
      (process_at history at) { tape = tape_at history at ++ event ∷ [] } in
      same_history (cut_history floor (with_event history at event)) (cut_history floor history)
      (length_history floor (with_event history at event) ∙ length-set history at new ∙ sym
      (length_history floor history))
      (λ p l.
      let within : p < length history = omega
      (arith, length_history floor (with_event history at event), length-set history at new) in
      process_cut floor (with_event history at event) p (omega (arith, length-set history at new))
      ∙ (elim (cases_eq p at) [
        | inl same ↦
            let start : 0 + sends (tape_at history at) ≡ sends (tape_at history at) = omega arith in
            let tape : cut_tape floor at (tape_at history at ++ event ∷ [])
            ≡ cut_tape floor at (tape_at history at) =
            cut_append floor at 0 (floor_check floor at) (tape_at history at) (event ∷ []) exists
            ∙ ap (λ n. cut_tape floor at (tape_at history at)
            ++ cut_events floor at n zero (event ∷ [])) start
            ∙ ap (λ (v : List Event). cut_tape floor at (tape_at history at) ++ v) is
            ∙ append-nil (cut_tape floor at (tape_at history at)) in
            ap (λ q. cut_process floor q (process_at (with_event history at event) q)) same
            ∙ ap (cut_process floor at) (get_or-set_same history at new fresh h)
            ∙ ap (λ (es : List Event). record
            { incarnation = (process_at history at).incarnation; tape = es }) tape
            ∙ sym (ap (λ q. cut_process floor q (process_at history q)) same)
        | inr other ↦ ap (cut_process floor p) (get_or-set_other history at p new fresh other)
      ]
      ∙ sym (process_cut floor history p within)))

module _ (floor : Floor) (history : List Process) (marks : MarksView) (kept : List Process)
    (kept_marks : MarksView) (left : IsLeftAt floor history marks kept kept_marks) where
  pub count : length kept ≡ length history
  count = ap (λ (h : List Process). length h) left.left ∙ length_history floor history

  exists : (p : ℕ) → floor_check floor p ≤ checks (tape_at history p)
  exists p = subst (HasChoice (tape_at history p)) (floor_at floor p) (left.is.line.exist p)

  incarnation_same : (p : ℕ) → incarnation_at kept p ≡ incarnation_at history p
  incarnation_same p =
      ap (λ (h : List Process). incarnation_at h p) left.left ∙ incarnation_cut floor history p

  kept_agrees : Agrees kept
  kept_agrees = subst Agrees (sym left.left) (agrees_cut floor history left.agrees)

  -- a name of what is left agrees in the whole
  name_whole : (m : MsgName) → is_left floor m ≡ true
      → NameAgrees (cut_history floor history) (cut_name floor m) → NameAgrees history m
  name_whole m stays (inl held) = inl (sym (held_cut floor history m stays) ∙ held)
  name_whole m stays (inr (past, now)) =
      let lost : lost_sends floor m.from ≤ m.number = leb-true
      (lost_sends floor m.from) m.number stays in
      let enough : lost_sends floor m.from ≤ sends
      (tape_at history m.from) = sent_within history floor left.is m.from in
      let sent : sends (tape_at (cut_history floor history) m.from)
      ≡ sends (tape_at history m.from) - (lost_sends floor m.from - 0) = ap sends
      (tape_cut floor history m.from) ∙ sends_left floor m.from 0 (floor_check floor m.from)
      (tape_at history m.from) in
      inr (omega (arith, sent, past, lost, enough), now ∙ incarnation_cut floor history m.from)

  module _ (p : ℕ) (within : p < length history) where
    within_kept : p < length kept
    within_kept = omega (arith, within, count)

    -- a receipt that may come next to what is left, and to the whole
    pub receipt_whole : (m : MsgName) → is_left floor m ≡ true
        → AgreesNext kept p (Recv (cut_name floor m)) → AgreesNext history p (Recv m)
    receipt_whole m stays next =
        let own : NameAgrees kept (cut_name floor m) = NameAgrees-before kept p
        (Recv (cut_name floor m)) within_kept refl (cut_name floor m)
        (Agrees-last kept p (Recv (cut_name floor m)) within_kept next.agrees) in
        record {
          agrees = Agrees-more history p (Recv m) within tt (name_whole m stays (subst
              (λ (h : List Process). NameAgrees h (cut_name floor m)) left.left own)) left.agrees;
          present = tt;
        }

    pub receipt_left : (m : MsgName) → is_left floor m ≡ true → AgreesNext history p (Recv m)
        → AgreesNext kept p (Recv (cut_name floor m))
    receipt_left m stays next = record {
      agrees = subst (λ (h : List Process). Agrees (with_event h p (Recv (cut_name floor m))))
          (sym left.left)
          (subst Agrees (event_cut floor history p (Recv m) (Recv (cut_name floor m)) within
          (exists p) (ap (λ (b : Bool). cond b (Recv (cut_name floor m) ∷ []) []) stays))
          (agrees_cut floor (with_event history p (Recv m)) next.agrees));
      present = tt;
    }

    now_whole : (e : Event) → IsSentAsNow kept p e → IsSentAsNow history p e
    now_whole (Send to inc body) now = now ∙ incarnation_same p
    now_whole (Recv m) now = tt
    now_whole (Check state round) now = tt
    now_whole (Mark from round) now = tt

    now_left : (e : Event) → IsSentAsNow history p e → IsSentAsNow kept p e
    now_left (Send to inc body) now = now ∙ sym (incarnation_same p)
    now_left (Recv m) now = tt
    now_left (Check state round) now = tt
    now_left (Mark from round) now = tt

    -- another event, which agrees with every history
    module _ (e : Event) (anyhow : (h : List Process) → EventAgrees h e) where
      pub other_whole : AgreesNext kept p e → AgreesNext history p e
      other_whole next = record {
        agrees = Agrees-more history p e within (now_whole e next.present)
            (anyhow history) left.agrees;
        present = now_whole e next.present;
      }

      pub other_left : AgreesNext history p e → AgreesNext kept p e
      other_left next = record {
        agrees = Agrees-more kept p e within_kept (now_left e next.present)
            (anyhow kept) kept_agrees;
        present = now_left e next.present;
      }

    -- the whole with an event, and what is left of it
    grown : (e : Event) (after : List Process) → AgreesNext history p e
        → after ≡ cut_history floor (with_event history p e) → (after_marks : MarksView)
        → after_marks ≡ kept_marks → IsLeftAt floor (with_event history p e) marks after after_marks
    grown e after next is after_marks same =
        let longer : length (with_event history p e) ≡ length history = length-set history p
        (record (process_at history p) { tape = tape_at history p ++ e ∷ [] }) in
        record {
          agrees = next.agrees;
          on = AreOnChecks-event history marks p e within left.on;
          marked = left.marked ∙ sym longer;
          sends = left.sends ∙ sym longer;
          round = left.round;
          is = floor_event history floor left.is p e within;
          stays = λ q there.
              let grows = tape_grows history p e q within in
              survives_more history (with_event history p e) marks q (floor_check floor q)
              (omega (arith, checks_more (tape_at history q) grows.0, ap checks grows.1))
              (left.stays q (omega (arith, there, longer)));
          left = is;
          left_marks = subst (λ (m : MarksView). AreSameMarks m (cut_marks floor marks))
              (sym same) left.left_marks;
        }

    -- an event of which another one is left
    pub one_left : (e e' : Event) (after : List Process) → AgreesNext history p e
        → cut_event floor history p e ≡ e' ∷ [] → after ≡ with_event kept p e'
        → (after_marks : MarksView) → after_marks ≡ kept_marks
        → IsLeftAt floor (with_event history p e) marks after after_marks
    one_left e e' after next is added after_marks same =
        grown e after next (added ∙ ap (λ (h : List Process). with_event h p e') left.left ∙ sym
        (event_cut floor history p e e' within (exists p) is)) after_marks same

    -- one of which nothing is left
    pub none_left : (e : Event) → AgreesNext history p e → cut_event floor history p e ≡ []
        → IsLeftAt floor (with_event history p e) marks kept kept_marks
    none_left e next is = grown e kept next
        (left.left ∙ sym (none_cut floor history p e within (exists p) is)) kept_marks refl

-- a refusal, and what holds where there is none
pub err_at : {T E : Type 0} (r : Result T E) (P : E → Type 0) → ((e : E) → r ≡ Err e → P e)
    → IfErr r P
err_at (Ok x) P f = tt
err_at (Err e) P f = f e refl

pub ok_then : {T E : Type 0} (r : Result T E) (P Q : Type 0) → (P → Q) → OnOk r P → OnOk r Q
ok_then (Ok x) P Q f h = f h
ok_then (Err e) P Q f h = tt

-- why a test refuses, of the clauses that it has
pub refused_of : {T : Type 0} (history : List Process) (p : ℕ) (e : Event) (r : Result T AddError)
    (why : AddError) → r ≡ Err why
    → (r ≡ Err NoSuchProcess → (length history ≤ p) ⊎ (NamesBelow (length history) e → ⊥))
    → (r ≡ Err StateTooLong → (p < length history) × NamesBelow (length history) e × HasLongState e)
    → (r ≡ Err TapeFull → (p < length history) × NamesBelow (length history) e
    × (HasLongState e → ⊥) × (length (tape_at history p) ≡ MOST_EVENTS))
    → (r ≡ Err NamesDisagree → (p < length history) × NamesBelow (length history) e × (HasLongState
    e → ⊥) × (length (tape_at history p) ≢ MOST_EVENTS) × (AgreesNext history p e → ⊥))
    → (r ≢ Err OutOfMemory) → IsTestRefused history p e why
refused_of history p e r NoSuchProcess is a b c d never = a is
refused_of history p e r StateTooLong is a b c d never = b is
refused_of history p e r TapeFull is a b c d never = c is
refused_of history p e r NamesDisagree is a b c d never = d is
refused_of history p e r OutOfMemory is a b c d never = never is

-- where nothing was let go
pub none_may : (history kept : List Process) (p : ℕ) (e : Event) → kept ≡ history
    → IsTested kept p e → MayAdd None history p e
none_may history kept p e same t =
    let u : IsTested history p e = subst (λ (h : List Process). IsTested h p e) same t in
    record {
      within = u.0;
      named = u.1;
      short = u.2;
      few = u.3;
      well = record
          { agrees = u.4; left = λ gone. gone };
    }

pub none_refused : (history kept : List Process) (p : ℕ) (e : Event) (why : AddError) → kept
    ≡ history → p < length history → IsTestRefused kept p e why → IsNotAdded None history p e why
none_refused history kept p e why same within refused =
    there why (subst (λ (h : List Process). IsTestRefused h p e why) same refused)
  where
    there : (why : AddError) → IsTestRefused history p e why → IsNotAdded None history p e why
    there NoSuchProcess t =
        elim t [ inl past ↦ absurd (omega (arith, past, within)) | inr unnamed ↦ unnamed ]
    there StateTooLong t = (t.1, t.2)
    there TapeFull t = (t.1, t.2, t.3)
    there NamesDisagree t = (t.1, t.2, t.3, λ well. t.4 well.agrees)
    there OutOfMemory t = absurd t

-- a receipt is none of these
gone_none : (floor : Floor) (e : Event) → ((x : MsgName) → e ≡ Recv x → ⊥)
    → ReceivesGone (Some floor) e → ⊥
gone_none floor (Send to inc body) none gone = gone
gone_none floor (Recv m) none gone = none m refl
gone_none floor (Check state round) none gone = gone
gone_none floor (Mark from round) none gone = gone

anyhow_of : (e : Event) → ((x : MsgName) → e ≡ Recv x → ⊥) → (h : List Process) → EventAgrees h e
anyhow_of (Send to inc body) none h = tt
anyhow_of (Recv m) none h = absurd (none m refl)
anyhow_of (Check state round) none h = tt
anyhow_of (Mark from round) none h = tt

-- what is left of the round of a check or of a marker
module _ (floor : Floor) (history : List Process) (marks : MarksView) (kept : List Process)
    (kept_marks : MarksView) (left : IsLeftAt floor history marks kept kept_marks) (p : ℕ) where
  abbrev cut : List Process
  cut = cut_history floor history

  size : length kept ≡ length history
  size = count floor history marks kept kept_marks left

  -- what a test of what is left finds
  module _ (e e' : Event) (named : (n : ℕ) → NamesBelow n e' → NamesBelow n e)
      (long : HasLongState e' → HasLongState e) (short : HasLongState e → HasLongState e') where
    pub left_may : (AgreesNext kept p e' → AgreesNext history p e)
        → (ReceivesGone (Some floor) e → ⊥) → IsTested kept p e' → MayAdd (Some floor) history p e
    left_may forth none t = record {
      within = omega (arith, t.0, size);
      named = subst (λ (n : ℕ). NamesBelow n e) size (named (length kept) t.1);
      short = λ h. t.2 (short h);
      few = subst (λ (h : List Process). length (tape_at h p) ≢ MOST_EVENTS) left.left t.3;
      well = record { agrees = forth t.4; left = none };
    }

    pub left_refused : (names : (n : ℕ) → NamesBelow n e → NamesBelow n e')
        (back : IsWellNamed (Some floor) history p e → AgreesNext kept p e') (why : AddError)
        → p < length history → IsTestRefused kept p e' why → IsNotAdded (Some floor) history p e why
    left_refused names back NoSuchProcess within t = elim t [
      | inl past ↦ absurd (omega (arith, past, within, size))
      | inr unnamed ↦
          (λ n. unnamed (names (length kept) (subst (λ (m : ℕ). NamesBelow m e) (sym size) n)))
    ]
    left_refused names back StateTooLong within t =
        (subst (λ (n : ℕ). NamesBelow n e) size (named (length kept) t.1), long t.2)
    left_refused names back TapeFull within t = (
      subst (λ (n : ℕ). NamesBelow n e) size (named (length kept) t.1),
      (λ h. t.2 (short h)),
      subst (λ (h : List Process). length (tape_at h p) ≡ MOST_EVENTS) left.left t.3,
    )
    left_refused names back NamesDisagree within t = (
      subst (λ (n : ℕ). NamesBelow n e) size (named (length kept) t.1),
      (λ h. t.2 (short h)),
      subst (λ (h : List Process). length (tape_at h p) ≢ MOST_EVENTS)
          left.left t.3,
      λ well. t.4 (back well),
    )
    left_refused names back OutOfMemory within t = absurd t

  -- another event than a receipt
  module _ (e : Event) (none : (x : MsgName) → e ≡ Recv x → ⊥) where
    pub other_may : IsTested kept p e → MayAdd (Some floor) history p e
    other_may t = left_may e e (λ n h. h) (λ h. h) (λ h. h)
        (other_whole floor history marks kept kept_marks left p (omega (arith, t.0, size)) e
        (anyhow_of e none)) (gone_none floor e none) t

    pub other_refused : (why : AddError) → p < length history → IsTestRefused kept p e why
        → IsNotAdded (Some floor) history p e why
    other_refused why within t = left_refused e e (λ n h. h) (λ h. h) (λ h. h) (λ n h. h)
        (λ well. other_left floor history marks kept kept_marks left p within e
        (anyhow_of e none) well.agrees) why within t

  -- a receipt
  module _ (m : MsgName) where
    stays : lost_sends floor m.from ≤ m.number → is_left floor m ≡ true
    stays h = le-leb (lost_sends floor m.from) m.number h

    pub receipt_may : lost_sends floor m.from ≤ m.number → IsTested kept p (Recv (cut_name floor m))
        → MayAdd (Some floor) history p (Recv m)
    receipt_may h t = left_may (Recv m) (Recv (cut_name floor m)) (λ n x. x) (λ x. x) (λ x. x)
        (receipt_whole floor history marks kept kept_marks left p (omega (arith, t.0, size)) m
        (stays h)) (λ gone. let below : m.number < lost_sends floor m.from =
        gone in omega (arith, below, h)) t

    pub receipt_refused : (why : AddError) → p < length history → IsTestRefused kept p
        (Recv (cut_name floor m)) why → IsNotAdded (Some floor) history p (Recv m) why
    receipt_refused why within t = left_refused (Recv m) (Recv (cut_name floor m)) (λ n x. x)
        (λ x. x) (λ x. x) (λ n x. x)
        (λ well. receipt_left floor history marks kept kept_marks left p within m
        (elim (cases_lt m.number (lost_sends floor m.from)) [
          | inl below ↦ absurd
              (well.left below)
          | inr above ↦ stays above
        ]) well.agrees) why within t

    pub gone_refused : m.number < lost_sends floor m.from → IsTested kept p
        (Recv (cut_name floor m)) → IsNotAdded (Some floor) history p (Recv m) NamesDisagree
    gone_refused below t = (
      subst (λ (n : ℕ). NamesBelow n (Recv m)) size t.1,
      t.2,
      subst (λ (h :
          List Process). length (tape_at h p) ≢ MOST_EVENTS) left.left t.3,
      λ well. well.left below,
    )

  -- what is left of an event may come next to what is left
  module _ (e : Event) (may : MayAdd (Some floor) history p e) where
    few_kept : length (tape_at kept p) ≢ MOST_EVENTS
    few_kept =
        subst (λ (h : List Process). length (tape_at h p) ≢ MOST_EVENTS) (sym left.left) may.few

    pub there : p < length kept
    there = omega (arith, may.within, size)

    named_kept : NamesBelow (length kept) e
    named_kept = subst (λ (n : ℕ). NamesBelow n e) (sym size) may.named

  pub other_addable : (e : Event) → ((x : MsgName) → e ≡ Recv x → ⊥)
      → MayAdd (Some floor) history p e → IsAddable kept p e
  other_addable e none may = record {
    named = named_kept e may;
    short = may.short;
    few = few_kept e may;
    agrees = other_left floor history marks kept kept_marks left p may.within e
        (anyhow_of e none) may.well.agrees;
  }

  above_of : (m : MsgName) → MayAdd (Some floor) history p (Recv m) → is_left floor m ≡ true
  above_of m may = elim (cases_lt m.number (lost_sends floor m.from))
      [ inl below ↦ absurd (may.well.left below) | inr above ↦ stays m above ]

  pub receipt_addable : (m : MsgName) → MayAdd (Some floor) history p (Recv m)
      → IsAddable kept p (Recv (cut_name floor m))
  receipt_addable m may = record {
    named = named_kept (Recv m) may;
    short = may.short;
    few = few_kept (Recv m) may;
    agrees = receipt_left floor history marks kept kept_marks left p may.within m
        (above_of m may) may.well.agrees;
  }

  pub check_addable : (state : List ℕ) (round : Option ℕ) → MayAdd (Some floor) history p
      (Check state round) → IsAddable kept p (Check state (cut_round floor.round round))
  check_addable state round may = record {
    named = tt;
    short = may.short;
    few = few_kept (Check state round) may;
    agrees = record {
      agrees = Agrees-more kept p (Check state (cut_round floor.round round))
          (there (Check state round) may) tt tt
          (subst Agrees (sym left.left) (agrees_cut floor history left.agrees));
      present =
          tt;
    };
  }

  -- and what is left then
  module _ (after : List Process) (after_marks : MarksView) (same : after_marks ≡ kept_marks) where
    pub send_added : (to inc : ℕ) (body : List ℕ) → MayAdd (Some floor) history p (Send to inc body)
        → after ≡ with_event kept p (Send to inc body)
        → IsLeftAt floor (with_event history p (Send to inc body)) marks after after_marks
    send_added to inc body may is =
        one_left floor history marks kept kept_marks left p may.within (Send to inc body)
        (Send to inc body) after may.well.agrees
        (ap (λ (b : Bool). cond b (Send to inc body ∷ []) []) (le-leb (lost_sends floor p)
        (sends (tape_at history p)) (sent_within history floor left.is p))) is after_marks same

    pub receipt_added : (m : MsgName) → MayAdd (Some floor) history p (Recv m)
        → after ≡ with_event kept p (Recv (cut_name floor m))
        → IsLeftAt floor (with_event history p (Recv m)) marks after after_marks
    receipt_added m may is =
        one_left floor history marks kept kept_marks left p may.within (Recv m)
        (Recv (cut_name floor m)) after may.well.agrees
        (ap (λ (b : Bool). cond b (Recv (cut_name floor m) ∷ []) []) (above_of m may)) is
        after_marks same

    pub check_added : (state : List ℕ) (round : Option ℕ)
        → MayAdd (Some floor) history p (Check state round)
        → after ≡ with_event kept p (Check state (cut_round floor.round round))
        → IsLeftAt floor (with_event history p (Check state round)) marks after after_marks
    check_added state round may is =
        one_left floor history marks kept kept_marks left p may.within (Check state round) (Check
        state (cut_round floor.round round)) after may.well.agrees refl is after_marks same

    pub mark_added : (from round : ℕ) → floor.round < round
        → MayAdd (Some floor) history p (Mark from round) → after ≡ with_event kept p (Mark from
        round) → IsLeftAt floor (with_event history p (Mark from round)) marks after after_marks
    mark_added from round later may is =
        one_left floor history marks kept kept_marks left p may.within (Mark from round)
        (Mark from round) after may.well.agrees
        (ap (λ (b : Bool). cond b (Mark from round ∷ []) []) (lt-ltb floor.round round later)) is
        after_marks same

  pub mark_dropped : (from round : ℕ) → round ≤ floor.round → MayAdd (Some floor) history p (Mark
      from round) → IsLeftAt floor (with_event history p (Mark from round)) marks kept kept_marks
  mark_dropped from round old may =
      none_left floor history marks kept kept_marks left p may.within
      (Mark from round) may.well.agrees
      (ap (λ (b : Bool). cond b (Mark from round ∷ []) []) (le-ltb floor.round round old))

pub err_then : {T E : Type 0} (r : Result T E) (P Q : E → Type 0) → ((e : E) → P e → Q e)
    → IfErr r P → IfErr r Q
err_then (Ok x) P Q f h = tt
err_then (Err e) P Q f h = f e h

-- where the catalogue has the same history and the same marks
pub keeps_still : (forgotten : Option Forgotten) (history kept after : List Process)
    (kept_marks after_marks : MarksView) → after ≡ kept → after_marks ≡ kept_marks
    → IsKeptOf forgotten history kept kept_marks → IsKeptOf forgotten history after after_marks
keeps_still forgotten history kept after kept_marks after_marks same marks keeps =
    subst (λ (h : List Process). IsKeptOf forgotten history h after_marks) (sym same)
    (subst (IsKeptOf forgotten history kept) (sym marks) keeps)

-- whether or not a call was refused
pub either_way : {T E : Type 0} (r : Result T E) (A B C P : Type 0) → OnOk r A → OnErr r B
    → OnErr r C → (A → P) → (B → C → P) → P
either_way (Ok x) A B C P a b c f g = f a
either_way (Err e) A B C P a b c f g = g b c

pub both_kept : {T E : Type 0} (r : Result T E) (B C P : Type 0) → OnErr r B → OnErr r C
    → (B → C → P) → OnErr r P
both_kept (Ok x) B C P b c g = tt
both_kept (Err e) B C P b c g = g b c
