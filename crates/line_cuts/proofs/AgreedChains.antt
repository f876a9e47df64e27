-- A chain that is valid in what is left is valid in the whole, of a history that agrees.
use Rattle.std.proofs.Common.{◌≡◌, ◌≢◌, ℕ, zero, suc, ◌+◌, ◌-◌, ◌≤◌, Bool, true, false, cond, List}
use Rattle.std.proofs.Common.{[], ◌∷◌, length, map, get_or, set, refl, sym, ap, ◌∙◌, subst, arith}
use Rattle.std.proofs.Common.{inl, inr}
use Rattle.std.specs.List.{Contains}
use Rattle.std.proofs.lemmas.Bool.{cases_lt, cases_eq, leb-true, false≢true}
use Rattle.std.proofs.lemmas.List.{length-set, get_or-set_same, get_or-set_other, set_past}
use Rattle.line_names.specs.declared.certificates.Passed.{Passed}
use Rattle.line_names.specs.declared.choices.Choice.{Choice}
use Rattle.line_names.specs.declared.choices.Choice.TheVariants.{Check as AtCheck, Now}
use Rattle.line_names.specs.declared.messages.MsgName.{MsgName}
use Rattle.line_names.specs.Lines.{choice_at, IsNowhereLater}
use Rattle.line_names.specs.Order.{IsNoLater}
use Rattle.line_tape.specs.declared.events.Event.{Event}
use Rattle.line_tape.specs.declared.events.Event.TheVariants.{Recv}
use Rattle.line_tape.specs.Chain.{latest_check, latest_choice, next_lower, first_ceilings}
use Rattle.line_tape.specs.Chain.{lowered_ceilings, IsRight, LeadsTo, IsChain}
use Rattle.line_tape.specs.Event.{checks}
use Rattle.line_tape.specs.History.{Process, tape_at}
use Rattle.line_tape.specs.Line.{events_before, IsSentBefore, IsReceivedBefore}
use Rattle.line_tape.specs.Survival.{survives}
use Rattle.line_tape.specs.Views.{MarksView}
use Rattle.line_tape.proofs.ChoiceLemmas.{choice-past, next_lower_above, IsNoLater-refl}
use Rattle.line_cuts.specs.Cuts.{Floor, IsFloor, FloorSurvives, lost_sends, floor_check}
use Rattle.line_cuts.specs.Cuts.{lost_checks, floor_line, whole_name, cut_history, cut_choice}
use Rattle.line_cuts.specs.Cuts.{whole_choice, cut_line, whole_line, whole_entry, cut_marks}
use Rattle.line_laws.proofs.ChainLemmas.{AreCeilings, first_are_ceilings, first_at, first-length}
use Rattle.line_laws.proofs.ChainLemmas.{lowered_are_ceilings, passed_apart, set_cases}
use Rattle.line_laws.proofs.ChainLemmas.{latest_from_chain}
use Rattle.line_cuts.proofs.ConsistentCuts.{tape_cut, choice_cut, floor_at, events_cut, sent_cut}
use Rattle.line_cuts.proofs.EventCuts.{received_left}
use Rattle.line_cuts.proofs.SurvivalCuts.{checks_left}
use Rattle.line_catalogue.specs.Agreement.{Agrees}
use Rattle.line_cuts.proofs.LatestCuts.{same_line, length_history, length_cut, length_whole}
use Rattle.line_cuts.proofs.LatestCuts.{whole_at, brought_back}
use Rattle.line_cuts.proofs.AgreedLatest.{floor_exists, floor_survives, survives_same}
use Rattle.line_cuts.proofs.AgreedLatest.{floor_recoverable, recoverable_cut, whole_recoverable}

-- the latest check that passes, in what is left and in the whole
module _ (passes after : Choice → Bool) (k : ℕ) (same : (c : ℕ) → k ≤ c
    → after (AtCheck (c - (k - 1))) ≡ passes (AtCheck c)) (at : passes (AtCheck k) ≡ true) where
  abbrev shifted : Choice → Choice
  shifted (AtCheck c) = AtCheck (c - (k - 1))
  shifted Now = Now

  latest_step : (j d : ℕ) (b : Bool) → b ≡ passes (AtCheck (suc j)) → k ≤ suc j
      → suc d ≡ suc j - (k - 1)
      → (k ≤ j → d ≡ j - (k - 1) → latest_check after d ≡ shifted (latest_check passes j))
      → cond b (AtCheck (suc d)) (latest_check after d)
      ≡ shifted (cond b (AtCheck (suc j)) (latest_check passes j))
  latest_step j d true is h e rest = ap AtCheck e
  latest_step j d false is h e rest =
      let apart : k ≢ suc j = λ q. false≢true (is ∙ ap (λ v. passes (AtCheck v)) (sym q) ∙ at) in
      rest (omega arith) (omega arith)

  pub latest_left : (j d : ℕ) → k ≤ j → d ≡ j - (k - 1)
      → latest_check after d ≡ shifted (latest_check passes j)
  latest_left zero zero h e = ap AtCheck e
  latest_left zero (suc d) h e = absurd (omega arith)
  latest_left (suc j) zero h e = absurd (omega arith)
  latest_left (suc j) (suc d) h e =
      let test : after (AtCheck (suc d))
      ≡ passes (AtCheck (suc j)) = ap (λ v. after (AtCheck v)) e ∙ same (suc j) h in
      ap (λ b. cond b (AtCheck (suc d)) (latest_check after d)) test
      ∙ latest_step j d (passes (AtCheck (suc j))) refl h e (λ l f. latest_left j d l f)

module _ (floor : Floor) (history : List Process) (marks : MarksView) (failed : List Bool) (agrees :
    Agrees history) (is : IsFloor history floor) (stays : FloorSurvives history marks floor) where
  abbrev old : ℕ → Choice → Bool
  old p = survives history marks failed p

  abbrev new : ℕ → Choice → Bool
  new p = survives (cut_history floor history) (cut_marks floor marks) failed p

  module _ (p : ℕ) where
    test_same : (c : ℕ) → floor_check floor p ≤ c
        → new p (AtCheck (c - (floor_check floor p - 1))) ≡ old p (AtCheck c)
    test_same c h = survives_same floor history marks failed agrees is stays p (AtCheck c) h

    latest_at : (j d : ℕ) → floor_check floor p ≤ j → d ≡ j - lost_checks floor p
        → latest_check (new p) d ≡ cut_choice floor p (latest_check (old p) j)
    latest_at j d h e = latest_left (old p) (new p) (floor_check floor p) test_same (floor_survives
        floor history marks failed agrees is stays p) j d h e ∙ choice_same (latest_check (old p) j)
      where
        choice_same : (c : Choice) → shifted (old p) (new p) (floor_check floor p) test_same
            (floor_survives floor history marks failed agrees is stays p) c ≡ cut_choice floor p c
        choice_same (AtCheck c) = refl
        choice_same Now = refl

    count : checks (tape_at (cut_history floor history) p)
        ≡ checks (tape_at history p) - lost_checks floor p
    count = omega (
      arith,
      ap checks (tape_cut floor history p),
      checks_left floor p 0 (floor_check
          floor p) (tape_at history p) (floor_exists floor history marks failed agrees is stays p),
    )

    pub latest_choice_cut : latest_choice (cut_history floor history)
        (cut_marks floor marks) failed p ≡ cut_choice floor p (latest_choice history marks failed p)
    latest_choice_cut =
        let now : new p Now
        ≡ old p Now = survives_same floor history marks failed agrees is stays p Now tt in
        ap (λ b. cond b Now (latest_check (new p) (checks (tape_at (cut_history floor history) p))))
        now
        ∙ elim (old p Now) as
        (λ b. cond b Now (latest_check (new p) (checks (tape_at (cut_history floor history) p)))
        ≡ cut_choice floor p (cond b Now (latest_check (old p) (checks (tape_at history p))))) [
          | true ↦ refl
          | false ↦ latest_at (checks (tape_at history p)) (checks (tape_at (cut_history floor
              history) p)) (floor_exists floor history marks failed agrees is stays p) count
        ]

    pub next_lower_cut : (c : Choice) → IsNoLater (AtCheck (floor_check floor p)) c
        → c ≢ AtCheck (floor_check floor p)
        → next_lower (cut_history floor history) (cut_marks floor marks) failed p
        (cut_choice floor p c) ≡ cut_choice floor p (next_lower history marks failed p c)
    next_lower_cut (AtCheck c) above apart =
        let other : c ≢ floor_check floor p = λ e. apart (ap AtCheck e) in
        latest_at (c - 1) ((c - lost_checks floor p) - 1) (omega arith) (omega arith)
    next_lower_cut Now above apart = latest_at (checks (tape_at history p))
        (checks (tape_at (cut_history floor history) p))
        (floor_exists floor history marks failed agrees is stays p) count

  -- the ceilings begin alike
  pub first_cut : cut_line floor (first_ceilings history marks failed)
      ≡ first_ceilings (cut_history floor history) (cut_marks floor marks) failed
  first_cut = same_line (cut_line floor (first_ceilings history marks failed))
      (first_ceilings (cut_history floor history) (cut_marks floor marks) failed)
      (length_cut floor
      (first_ceilings history marks failed) ∙ first-length history marks failed ∙ sym
      (length_history floor history) ∙ sym
      (first-length (cut_history floor history) (cut_marks floor marks) failed))
      (λ p. elim (cases_lt p (length history)) [
        | inl within ↦
            choice_cut floor (first_ceilings history marks failed) p
            ∙ ap (cut_choice floor p) (first_at history marks failed p within)
            ∙ sym (latest_choice_cut p)
            ∙ sym (first_at (cut_history floor history) (cut_marks floor marks) failed p
            (omega (arith, length_history floor history)))
        | inr past ↦
            choice-past (cut_line floor (first_ceilings history marks failed)) p
            (omega (
              arith,
              length_cut floor
                  (first_ceilings history marks failed),
              first-length history marks failed,
            ))
            ∙ sym (choice-past
            (first_ceilings (cut_history floor history) (cut_marks floor marks) failed) p
            (omega (
              arith,
              first-length (cut_history floor history)
                  (cut_marks floor marks) failed,
              length_history floor history,
            )))
      ])

  pub first_above : IsNowhereLater (floor_line floor) (first_ceilings history marks failed)
  first_above = (first_are_ceilings history marks failed).above (floor_line floor)
      (floor_recoverable floor history marks failed agrees is stays)

  -- a line from the floor on is brought back
  pub whole_again : (line : List Choice) → IsNowhereLater (floor_line floor) line
      → whole_line floor (cut_line floor line) ≡ line
  whole_again line above = same_line (whole_line floor (cut_line floor line)) line (length_whole
      floor (cut_line floor line) ∙ length_cut floor line) (λ p. elim (cases_lt p (length line)) [
        | inl within ↦ whole_at floor (cut_line floor line) p
            (omega (arith, length_cut floor line)) ∙ ap (whole_choice floor p)
            (choice_cut floor line p) ∙ brought_back floor p (choice_at line p)
            (subst (λ (c : Choice). IsNoLater c (choice_at line p)) (floor_at floor p) (above p))
        | inr past ↦ choice-past (whole_line floor (cut_line floor line)) p (omega (
          arith,
          length_whole
              floor (cut_line floor line),
          length_cut floor line,
        )) ∙ sym (choice-past line p past)
      ])

  module _ (ceilings : List Choice) (above : IsNowhereLater (floor_line floor) ceilings) (entry :
      Passed) (right : IsRight (cut_history floor history) (cut_line floor ceilings) entry) where
    above_here : IsNoLater (AtCheck (floor_check floor entry.at)) (choice_at ceilings entry.at)
    above_here = subst (λ (c : Choice). IsNoLater c (choice_at ceilings entry.at))
        (floor_at floor entry.at) (above entry.at)

    -- an entry that is right there is right in the whole
    pub right_whole : IsRight history ceilings (whole_entry floor entry)
    right_whole =
        let l = received_left floor entry.at 0 (floor_check floor entry.at)
        (events_before history ceilings entry.at) entry.message
        (subst (λ (es : List Event). Contains es (Recv entry.message))
        (events_cut floor history ceilings above entry.at) right.orphan.received) in
        let w : MsgName = l.whole in
        let left : lost_sends floor w.from ≤ w.number = leb-true
        (lost_sends floor w.from) w.number l.is in
        let number : (w.number - lost_sends floor w.from) + lost_sends floor w.from
        ≡ w.number = omega arith in
        let name : whole_name floor entry.message ≡ w = ap (whole_name floor) l.name ∙ ap
        (λ (n : ℕ). record { from = w.from; inc = w.inc; number = n }) number in
        record {
          top = ap (whole_choice floor entry.at) (right.top ∙ choice_cut floor ceilings entry.at) ∙
              brought_back floor entry.at (choice_at ceilings entry.at) above_here;
          orphan = record {
            received = subst (IsReceivedBefore history ceilings entry.at) (sym name) l.among;
            unsent = λ sent. right.orphan.unsent
                (subst (IsSentBefore (cut_history floor history) (cut_line floor ceilings))
                (sym l.name) (sent_cut floor history ceilings above w left ∙ subst
                (IsSentBefore history ceilings) name sent));
          };
        }

    module _ (are : AreCeilings (cut_history floor history) (cut_marks floor marks) failed
        (cut_line floor ceilings)) (e : length ceilings ≡ length history) where
      -- the floor is not passed
      apart : choice_at ceilings entry.at ≢ AtCheck (floor_check floor entry.at)
      apart same =
          let low = recoverable_cut floor history marks failed agrees is stays (floor_line floor)
          (λ q. IsNoLater-refl (choice_at (floor_line floor) q))
          (floor_recoverable floor history marks failed agrees is stays) in
          passed_apart (cut_history floor history) (cut_marks floor marks) failed
          (cut_line floor ceilings) (cut_line floor (floor_line floor)) entry right low
          (are.above (cut_line floor (floor_line floor)) low)
          (choice_cut floor (floor_line floor) entry.at ∙ ap (cut_choice floor entry.at)
          (floor_at floor entry.at ∙ sym same) ∙ sym (choice_cut floor ceilings entry.at))

      abbrev lowered : List Choice
      lowered = lowered_ceilings history marks failed ceilings entry.at

      abbrev next : Choice
      next = next_lower history marks failed entry.at (choice_at ceilings entry.at)

      pub lowered_above : IsNowhereLater (floor_line floor) lowered
      lowered_above p = elim (set_cases ceilings entry.at next p) [
        | inl same ↦ subst (IsNoLater (choice_at (floor_line floor) p)) (sym same) (above p)
        | inr here ↦ subst (IsNoLater (choice_at (floor_line floor) p)) (sym (here.1))
            (subst (λ (q : ℕ). IsNoLater (choice_at (floor_line floor) q) next) (sym (here.0))
            (subst (λ (c : Choice). IsNoLater c next) (sym (floor_at floor entry.at))
            (next_lower_above history marks failed entry.at (choice_at ceilings entry.at)
            (AtCheck (floor_check floor entry.at)) above_here (λ q. apart (sym q))
            (floor_survives floor history marks failed agrees is stays entry.at))))
      ]

      there : choice_at (cut_line floor ceilings) entry.at
          ≡ cut_choice floor entry.at (choice_at ceilings entry.at)
      there = choice_cut floor ceilings entry.at

      pub lowered_cut : cut_line floor lowered ≡ lowered_ceilings (cut_history floor history)
          (cut_marks floor marks) failed (cut_line floor ceilings) entry.at
      lowered_cut =
          let later : Choice = next_lower (cut_history floor history) (cut_marks floor marks) failed
          entry.at (choice_at (cut_line floor ceilings) entry.at) in
          let next_is : later
          ≡ cut_choice floor entry.at next = ap
          (next_lower (cut_history floor history) (cut_marks floor marks) failed entry.at) there
          ∙ next_lower_cut entry.at (choice_at ceilings entry.at) above_here apart in
          same_line (cut_line floor lowered) (set (cut_line floor ceilings) entry.at later)
          (length_cut floor lowered ∙ length-set ceilings entry.at next ∙ sym (length_cut floor
          ceilings) ∙ sym (length-set (cut_line floor ceilings) entry.at later))
          (λ p. choice_cut floor lowered p ∙ both p later next_is)
        where
          both : (p : ℕ) (later : Choice) → later ≡ cut_choice floor entry.at next
              → cut_choice floor p (choice_at (set ceilings entry.at next) p)
              ≡ choice_at (set (cut_line floor ceilings) entry.at later) p
          both p later next_is = elim (cases_eq p entry.at) [
            | inl same ↦ elim (cases_lt entry.at (length ceilings)) [
              | inl within ↦
                  let old_value : choice_at (set ceilings entry.at next) p
                  ≡ next = ap (λ k. get_or (set ceilings entry.at next) k (AtCheck 0)) same ∙
                  get_or-set_same ceilings entry.at next (AtCheck 0) within in
                  let new_value : choice_at (set (cut_line floor ceilings) entry.at later) p
                  ≡ later = ap
                  (λ k. get_or (set (cut_line floor ceilings) entry.at later) k (AtCheck 0))
                  same ∙ get_or-set_same (cut_line floor ceilings) entry.at later (AtCheck 0)
                  (omega (arith, length_cut floor ceilings)) in
                  ap (cut_choice floor p) old_value ∙ ap
                  (λ q. cut_choice floor q next) same ∙ sym next_is ∙ sym new_value
              | inr past ↦
                  ap (λ (xs : List Choice). cut_choice floor p (choice_at xs p))
                  (set_past ceilings entry.at next past)
                  ∙ sym (choice_cut floor ceilings p)
                  ∙ sym (ap (λ (xs : List Choice). choice_at xs p) (set_past (cut_line floor
                  ceilings) entry.at later (omega (arith, length_cut floor ceilings))))
            ]
            | inr other ↦ ap (cut_choice floor p)
                (get_or-set_other ceilings entry.at p next (AtCheck 0) other) ∙ sym
                (choice_cut floor ceilings p) ∙ sym
                (get_or-set_other (cut_line floor ceilings) entry.at p later (AtCheck 0) other)
          ]

  -- the entries lead on alike
  pub led_whole : (ceilings : List Choice) (entries : List Passed) (line : List Choice)
      → IsNowhereLater (floor_line floor) ceilings → length ceilings ≡ length history → AreCeilings
      (cut_history floor history) (cut_marks floor marks) failed (cut_line floor ceilings)
      → LeadsTo (cut_history floor history) (cut_marks floor marks) failed
      (cut_line floor ceilings) entries line → LeadsTo history marks failed ceilings
      (map (whole_entry floor) entries) (whole_line floor line)
  led_whole ceilings [] line above e are end =
      sym (whole_again ceilings above) ∙ ap (whole_line floor) end
  led_whole ceilings (entry ∷ entries) line above e are (right, rest) =
      let next : Choice = next_lower history marks failed entry.at (choice_at ceilings entry.at) in
      let alike = lowered_cut ceilings above entry right are e in (
        right_whole ceilings above entry right,
        led_whole (lowered_ceilings history marks failed ceilings entry.at) entries line
            (lowered_above ceilings above entry right are e)
            (length-set ceilings entry.at next ∙ e)
            (subst (AreCeilings (cut_history floor history) (cut_marks floor marks) failed)
            (sym alike) (lowered_are_ceilings (cut_history floor history)
            (cut_marks floor marks) failed (cut_line floor ceilings) entry are right))
            (subst (λ (c : List Choice). LeadsTo (cut_history floor history)
            (cut_marks floor marks) failed c entries line) (sym alike) rest),
      )

  -- so a chain there is a chain in the whole
  pub chain_whole : (entries : List Passed) (line : List Choice)
      → IsChain (cut_history floor history) (cut_marks floor marks) failed entries line
      → IsChain history marks failed (map (whole_entry floor) entries) (whole_line floor line)
  chain_whole entries line chain = record {
    leads = led_whole (first_ceilings history marks failed) entries line first_above
        (first-length history marks failed)
        (subst (AreCeilings (cut_history floor history) (cut_marks floor marks) failed)
        (sym first_cut)
        (first_are_ceilings (cut_history floor history) (cut_marks floor marks) failed))
        (subst (λ (c : List Choice). LeadsTo (cut_history floor history)
        (cut_marks floor marks) failed c entries line) (sym first_cut) chain.leads);
    consistent =
        (whole_recoverable floor history marks failed agrees is stays line (latest_from_chain
        (cut_history floor history) (cut_marks floor marks) failed entries line chain)).consistent;
  }
