-- Machines that differ in the order of marks alone answer alike, step by step.
use Rattle.std.proofs.Common.{◌≡◌, ℕ, zero, suc, ◌+◌, ◌<◌, ◌≤◌, Bool, true, false, cond, List, []}
use Rattle.std.proofs.Common.{◌∷◌, ◌++◌, length, get_or, set, map, Option, Some, None, refl, sym}
use Rattle.std.proofs.Common.{ap, ◌∙◌, subst, arith, inl, inr}
use Rattle.std.specs.Prelude.{◌==◌, ◌||◌, ◌&&◌, nat_lt, IsTrue}
use Rattle.std.specs.List.{All, filter, list_any}
use Rattle.std.proofs.lemmas.Bool.{cases_eq, cases_lt, eqb-true}
use Rattle.std.proofs.lemmas.List.{get_or-set_same, get_or-set_other, get_or_past, length-set}
use Rattle.std.proofs.lemmas.List.Folds.{list_any-append}
use Rattle.line_names.specs.declared.choices.Choice.{Choice}
use Rattle.line_names.specs.declared.choices.Choice.TheVariants.{Check as AtCheck}
use Rattle.line_names.specs.declared.messages.MsgName.{MsgName}
use Rattle.line_tape.specs.Event.{checks}
use Rattle.line_tape.specs.History.{Process, incarnation_at, tape_at}
use Rattle.line_tape.specs.declared.events.Event.TheVariants.{Send as SendEvent}
use Rattle.line_tape.specs.declared.events.Event.TheVariants.{Check as CheckEvent}
use Rattle.line_tape.specs.Restart.{is_kept, restarted_damage, restarted_marks}
use Rattle.line_tape.specs.Spent.{next_name}
use Rattle.line_tape.specs.Survival.{is_barred, is_damaged, survives}
use Rattle.line_tape.specs.Views.{MarksView, damaged_at, with_bar, with_mark}
use Rattle.line_plan.specs.declared.plans.Plan.{Plan}
use Rattle.line_cuts.specs.Cuts.{Floor, FloorSurvives, IsFloor, cut_history, cut_marks, floor_check}
use Rattle.line_cuts.specs.Cuts.{lost_checks, whole_floor}
use Rattle.line_tape.specs.declared.modes.Mode.{Mode}
use Rattle.line_tape.specs.declared.steps.Step.{Step}
use Rattle.line_tape.specs.declared.steps.Step.TheVariants.{Send, Deliver, Check, Begin, Turn}
use Rattle.line_tape.specs.declared.steps.Step.TheVariants.{Damage, Bar, Recover}
use Rattle.line_moves.specs.Fates.{events_taken}
use Rattle.line_moves.specs.Listed.{ListedRound, IsSnapshotOf}
use Rattle.line_world.specs.declared.replies.Answer.{Answer}
use Rattle.line_world.specs.declared.replies.Answer.TheVariants.{Done, Refused}
use Rattle.line_world.specs.declared.replies.Reply.{Reply}
use Rattle.line_world.specs.declared.replies.Reply.TheVariants.{Sent, Took, Marked, Stale, Repeated}
use Rattle.line_world.specs.declared.replies.Reply.TheVariants.{Checked, Begun, Turned, Damaged}
use Rattle.line_world.specs.declared.replies.Reply.TheVariants.{Barred, Recovered}
use Rattle.line_world.specs.declared.replies.StepError.{StepError}
use Rattle.line_world.specs.declared.replies.StepError.TheVariants.{OutOfMemory, NoSuchProcess}
use Rattle.line_world.specs.declared.replies.StepError.TheVariants.{TapeFull, NoSuchCheck}
use Rattle.line_world.specs.declared.replies.StepError.TheVariants.{StateTooLong, InitialDamage}
use Rattle.line_world.specs.declared.replies.StepError.TheVariants.{AlreadyDamaged, ToSelf}
use Rattle.line_world.specs.declared.replies.StepError.TheVariants.{LinkEmpty, BadPick, RoundOpen}
use Rattle.line_world.specs.declared.replies.StepError.TheVariants.{NothingToTurn, WrongMode}
use Rattle.line_world.specs.declared.replies.StepError.TheVariants.{NoMoreRounds}
use Rattle.line_world.specs.declared.replies.StepError.TheVariants.{NoMoreIncarnations, BarNotLower}
use Rattle.line_world.specs.Machine.{Machine, is_open, with_copy, with_step}
use Rattle.line_world.specs.Refusals.{first_cause, is_stranger, refusal_of, IsLateCause, IsRefused}
use Rattle.line_world.specs.Refusals.{IsSpent}
use Rattle.line_world.specs.Runs.{Takes}
use Rattle.line_world.specs.Steps.{restarted_machine, IsPlan}
use Rattle.line_live.specs.CutMachines.{cut_listed, cut_machine, cut_step, is_listed_on, IsBeside}
use Rattle.line_live.specs.CutMachines.{SparesFloor}
use Rattle.line_live.proofs.LaterLives.{beside_later, further_later}
use Rattle.line_live.proofs.StepLives.{step_alike}
use Rattle.line_live.proofs.TwoForgets.{machine_both}
use Rattle.line_live.specs.Machines.{IsAnsweredAlike, IsAnsweredAsWhole, IsSameMachine}
use Rattle.line_cuts.specs.Marks.{AreSameMarks}
use Rattle.line_cuts.proofs.MarkedCuts.{damaged_left, length_damaged}
use Rattle.line_cuts.proofs.SameLemmas.{chain_same, latest_line_same, survives_same}

-- a list of checks has one
abbrev has : List ℕ → ℕ → Bool
has checks c = list_any (λ damaged. damaged == c) checks

-- one mark more
mark_same : (a b : MarksView) (p c : ℕ) → AreSameMarks a b
    → AreSameMarks (with_mark a p c) (with_mark b p c)
mark_same a b p c same = record {
  count = length-set a.damaged p (damaged_at a p ++ c ∷ []) ∙ same.count ∙ sym
      (length-set b.damaged p (damaged_at b p ++ c ∷ []));
  bars = same.bars;
  damaged = λ q d. elim (cases_eq q p) [
    | inl here ↦ elim (cases_lt p (length a.damaged)) [
      | inl within ↦
          subst (λ (v : ℕ). is_damaged (with_mark a p c) v d ≡ is_damaged (with_mark b p c) v d)
          (sym here)
          (ap (λ (xs : List ℕ). has xs d)
          (get_or-set_same a.damaged p (damaged_at a p ++ c ∷ []) [] within)
          ∙ list_any-append (λ damaged. damaged == d) (damaged_at a p) (c ∷ [])
          ∙ ap (λ (t : Bool). t || has (c ∷ []) d) (same.damaged p d)
          ∙ sym (list_any-append (λ damaged. damaged == d) (damaged_at b p) (c ∷ []))
          ∙ ap (λ (xs : List ℕ). has xs d) (sym (get_or-set_same b.damaged p
          (damaged_at b p ++ c ∷ []) [] (omega (arith, within, same.count)))))
      | inr past ↦
          subst (λ (v : ℕ). is_damaged (with_mark a p c) v d ≡ is_damaged (with_mark b p c) v d)
          (sym here)
          (ap (λ (xs : List ℕ). has xs d) (get_or_past (set a.damaged p (damaged_at a p ++ c ∷ []))
          p [] (omega (arith, past, length-set a.damaged p (damaged_at a p ++ c ∷ []))))
          ∙ ap (λ (xs : List ℕ). has xs d)
          (sym (get_or_past (set b.damaged p (damaged_at b p ++ c ∷ [])) p [] (omega
          (arith, past, same.count, length-set b.damaged p (damaged_at b p ++ c ∷ []))))))
    ]
    | inr apart ↦
        ap (λ (xs : List ℕ). has xs d)
        (get_or-set_other a.damaged p q (damaged_at a p ++ c ∷ []) [] apart)
        ∙ same.damaged q d
        ∙ ap (λ (xs : List ℕ). has xs d)
        (sym (get_or-set_other b.damaged p q (damaged_at b p ++ c ∷ []) [] apart))
  ];
}

-- one bar more
bar_same : (a b : MarksView) (p c : ℕ) → AreSameMarks a b
    → AreSameMarks (with_bar a p c) (with_bar b p c)
bar_same a b p c same = record {
  count = same.count;
  bars = ap (λ (bars : List (Option ℕ)). set bars p (Some c)) same.bars;
  damaged = same.damaged;
}

-- what a restart keeps of marked checks
gone : (b : Bool) → (b && false) ≡ false
gone true = refl
gone false = refl

kept_first : (t k rest all : Bool) → (t ≡ true → k ≡ true) → rest ≡ (all && k)
    → (t || rest) ≡ ((t || all) && k)
kept_first true k rest all here ih = sym (here refl)
kept_first false k rest all here ih = ih

gone_first : (t k rest all : Bool) → (t ≡ true → k ≡ false) → rest ≡ (all && k)
    → rest ≡ ((t || all) && k)
gone_first true k rest all here ih =
    ih ∙ ap (λ (b : Bool). all && b) (here refl) ∙ gone all ∙ sym (here refl)
gone_first false k rest all here ih = ih

has_kept : (choice : Choice) (xs : List ℕ) (c : ℕ)
    → has (filter (is_kept choice) xs) c ≡ (has xs c && is_kept choice c)
has_kept choice [] c = refl
has_kept choice (x ∷ xs) c =
    let rest : List ℕ = filter (is_kept choice) xs in
    let ih : has rest c ≡ (has xs c && is_kept choice c) = has_kept choice xs c in
    elim (is_kept choice x) as (λ k. k ≡ is_kept choice x
    → has (cond k (x ∷ rest) rest) c ≡ (((x == c) || has xs c) && is_kept choice c)) [
      | true ↦ λ e. kept_first (x == c) (is_kept choice c) (has rest c) (has xs c)
          (λ t. ap (is_kept choice) (sym (eqb-true x c t)) ∙ sym e) ih
      | false ↦ λ e. gone_first (x == c) (is_kept choice c) (has rest c) (has xs c)
          (λ t. ap (is_kept choice) (sym (eqb-true x c t)) ∙ sym e) ih
    ] refl

damage_same : (xs ys : List (List ℕ)) (line : List Choice) → length xs ≡ length ys
    → ((p c : ℕ) → has (get_or xs p []) c ≡ has (get_or ys p []) c)
    → (p c : ℕ) → has (get_or (restarted_damage xs line) p []) c
    ≡ has (get_or (restarted_damage ys line) p []) c
damage_same [] [] line count same p c = refl
damage_same [] (y ∷ ys) line count same p c = absurd (omega arith)
damage_same (x ∷ xs) [] line count same p c = absurd (omega arith)
damage_same (x ∷ xs) (y ∷ ys) [] count same p c = refl
damage_same (x ∷ xs) (y ∷ ys) (choice ∷ line) count same zero c =
    has_kept choice x c ∙ ap (λ (b : Bool). b && is_kept choice c) (same 0 c) ∙ sym
    (has_kept choice y c)
damage_same (x ∷ xs) (y ∷ ys) (choice ∷ line) count same (suc p) c =
    damage_same xs ys line (omega arith) (λ q d. same (suc q) d) p c

count_same : (xs ys : List (List ℕ)) (line : List Choice) → length xs ≡ length ys
    → length (restarted_damage xs line) ≡ length (restarted_damage ys line)
count_same [] [] line count = refl
count_same [] (y ∷ ys) line count = absurd (omega arith)
count_same (x ∷ xs) [] line count = absurd (omega arith)
count_same (x ∷ xs) (y ∷ ys) [] count = refl
count_same (x ∷ xs) (y ∷ ys) (choice ∷ line) count = ap suc (count_same xs ys line (omega arith))

restart_same : (a b : MarksView) (line : List Choice) → AreSameMarks a b
    → AreSameMarks (restarted_marks a line) (restarted_marks b line)
restart_same a b line same = record {
  count = count_same a.damaged b.damaged line same.count;
  bars = ap (λ (bars : List (Option ℕ)).
      (restarted_marks (record { damaged = a.damaged; bars = bars }) line).bars) same.bars;
  damaged = damage_same a.damaged b.damaged line same.count same.damaged;
}

-- a machine with other marks
abbrev remarked : Machine → MarksView → Machine
remarked machine marks = record machine { marks = marks }

-- the same but for the marks
same_but : (new made : Machine) (marks : MarksView) → new ≡ made → AreSameMarks made.marks marks
    → IsSameMachine new (remarked made marks)
same_but new made marks e same =
    subst (λ (m : Machine). IsSameMachine m (remarked made marks)) (sym e) (record {
      mode = refl;
      history = refl;
      marks = same;
      last_round = refl;
      rounds = refl;
      copies = refl;
    })

module _ (old : Machine) (marks : MarksView) (same : AreSameMarks old.marks marks) where
  abbrev other : Machine
  other = remarked old marks

  abbrev IsAlike : Step → Answer → Machine → Type 0
  IsAlike step answer new = IsAnsweredAlike other step answer new

  -- a refusal that does not ask for marks
  refused_alike : (step : Step) (e : StepError) (new : Machine)
      → IsRefused other step e (refusal_of other step) → new ≡ old → IsAlike step (Refused e) new
  refused_alike step e new refused is =
      record { after = other; takes = (refused, refl); same = same_but new old marks is same }

  damage_causes : (at check : ℕ)
      → refusal_of old (Damage at check) ≡ refusal_of other (Damage at check)
  damage_causes at check =
      ap (λ (b : Bool). first_cause
      ((is_stranger old at, NoSuchProcess) ∷ (check == 0, InitialDamage)
      ∷ (nat_lt (checks (tape_at old.history at)) check, NoSuchCheck) ∷ (b, AlreadyDamaged)
      ∷ [])) (same.damaged at check)

  barred_same : (at check : ℕ) → is_barred old.marks at check ≡ is_barred marks at check
  barred_same at check = ap (λ (bars : List (Option ℕ)). is_barred
      (record { damaged = old.marks.damaged; bars = bars }) at check) same.bars

  bar_causes : (at check : ℕ) → refusal_of old (Bar at check) ≡ refusal_of other (Bar at check)
  bar_causes at check =
      ap (λ (b : Bool). first_cause ((is_stranger old at, NoSuchProcess) ∷ (
        nat_lt (checks (tape_at
            old.history at)) check,
        NoSuchCheck,
      ) ∷ (b, BarNotLower) ∷ [])) (barred_same at check)

  -- a late cause
  spent_same : (failed : List Bool) → IsSpent old failed → IsSpent other failed
  spent_same failed is = record {
    line = is.line;
    latest = latest_line_same old.history old.marks
        marks failed is.line same is.latest;
    spent = is.spent;
  }

  late_same : (failed : List Bool) (e : StepError) → IsLateCause old (Recover failed) e
      → IsLateCause other (Recover failed) e
  late_same failed OutOfMemory l = l
  late_same failed NoSuchProcess l = l
  late_same failed TapeFull l = l
  late_same failed NoSuchCheck l = l
  late_same failed StateTooLong l = l
  late_same failed InitialDamage l = l
  late_same failed AlreadyDamaged l = l
  late_same failed ToSelf l = l
  late_same failed LinkEmpty l = l
  late_same failed BadPick l = l
  late_same failed RoundOpen l = l
  late_same failed NothingToTurn l = l
  late_same failed WrongMode l = l
  late_same failed NoMoreRounds l = l
  late_same failed NoMoreIncarnations l = spent_same failed l
  late_same failed BarNotLower l = l

  -- a refusal by the same cause
  refused_same : (step : Step) (e : StepError) (cause : Option StepError) → (IsLateCause old step e
      → IsLateCause other step e) → IsRefused old step e cause → IsRefused other step e cause
  refused_same step e (Some cause) late refused = refused
  refused_same step e None late refused = late refused

  plan_same : (failed : List Bool) (plan : Plan) → IsPlan old failed plan → IsPlan other failed plan
  plan_same failed plan is = record {
    latest = latest_line_same old.history old.marks marks failed plan.line same is.latest;
    chain = chain_same old.history old.marks marks failed same plan.certificate.items plan.line
        is.chain;
    some_sweep = is.some_sweep;
    few_sweeps = is.few_sweeps;
    replays = is.replays;
  }

  recover_same : (failed : List Bool) (reply : Reply) (new : Machine)
      → Takes old (Recover failed) (Done reply) new → IsAlike (Recover failed) (Done reply) new
  recover_same failed (Recovered plan states incarnations) new (none, is) =
      let after : Machine = restarted_machine other plan.value.line in
      record {
        after = after;
        takes = (
          none,
          record {
            plan_is = plan_same failed plan.value is.plan_is;
            further = is.further;
            states_are = is.states_are;
            incarnations_are = is.incarnations_are ∙ ap (λ (m : Machine). map
                (λ (process : Process). process.incarnation) m.history) is.new_is;
            new_is = refl;
          },
        );
        same = same_but new (restarted_machine old plan.value.line) (restarted_marks marks
            plan.value.line) is.new_is (restart_same old.marks marks plan.value.line same);
      }
  recover_same failed (Sent m) new (none, is) = absurd is
  recover_same failed (Took m forced) new (none, is) = absurd is
  recover_same failed (Marked r forced) new (none, is) = absurd is
  recover_same failed (Stale m) new (none, is) = absurd is
  recover_same failed (Repeated m) new (none, is) = absurd is
  recover_same failed (Checked at c) new (none, is) = absurd is
  recover_same failed (Begun at c r) new (none, is) = absurd is
  recover_same failed (Turned at c r) new (none, is) = absurd is
  recover_same failed (Damaged at c) new (none, is) = absurd is
  recover_same failed (Barred at c) new (none, is) = absurd is

  pub answer_same : (step : Step) (answer : Answer) (new : Machine) → Takes old step answer new
      → IsAlike step answer new
  answer_same (Send from to body) (Done reply) new (none, (reply_is, new_is)) = record {
    after = with_copy (with_step other from (SendEvent to (incarnation_at old.history from) body
        ∷ []) old.last_round) from to (next_name old.history from);
    takes = (none, (reply_is, refl));
    same = same_but new (with_copy (with_step old from (SendEvent to (incarnation_at old.history
        from) body ∷ []) old.last_round) from to (next_name old.history from)) marks new_is same;
  }
  answer_same (Deliver from to pick state) (Done reply) new (none, is) =
      let events = events_taken old.mode old.history from to state is.item in
      record {
        after = with_step other to events old.last_round;
        takes = (
          none,
          record
              { item = is.item; picked = is.picked; reply_is = is.reply_is; new_is = refl },
        );
        same = same_but new (with_step old to events old.last_round) marks is.new_is same;
      }
  answer_same (Check at state) (Done reply) new (none, (reply_is, new_is)) = record {
    after = with_step other at (CheckEvent state None ∷ []) old.last_round;
    takes = (none, (reply_is, refl));
    same = same_but new
        (with_step old at (CheckEvent state None ∷ []) old.last_round) marks new_is same;
  }
  answer_same (Begin at state) (Done reply) new (none, (reply_is, new_is)) = record {
    after =
        with_step other at (CheckEvent state (Some (old.last_round + 1)) ∷ []) (old.last_round + 1);
    takes = (none, (reply_is, refl));
    same = same_but new (with_step old at (CheckEvent state (Some (old.last_round + 1)) ∷ [])
        (old.last_round + 1)) marks new_is same;
  }
  answer_same (Turn at state) (Done reply) new (none, (reply_is, new_is)) = record {
    after = with_step other at (CheckEvent state (Some old.last_round) ∷ []) old.last_round;
    takes = (none, (reply_is, refl));
    same = same_but new (with_step old at
        (CheckEvent state (Some old.last_round) ∷ []) old.last_round) marks new_is same;
  }
  answer_same (Damage at check) (Done reply) new (none, (reply_is, new_is)) = record {
    after = remarked old (with_mark marks at check);
    takes = (sym (damage_causes at check) ∙ none, (reply_is, refl));
    same = same_but new (record old { marks = with_mark old.marks at check })
        (with_mark marks at check) new_is (mark_same old.marks marks at check same);
  }
  answer_same (Bar at check) (Done reply) new (none, (reply_is, new_is)) = record {
    after = remarked old (with_bar marks at check);
    takes = (sym (bar_causes at check) ∙ none, (reply_is, refl));
    same = same_but new (record old { marks = with_bar old.marks at check })
        (with_bar marks at check) new_is (bar_same old.marks marks at check same);
  }
  answer_same (Recover failed) (Done reply) new takes = recover_same failed reply new takes
  answer_same (Send from to body) (Refused e) new (refused, is) = refused_alike
      (Send from to body) e new
      (refused_same (Send from to body) e (refusal_of old (Send from to body)) (λ l. l) refused) is
  answer_same (Deliver from to pick state) (Refused e) new (refused, is) = refused_alike
      (Deliver from to pick state) e new (refused_same (Deliver from to pick state) e
      (refusal_of old (Deliver from to pick state)) (λ l. l) refused) is
  answer_same (Check at state) (Refused e) new (refused, is) = refused_alike (Check at state) e new
      (refused_same (Check at state) e (refusal_of old (Check at state)) (λ l. l) refused) is
  answer_same (Begin at state) (Refused e) new (refused, is) = refused_alike (Begin at state) e new
      (refused_same (Begin at state) e (refusal_of old (Begin at state)) (λ l. l) refused) is
  answer_same (Turn at state) (Refused e) new (refused, is) = refused_alike (Turn at state) e new
      (refused_same (Turn at state) e (refusal_of old (Turn at state)) (λ l. l) refused) is
  answer_same (Damage at check) (Refused e) new (refused, is) =
      refused_alike (Damage at check) e new
      (subst (IsRefused other (Damage at check) e) (damage_causes at check)
      (refused_same (Damage at check) e (refusal_of old (Damage at check)) (λ l. l) refused)) is
  answer_same (Bar at check) (Refused e) new (refused, is) =
      refused_alike (Bar at check) e new
      (subst (IsRefused other (Bar at check) e) (bar_causes at check)
      (refused_same (Bar at check) e (refusal_of old (Bar at check)) (λ l. l) refused)) is
  answer_same (Recover failed) (Refused e) new (refused, is) = refused_alike (Recover failed) e new
      (refused_same (Recover failed) e (refusal_of old (Recover failed))
      (late_same failed e) refused) is

-- a machine that is the same but for marks has these marks
remarked_is : (a b : Machine) → IsSameMachine a b → remarked a b.marks ≡ b
remarked_is a b same =
    ap (λ (v : Mode). let m : Machine = record {
      mode = v;
      history = a.history;
      marks = b.marks;
      last_round = a.last_round;
      rounds = a.rounds;
      copies = a.copies;
    } in m) same.mode
    ∙ ap (λ (v : List Process). let m : Machine = record {
      mode = b.mode;
      history = v;
      marks = b.marks;
      last_round = a.last_round;
      rounds = a.rounds;
      copies = a.copies;
    } in m) same.history
    ∙ ap (λ (v : ℕ). let m : Machine = record {
      mode = b.mode;
      history = b.history;
      marks = b.marks;
      last_round = v;
      rounds = a.rounds;
      copies = a.copies;
    } in m) same.last_round
    ∙ ap (λ (v : List ListedRound). let m : Machine = record {
      mode = b.mode;
      history = b.history;
      marks = b.marks;
      last_round = b.last_round;
      rounds =
          v;
      copies = a.copies;
    } in m) same.rounds
    ∙ ap (λ (v : List (List (List MsgName))). let m : Machine = record {
      mode = b.mode;
      history = b.history;
      marks = b.marks;
      last_round = b.last_round;
      rounds =
          b.rounds;
      copies = v;
    } in m) same.copies

pub machines_alike : (old other : Machine) (step : Step) (answer : Answer) (new : Machine)
    → IsSameMachine old other → Takes old step answer new → IsAnsweredAlike other step answer new
machines_alike old other step answer new same takes = subst
    (λ (m : Machine). IsAnsweredAlike m step answer new) (remarked_is old other same)
    (answer_same old other.marks same.marks step answer new takes)

-- one machine after another
marks_through : (a b c : MarksView) → AreSameMarks a b → AreSameMarks b c → AreSameMarks a c
marks_through a b c one two = record {
  count = one.count ∙ two.count;
  bars = one.bars ∙ two.bars;
  damaged = λ p d. one.damaged p d ∙ two.damaged p d;
}

pub same_through : (a b c : Machine) → IsSameMachine a b → IsSameMachine b c → IsSameMachine a c
same_through a b c one two = record {
  mode = one.mode ∙ two.mode;
  history = one.history ∙ two.history;
  marks = marks_through a.marks b.marks c.marks one.marks two.marks;
  last_round = one.last_round ∙ two.last_round;
  rounds = one.rounds ∙ two.rounds;
  copies = one.copies ∙ two.copies;
}

-- what is left of marks in another order
marks_cut : (floor : Floor) (a b : MarksView) → AreSameMarks a b
    → AreSameMarks (cut_marks floor a) (cut_marks floor b)
marks_cut floor a b same = record {
  count = length_damaged floor a ∙ same.count ∙ sym (length_damaged floor b);
  bars = ap (λ (bars : List (Option ℕ)).
      (cut_marks floor (record { damaged = a.damaged; bars = bars })).bars) same.bars;
  damaged = λ p c.
      damaged_left floor a p c
      ∙ ap (λ (t : Bool). nat_lt (floor_check floor p) (c + lost_checks floor p) && t)
      (same.damaged p (c + lost_checks floor p))
      ∙ sym (damaged_left floor b p c);
}

pub machines_cut : (floor : Floor) (a b : Machine) → IsSameMachine a b
    → IsSameMachine (cut_machine floor a) (cut_machine floor b)
machines_cut floor a b same = record {
  mode = same.mode;
  history = ap (cut_history floor) same.history;
  marks = marks_cut floor a.marks b.marks same.marks;
  last_round = same.last_round;
  rounds = ap (λ (rounds : List ListedRound). map (cut_listed floor)
      (filter (is_listed_on floor) rounds)) same.rounds;
  copies = same.copies;
}

-- what is kept of a machine answers as it does
pub kept_alike : (floor : Floor) (whole kept new : Machine) (step : Step) (answer : Answer)
    → IsBeside floor whole → SparesFloor floor step → IsSameMachine kept (cut_machine floor whole)
    → Takes kept (cut_step floor step) answer new
    → IsAnsweredAsWhole floor whole step answer new
kept_alike floor whole kept new step answer beside spares same takes =
    let one = machines_alike kept (cut_machine floor whole)
    (cut_step floor step) answer new same takes in
    let both = step_alike floor whole step answer one.after beside spares one.takes in
    record {
      after = both.new;
      takes = both.takes;
      beside = both.beside;
      same = subst
          (λ (m : Machine). IsSameMachine new m) both.same one.same;
    }

module _ (floor later : Floor) (whole kept : Machine) (beside : IsBeside floor whole)
    (same : IsSameMachine kept (cut_machine floor whole))
    (idle : is_open kept ≡ false) (last : later.round ≡ kept.last_round)
    (there : IsFloor kept.history later) (stays : FloorSurvives kept.history kept.marks later)
    (some : (p : ℕ) → p < length whole.history → 1 ≤ floor_check floor p → 1 ≤ floor_check later p)
  where
    open_kept : is_open (cut_machine floor whole) ≡ false
    open_kept = ap is_open (sym (remarked_is kept (cut_machine floor whole) same)) ∙ idle

    there_kept : IsFloor (cut_history floor whole.history) later
    there_kept = subst (λ (h : List Process). IsFloor h later) same.history there

    stays_kept : FloorSurvives (cut_history floor whole.history) (cut_marks floor whole.marks) later
    stays_kept p within =
        let choice : Choice = AtCheck (floor_check later p) in
        let before : IsTrue (survives kept.history kept.marks [] p choice) = stays p
        (omega (arith, within, ap (λ (h : List Process). length h) same.history)) in
        subst IsTrue
        (survives_same kept.history kept.marks (cut_marks floor whole.marks) [] same.marks p choice
        ∙ ap (λ (h : List Process). survives h (cut_marks floor whole.marks) [] p choice)
        same.history)
        before

    -- it may let go again by itself, and stays what is left of the whole
    pub kept_beside : IsBeside (whole_floor floor later) whole
    kept_beside = beside_later floor later whole beside open_kept
        (last ∙ same.last_round) there_kept stays_kept some

    pub kept_further : (new : Machine) → IsSameMachine new (cut_machine later kept)
        → length floor.sends ≡ length later.sends → length whole.marks.bars ≡ length whole.history
        → All (IsSnapshotOf whole.history) whole.rounds
        → IsSameMachine new (cut_machine (whole_floor floor later) whole)
    kept_further new cut sends barred snapshots =
        let further = further_later floor later whole beside open_kept
        (last ∙ same.last_round) there_kept stays_kept some sends barred snapshots in
        subst (λ (m : Machine). IsSameMachine new m) (machine_both floor later whole further)
        (same_through new (cut_machine later kept) (cut_machine later (cut_machine floor whole)) cut
        (machines_cut later kept (cut_machine floor whole) same))
