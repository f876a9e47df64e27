-- What later commands leave of the line that is planned where every process failed, in a machine
-- that let something go before.
use Rattle.std.proofs.Common.{◌≡◌, ◌≢◌, ◌<◌, ◌≤◌, ℕ, zero, suc, ◌+◌, ◌-◌, ◌&&◌, Bool, true, false}
use Rattle.std.proofs.Common.{max, List, [], ◌∷◌, Option, Some, None, length, map, refl, sym, ap}
use Rattle.std.proofs.Common.{◌∙◌, subst, arith, inl, inr}
use Rattle.std.specs.Prelude.{if◌then◌else◌, nat_le}
use Rattle.std.specs.List.{AllByRecursion}
use Rattle.std.proofs.Math.Nat.{le-max_left, le-max_right, max-eq_left, max-le}
use Rattle.std.proofs.lemmas.Bool.{cases_lt, le-leb}
use Rattle.std.proofs.lemmas.List.FromFn.{get_or-map-range_with_len, length-map-range_with_len}
use Rattle.std.proofs.lemmas.List.{get_or_past}
use Rattle.line_names.specs.declared.choices.Choice.{Choice}
use Rattle.line_names.specs.declared.choices.Choice.TheVariants.{Check as AtCheck, Now}
use Rattle.line_names.specs.declared.messages.MsgName.{MsgName}
use Rattle.line_names.specs.Lines.{IsNowhereLater, choice_at}
use Rattle.line_names.specs.Order.{IsNoLater}
use Rattle.line_tape.specs.Rounds.{check_line}
use Rattle.line_tape.specs.Transit.{in_transit_between}
use Rattle.line_cuts.specs.Cuts.{Floor, floor_check, lost_checks, whole_choice, whole_line}
use Rattle.line_plan.specs.declared.plans.Plan.{Plan}
use Rattle.line_tape.specs.declared.steps.Step.{Step}
use Rattle.line_tape.specs.declared.steps.Step.TheVariants.{Send, Deliver, Check, Begin, Turn}
use Rattle.line_tape.specs.declared.steps.Step.TheVariants.{Damage, Bar, Recover}
use Rattle.line_world.specs.declared.replies.Answer.{Answer}
use Rattle.line_world.specs.declared.replies.Answer.TheVariants as answers
use Rattle.line_world.specs.declared.replies.Reply.TheVariants.{Sent, Took, Marked, Stale, Repeated}
use Rattle.line_world.specs.declared.replies.Reply.TheVariants.{Checked, Begun, Turned, Damaged}
use Rattle.line_world.specs.declared.replies.Reply.TheVariants.{Barred, Recovered}
use Rattle.line_world.specs.declared.replies.StepError.{StepError}
use Rattle.line_live.specs.CutMachines.{cut_step, whole_answer}
use Rattle.line_live.specs.Lives.{IsPlanOfKept, LiveMachine, TakesUnless, floor_refusal}
use Rattle.line_scripts.specs.declared.commands.Command.{Command}
use Rattle.line_scripts.specs.declared.commands.Command.TheVariants as commands
use Rattle.line_text.specs.Answers.{CommandAnswer, Answered, Refused, Listing, Shown, Claimed}
use Rattle.line_text.specs.Answers.{Planned, Judged, Saved, Tells, TellsAll}
use Rattle.line_text.specs.Live.{IsSparing, SparesLine, line_told}
use Rattle.line_text.proofs.LiveLemmas.{StaysIn, index_of, of_checks, reached, recovery_told}
use Rattle.line_text.proofs.LiveLemmas.{stays_first, stays_taken}

-- ---- choices of what is kept, in the whole

-- a choice of a line that is brought back
at_whole : (floor : Floor) (line : List Choice) (p : ℕ) → p < length line
    → choice_at (whole_line floor line) p ≡ whole_choice floor p (choice_at line p)
at_whole floor line p within = get_or-map-range_with_len (λ q. whole_choice floor q
    (choice_at line q)) 0 (length line) p p (AtCheck 0) within (omega arith)

past_whole : (floor : Floor) (line : List Choice) (p : ℕ) → length line ≤ p
    → choice_at (whole_line floor line) p ≡ AtCheck 0
past_whole floor line p past =
    let long : length (whole_line floor line) ≡ length line = length-map-range_with_len
    (λ q. whole_choice floor q (choice_at line q)) 0 (length line) in
    get_or_past (whole_line floor line) p (AtCheck 0) (omega (arith, past, long))

-- one that is no later is no later when it is brought back
no_later : (floor : Floor) (p : ℕ) (a b : Choice) → IsNoLater a b
    → IsNoLater (whole_choice floor p a) (whole_choice floor p b)
no_later floor p (AtCheck a) (AtCheck b) le =
    let left = le-max_left (b + lost_checks floor p) (floor_check floor p) in
    max-le (omega (arith, le, left)) (le-max_right (b + lost_checks floor p) (floor_check floor p))
no_later floor p (AtCheck a) Now le = tt
no_later floor p Now (AtCheck b) le = absurd le
no_later floor p Now Now le = tt

nowhere_later : (floor : Floor) (line other : List Choice) → length line ≡ length other
    → IsNowhereLater line other → IsNowhereLater (whole_line floor line) (whole_line floor other)
nowhere_later floor line other same later p = elim (cases_lt p (length line)) [
  | inl within ↦
      let there : p < length other = omega (arith, within, same) in
      rw (at_whole floor line p within, at_whole floor other p there)
      (no_later floor p (choice_at line p) (choice_at other p) (later p))
  | inr past ↦
      let beyond : length other ≤ p = omega (arith, past, same) in
      rw (past_whole floor line p past, past_whole floor other p beyond) (omega arith)
]

-- ---- steps that spare a line

none_if : (b : Bool) (e : StepError) → (if b then Some e else None) ≡ None → b ≡ false
none_if true e h = cc h
none_if false e h = refl

-- a check after the floor is brought back as it was
brought : (fc c : ℕ) → (nat_le 1 fc && nat_le c fc) ≡ false → max (c - (fc - 1) + (fc - 1)) fc ≡ c
brought zero c h = max-eq_left (omega arith) ∙ omega arith
brought (suc k) c h = elim (cases_lt (suc k) c) [
  | inl after ↦ let same : c - (suc k - 1) + (suc k - 1) ≡ c = omega (arith, after) in ap
      (λ (m : ℕ). max m (suc k)) same ∙ max-eq_left (omega (arith, after))
  | inr before ↦ let low : nat_le c (suc k) ≡ true = le-leb c (suc k) before in let wrong : true
      ≡ false = sym (rw (le-leb 1 (suc k) (omega arith), low) refl) ∙ h in absurd (cc)
]

-- a check before which nothing is let go is no later than one that is not before the floor
spared_damage : (floor : Floor) (line : List Choice) (at check : ℕ)
    → (nat_le 1 (floor_check floor at) && nat_le check (floor_check floor at)) ≡ false
    → choice_at (whole_line floor line) at ≢ AtCheck check
    → choice_at line at ≢ AtCheck (check - lost_checks floor at)
spared_damage floor line at check none other same = elim (cases_lt at (length line)) [
  | inl within ↦ other (at_whole floor line at within ∙ ap (whole_choice floor at) same ∙ ap
      (λ (c : ℕ). AtCheck c) (brought (floor_check floor at) check none))
  | inr past ↦
      let first : AtCheck 0 ≡ AtCheck (check - lost_checks floor at) = sym
      (get_or_past line at (AtCheck 0) past) ∙ same in
      let low : 0 ≡ check - lost_checks floor at = cc first in
      elim (cases_lt 0 check) [
        | inl some ↦
            let high : check ≤ floor_check floor at = omega (arith, low, some) in
            let one : 1 ≤ floor_check floor at = omega (arith, high, some) in
            let wrong : true ≡ false = sym (rw (
              le-leb 1 (floor_check floor at) one,
              le-leb check
                  (floor_check floor at) high,
            ) refl) ∙ none in
            cc wrong
        | inr low_check ↦
            let is : 0 ≡ check = omega (arith, low_check) in
            other (past_whole floor line at past ∙ ap (λ (c : ℕ). AtCheck c) is)
      ]
]

spared_bar : (floor : Floor) (line : List Choice) (at check : ℕ) (choice : Choice)
    → choice_at line at ≡ choice → IsNoLater (choice_at (whole_line floor line) at) (AtCheck check)
    → IsNoLater choice (AtCheck (check - lost_checks floor at))
spared_bar floor line at check choice is low = elim (cases_lt at (length line)) [
  | inl within ↦ kept choice
      (subst (λ (c : Choice). IsNoLater (whole_choice floor at c) (AtCheck check)) is
      (subst (λ (c : Choice). IsNoLater c (AtCheck check)) (at_whole floor line at within) low))
  | inr past ↦
      let first : choice ≡ AtCheck 0 = sym is ∙ get_or_past line at (AtCheck 0) past in
      subst (λ (c : Choice). IsNoLater c (AtCheck (check - lost_checks floor at))) (sym first)
      (omega arith)
]
  where
    kept : (c : Choice) → IsNoLater (whole_choice floor at c) (AtCheck check)
        → IsNoLater c (AtCheck (check - lost_checks floor at))
    kept (AtCheck c) le = let left = le-max_left (c + lost_checks floor at)
        (floor_check floor at) in omega (arith, le, left)
    kept Now le = absurd le

-- a step that spares a line spares it in what is kept
sparing_kept : (floor : Floor) (line : List Choice) (step : Step) → floor_refusal floor step ≡ None
    → IsSparing (whole_line floor line) step → IsSparing line (cut_step floor step)
sparing_kept floor line (Send from to body) none spares = tt
sparing_kept floor line (Deliver from to pick state) none spares = tt
sparing_kept floor line (Check at state) none spares = tt
sparing_kept floor line (Begin at state) none spares = tt
sparing_kept floor line (Turn at state) none spares = tt
sparing_kept floor line (Damage at check) none spares = spared_damage floor line at check
    (none_if (nat_le 1 (floor_check floor at) && nat_le check (floor_check floor at)) _ none) spares
sparing_kept floor line (Bar at check) none spares =
    spared_bar floor line at check (choice_at line at) refl spares
sparing_kept floor line (Recover failed) none spares = tt

-- ---- commands that spare it

-- it stays in what is kept, before the same floor
record StaysKept (indices : List ℕ) (channels : ℕ → ℕ → List MsgName) (floor : Floor)
    (live : LiveMachine) : Type 0 where
  pub floor_is : live.floor ≡ floor
  pub stays : StaysIn indices channels live.kept

module _ (indices : List ℕ) (channels : ℕ → ℕ → List MsgName) (floor : Floor) where
  stays_unless : (cause : Option StepError) (old new : LiveMachine) (step : Step) (answer : Answer)
      → floor_refusal old.floor step ≡ cause → TakesUnless cause old step answer new
      → IsSparing (whole_line floor (check_line indices)) step
      → StaysKept indices channels floor old → StaysKept indices channels floor new
  stays_unless (Some cause) old new step answer is takes sparing stays =
      subst (StaysKept indices channels floor) (sym takes.1) stays
  stays_unless None old new step answer is takes sparing stays =
      let spared : IsSparing (whole_line old.floor (check_line indices)) step = subst
      (λ (f : Floor). IsSparing (whole_line f (check_line indices)) step)
      (sym stays.floor_is) sparing in
      record {
        floor_is = takes.floor_is ∙ stays.floor_is;
        stays = stays_taken indices channels old.kept new.kept (cut_step old.floor step) takes.told
            takes.takes (sparing_kept old.floor (check_line indices) step is spared) stays.stays;
      }

  stays_told : (old new : LiveMachine) (command : Command) (told : CommandAnswer)
      → Tells old command told new → SparesLine (whole_line floor (check_line indices)) command
      → StaysKept indices channels floor old → StaysKept indices channels floor new
  stays_told old new (commands.Do step) (Answered answer) tells sparing stays =
      stays_unless (floor_refusal old.floor step) old new step answer refl tells sparing stays
  stays_told old new (commands.Refused code) (Refused shown) tells sparing stays =
      subst (StaysKept indices channels floor) (sym tells.1) stays
  stays_told old new commands.Rounds (Listing at n rounds) tells sparing stays =
      subst (StaysKept indices channels floor) (sym tells.3) stays
  stays_told old new commands.History (Shown floors history) tells sparing stays =
      subst (StaysKept indices channels floor) (sym tells.2) stays
  stays_told old new (commands.Bundle failed) (Claimed floors history claim) tells sparing stays =
      subst (StaysKept indices channels floor) (sym tells.3) stays
  stays_told old new (commands.Bundle failed) (Refused code) tells sparing stays =
      subst (StaysKept indices channels floor) (sym tells.2) stays
  stays_told old new (commands.Plan failed) (Planned answer) tells sparing stays =
      subst (StaysKept indices channels floor) (sym tells.1) stays
  stays_told old new (commands.Answer failed) (Judged floors history claim) tells sparing stays =
      subst (StaysKept indices channels floor) (sym tells.3) stays
  stays_told old new (commands.Answer failed) (Planned (answers.Refused e)) tells sparing stays =
      subst (StaysKept indices channels floor) (sym tells.1) stays
  stays_told old new commands.Live (Planned answer) tells sparing stays =
      subst (StaysKept indices channels floor) (sym tells.1) stays
  stays_told old new (commands.Forget round) told tells sparing stays = absurd sparing
  stays_told old new commands.Save (Saved parts) tells sparing stays =
      subst (StaysKept indices channels floor) (sym tells.2) stays
  stays_told old new commands.Save (Refused code) tells sparing stays =
      subst (StaysKept indices channels floor) (sym tells.1) stays
  stays_told old new command told tells sparing stays = absurd tells

  stays_run : (old new : LiveMachine) (asked : List Command) (told : List CommandAnswer)
      → TellsAll old asked told new → AllByRecursion (SparesLine
      (whole_line floor (check_line indices))) asked → StaysKept indices channels floor old
      → StaysKept indices channels floor new
  stays_run old new [] [] run sparing stays =
      subst (StaysKept indices channels floor) (sym run) stays
  stays_run old new [] (one ∷ others) run sparing stays = absurd run
  stays_run old new (command ∷ asked) [] run sparing stays = absurd run
  stays_run old new (command ∷ asked) (one ∷ others) (mid, tells, run) sparing stays = stays_run mid
      new asked others run sparing.1 (stays_told old mid command one tells sparing.0 stays)

-- ---- the law

-- a line that is told of is one of what is kept, brought back
record IsBroughtBack (floor : Floor) (told : Answer) (line : List Choice) : Type 0 where
  pub kept : List Choice
  pub told_is : line_told told ≡ Some kept
  pub line_is : line ≡ whole_line floor kept

line_kept : (floor : Floor) (told : Answer) (line : List Choice)
    → line_told (whole_answer floor told) ≡ Some line → IsBroughtBack floor told line
line_kept floor (answers.Done (Recovered plan states incarnations)) line is =
    let same : whole_line floor plan.value.line ≡ line = cc is in
    record { kept = plan.value.line; told_is = refl; line_is = sym same }
line_kept floor (answers.Done (Sent message)) line is = cc is
line_kept floor (answers.Done (Took message forced)) line is = cc is
line_kept floor (answers.Done (Marked round forced)) line is = cc is
line_kept floor (answers.Done (Stale message)) line is = cc is
line_kept floor (answers.Done (Repeated message)) line is = cc is
line_kept floor (answers.Done (Checked at check)) line is = cc is
line_kept floor (answers.Done (Begun at check round)) line is = cc is
line_kept floor (answers.Done (Turned at check round)) line is = cc is
line_kept floor (answers.Done (Damaged at check)) line is = cc is
line_kept floor (answers.Done (Barred at check)) line is = cc is
line_kept floor (answers.Refused e) line is = cc is

pub live_stays : (old mid new : LiveMachine) (answer : Answer) (line : List Choice)
    (asked : List Command) (told : List CommandAnswer) (failed : List Bool) (later : Plan)
    → Tells old commands.Live (Planned answer) mid → line_told answer ≡ Some line
    → TellsAll mid asked told new → AllByRecursion (SparesLine line) asked
    → IsPlanOfKept new failed later → IsNowhereLater line later.line
live_stays old mid new answer line asked told failed later
    ((all, everybody, (after, takes)), same) is run sparing planned =
    let f : Floor = old.floor in
    let back = line_kept f takes.told line (ap line_told (sym takes.brought_back) ∙ is) in
    let kept : List Choice = back.kept in
    let live = recovery_told old.kept after.kept all takes.told kept everybody takes.takes
    back.told_is in
    let indices : List ℕ = map index_of kept in
    let checks_are : check_line indices
    ≡ kept = of_checks old.kept.history old.kept.marks live.failed live.all kept live.latest in
    let channels : ℕ → ℕ
    → List MsgName = in_transit_between old.kept.history (check_line indices) in
    let first : StaysKept indices channels f old = record {
      floor_is = refl;
      stays = stays_first
          old.kept.history old.kept.marks live.failed live.all kept live.latest;
    } in
    let at_mid : StaysKept indices channels f mid = subst (StaysKept indices channels f)
    (sym same) first in
    let line_is : line
    ≡ whole_line f (check_line indices) = back.line_is ∙ ap (whole_line f) (sym checks_are) in
    let spared : AllByRecursion (SparesLine (whole_line f (check_line indices))) asked = subst
    (λ (l : List Choice). AllByRecursion (SparesLine l) asked) line_is sparing in
    let last : StaysKept indices channels f new = stays_run indices channels f mid new asked told
    run spared at_mid in
    let low : IsNowhereLater
    (check_line indices) planned.kept.line = reached new.kept.history new.kept.marks failed
    planned.kept.line indices channels planned.plan_is.latest last.stays in
    let long : length (check_line indices) ≡ length planned.kept.line =
    last.stays.snapshot.line.length_is ∙ sym planned.plan_is.latest.recoverable.length_is in
    let brought_low : IsNowhereLater (whole_line f (check_line indices)) (whole_line f
    planned.kept.line) = nowhere_later f (check_line indices) planned.kept.line long low in
    let later_is : later.line ≡ whole_line f planned.kept.line = ap (λ (plan : Plan). plan.line)
    planned.brought_back ∙ ap (λ (g : Floor). whole_line g planned.kept.line) last.floor_is in
    rw (line_is, later_is) brought_low
