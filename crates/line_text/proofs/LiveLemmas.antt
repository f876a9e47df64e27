-- A line of checks that survive stays one, as events come and restarts go back to no earlier line.
use Rattle.std.proofs.Common.{◌≡◌, ◌≢◌, ◌≤◌, ◌<◌, ℕ, zero, suc, ◌+◌, Bool, true, false, cond, List}
use Rattle.std.proofs.Common.{[], ◌∷◌, ◌++◌, Option, Some, None, length, map, replicate, get_or}
use Rattle.std.proofs.Common.{refl, sym, ap, ◌∙◌, subst, arith, inl, inr, le-leb}
use Rattle.std.specs.Prelude.{◌⊎◌, IsTrue, not, ◌&&◌, ◌||◌, ◌==◌, nat_le, slice_set}
use Rattle.std.specs.List.{filter, list_any}
use Rattle.std.proofs.lemmas.Bool.{cases_eq, cases_lt, eqb-true}
use Rattle.std.proofs.lemmas.List.{get_or-set_same, get_or-set_other, get_or-replicate, get_or_past}
use Rattle.std.proofs.lemmas.List.{length-replicate, set_past}
use Rattle.std.proofs.lemmas.List.Folds.{list_any-append}
use Rattle.line_names.specs.declared.choices.Choice.{Choice}
use Rattle.line_names.specs.declared.choices.Choice.TheVariants.{Check as AtCheck, Now}
use Rattle.line_names.specs.declared.messages.MsgName.{MsgName}
use Rattle.line_names.specs.Lines.{choice_at, IsNowhereLater}
use Rattle.line_names.specs.Order.{IsNoLater}
use Rattle.line_names.specs.Sets.{is_member}
use Rattle.line_tape.specs.declared.events.Event.{Event}
use Rattle.line_tape.specs.declared.events.Event.TheVariants.{Send as SendEvent}
use Rattle.line_tape.specs.declared.events.Event.TheVariants.{Check as CheckEvent}
use Rattle.line_tape.specs.Event.{checks}
use Rattle.line_tape.specs.History.{Process, incarnation_at, tape_at, with_event}
use Rattle.line_tape.specs.Line.{IsLine, IsConsistent}
use Rattle.line_tape.specs.Restart.{is_kept, restarted_damage, restarted_history, restarted_marks}
use Rattle.line_tape.specs.Rounds.{check_line, IsSnapshot}
use Rattle.line_tape.specs.Survival.{is_allowed, is_damaged, survives, IsLatest}
use Rattle.line_tape.specs.Transit.{in_transit_between}
use Rattle.line_tape.specs.Views.{MarksView, bar_at, damaged_at, with_bar, with_mark}
use Rattle.line_laws.proofs.KeptLemmas.{choice_of_checks}
use Rattle.line_laws.proofs.SnapshotLemmas.{check_there, latest_reached, snapshot_event}
use Rattle.line_laws.proofs.SnapshotLemmas.{snapshot_restarted}
use Rattle.line_moves.specs.Fates.{events_taken}
use Rattle.line_moves.specs.Moves.{with_events}
use Rattle.line_moves.proofs.LineFacts.{IsLine-latest}
use Rattle.line_moves.proofs.LinkLemmas.{length-with_event}
use Rattle.line_tape.specs.declared.steps.Step.{Step}
use Rattle.line_tape.specs.declared.steps.Step.TheVariants.{Send, Deliver, Check, Begin, Turn}
use Rattle.line_tape.specs.declared.steps.Step.TheVariants.{Damage, Bar, Recover}
use Rattle.line_world.specs.declared.replies.Answer.{Answer}
use Rattle.line_world.specs.declared.replies.Answer.TheVariants as answers
use Rattle.line_world.specs.declared.replies.Reply.{Reply}
use Rattle.line_world.specs.declared.replies.Reply.TheVariants.{Sent, Took, Marked, Stale, Repeated}
use Rattle.line_world.specs.declared.replies.Reply.TheVariants.{Checked, Begun, Turned, Damaged}
use Rattle.line_world.specs.declared.replies.Reply.TheVariants.{Barred, Recovered}
use Rattle.line_world.specs.Machine.{Machine}
use Rattle.line_world.specs.Refusals.{refusal_of}
use Rattle.line_world.specs.Runs.{Takes}
use Rattle.line_world.specs.Steps.{Does, RecoversWith}
use Rattle.line_world.proofs.StepLemmas.{may_begin, may_check, may_deliver_at, may_send}
use Rattle.line_world.proofs.StepLemmas.{may_turn_at}
use Rattle.line_text.specs.Answers.{IsEverybody}
use Rattle.line_text.specs.Live.{IsSparing, line_told}

-- the checks of a line, where it has checks alone
abbrev pub index_of : Choice → ℕ
index_of (AtCheck c) = c
index_of Now = 0

checks_alone : (line : List Choice) → ((p : ℕ) → p < length line → choice_at line p ≢ Now)
    → check_line (map index_of line) ≡ line
checks_alone [] none = refl
checks_alone (AtCheck c ∷ line) none = ap (λ (rest : List Choice). AtCheck c ∷ rest)
    (checks_alone line (λ p within. none (suc p) (omega (arith, within))))
checks_alone (Now ∷ line) none = absurd (none 0 (omega arith) refl)

-- these checks make a snapshot, and nothing keeps a process from going back to its own
pub record Stays (history : List Process) (marks : MarksView) (indices : List ℕ)
    (channels : ℕ → ℕ → List MsgName) : Type 0 where
  pub snapshot : IsSnapshot history indices channels
  pub whole : (p c : ℕ) → get_or indices p 0 ≡ suc c → is_damaged marks p (suc c) ≡ false
  pub allowed : (p : ℕ) → is_allowed (bar_at marks p) (AtCheck (get_or indices p 0)) ≡ true

-- what survival asks of a check
three_parts : (a b c : Bool) → (a && not b && c) ≡ true → (b ≡ false) × (c ≡ true)
three_parts true true c e = absurd (cc)
three_parts true false true e = (refl, refl)
three_parts true false false e = absurd (cc)
three_parts false true c e = absurd (cc)
three_parts false false c e = absurd (cc)

whole_check : (history : List Process) (marks : MarksView) (failed : List Bool) (p c : ℕ)
    → survives history marks failed p (AtCheck (suc c)) ≡ true → is_damaged marks p (suc c) ≡ false
whole_check history marks failed p c s = (three_parts (nat_le (suc c) (checks (tape_at history p)))
    (is_damaged marks p (suc c)) (is_allowed (bar_at marks p) (AtCheck (suc c))) s).0

first_allowed : (bar : Option ℕ) → is_allowed bar (AtCheck 0) ≡ true
first_allowed None = refl
first_allowed (Some bar) = le-leb 0 bar (omega arith)

allowed_check : (history : List Process) (marks : MarksView) (failed : List Bool) (p c : ℕ)
    → survives history marks failed p (AtCheck c) ≡ true
    → is_allowed (bar_at marks p) (AtCheck c) ≡ true
allowed_check history marks failed p zero s = first_allowed (bar_at marks p)
allowed_check history marks failed p (suc c) s = (three_parts (nat_le (suc c) (checks (tape_at
    history p))) (is_damaged marks p (suc c)) (is_allowed (bar_at marks p) (AtCheck (suc c))) s).1

surviving_check : (history : List Process) (marks : MarksView) (failed : List Bool) (p c : ℕ)
    → c ≤ checks (tape_at history p) → ((k : ℕ) → c ≡ suc k → is_damaged marks p (suc k) ≡ false)
    → is_allowed (bar_at marks p) (AtCheck c) ≡ true
    → survives history marks failed p (AtCheck c) ≡ true
surviving_check history marks failed p zero there whole allowed = refl
surviving_check history marks failed p (suc c) there whole allowed =
    rw (le-leb (suc c) (checks (tape_at history p)) there, whole c refl, allowed) refl

-- the line that is planned where every process failed stays, to begin with
no_now : (history : List Process) (marks : MarksView) (failed : List Bool) (p : ℕ)
    → is_member failed p ≡ true → (choice : Choice) → survives history marks failed p choice ≡ true
    → choice ≢ Now
no_now history marks failed p member (AtCheck c) s same = cc same
no_now history marks failed p member Now s same =
    let wrong : false
    ≡ true = ap (λ (b : Bool). not b && is_allowed (bar_at marks p) Now) (sym member) ∙ s in
    cc wrong

module _ (history : List Process) (marks : MarksView) (failed : List Bool)
    (all : IsEverybody (length history) failed) (line : List Choice)
    (latest : IsLatest history marks failed line) where
  pub of_checks : check_line (map index_of line) ≡ line
  of_checks = checks_alone line (λ p within. no_now history marks failed p ((all p).1 (omega (
    arith,
    within,
    latest.recoverable.length_is,
  ))) (choice_at line p) (latest.recoverable.surviving p))

  surviving_at : (p : ℕ)
      → survives history marks failed p (AtCheck (get_or (map index_of line) p 0)) ≡ true
  surviving_at p =
      subst (λ (choice : Choice). survives history marks failed p choice ≡ true)
      (choice_of_checks (map index_of line) p)
      (subst (λ (l : List Choice). survives history marks failed p (choice_at l p) ≡ true)
      (sym of_checks) (latest.recoverable.surviving p))

  whole_at : (p c : ℕ) → get_or (map index_of line) p 0 ≡ suc c → is_damaged marks p (suc c) ≡ false
  whole_at p c e = whole_check history marks failed p c
      (subst (λ (k : ℕ). survives history marks failed p (AtCheck k) ≡ true) e (surviving_at p))

  pub stays_first : Stays history marks (map index_of line)
      (in_transit_between history (check_line (map index_of line)))
  stays_first = record {
    snapshot = record {
      line =
          subst (IsLine history) (sym of_checks) (IsLine-latest history marks failed line latest);
      consistent = subst (IsConsistent history) (sym of_checks) latest.recoverable.consistent;
      transit = λ p q lp lq other. refl;
    };
    whole = whole_at;
    allowed =
        λ p. allowed_check history marks failed p (get_or (map index_of line) p 0) (surviving_at p);
  }

-- while it stays, the latest line is nowhere before it
pub reached : (history : List Process) (marks : MarksView) (failed : List Bool) (line : List Choice)
    (indices : List ℕ) (channels : ℕ → ℕ → List MsgName) → IsLatest history marks failed line
    → Stays history marks indices channels
    → IsNowhereLater (check_line indices) line
reached history marks failed line indices channels latest stays =
    latest_reached history marks failed line indices channels latest stays.snapshot
    (λ p within. surviving_check history marks failed p (get_or indices p 0)
    (check_there history indices stays.snapshot.line p) (stays.whole p) (stays.allowed p))

-- an element of a list that is set somewhere
set_or_same : {A : Type 0} (xs : List A) (at p : ℕ) (v d : A) → (get_or (slice_set xs at v) p d
    ≡ get_or xs p d) ⊎ ((p ≡ at) × (get_or (slice_set xs at v) p d ≡ v))
set_or_same {A} xs at p v d = elim (cases_eq p at) [
  | inl same ↦ elim (cases_lt at (length xs)) [
    | inl within ↦ inr (
      same,
      subst (λ (q : ℕ). get_or (slice_set xs at v) q d ≡ v) (sym same)
          (get_or-set_same xs at v d within),
    )
    | inr past ↦ inl (ap (λ (ys : List A). get_or ys p d) (set_past xs at v past))
  ]
  | inr other ↦ inl (get_or-set_other xs at p v d other)
]

-- two numbers that are not the same
apart_by : (test : Bool) (a b : ℕ) → (a == b) ≡ test → a ≢ b → (a == b) ≡ false
apart_by true a b e apart = absurd (apart (eqb-true a b e))
apart_by false a b e apart = e

-- one more mark of damage
marked : (marks : MarksView) (at check p c : ℕ) → is_damaged marks p c ≡ false
    → (p ≡ at → check ≢ c) → is_damaged (with_mark marks at check) p c ≡ false
marked marks at check p c whole other =
    elim (set_or_same marks.damaged at p (damaged_at marks at ++ check ∷ []) []) [
      | inl same ↦ ap (list_any (λ (damaged : ℕ). damaged == c)) same ∙ whole
      | inr here ↦
          let before : list_any (λ (damaged : ℕ). damaged == c) (damaged_at marks at)
          ≡ false = ap (λ (q : ℕ). is_damaged marks q c) (sym here.0) ∙ whole in
          let one : (check == c) ≡ false = apart_by (check == c) check c refl (other here.0) in
          ap (list_any (λ (damaged : ℕ). damaged == c)) here.1 ∙ list_any-append (λ (damaged : ℕ).
          damaged == c) (damaged_at marks at) (check ∷ []) ∙ rw (before, one) refl
    ]

-- a bar
barred : (marks : MarksView) (at check p c : ℕ) → is_allowed (bar_at marks p) (AtCheck c) ≡ true
    → (p ≡ at → c ≤ check) → is_allowed (bar_at (with_bar marks at check) p) (AtCheck c) ≡ true
barred marks at check p c allowed low =
    elim (set_or_same marks.bars at p (Some check) None) [
      | inl same ↦ ap (λ (bar : Option ℕ). is_allowed bar (AtCheck c)) same ∙ allowed
      | inr here ↦ ap (λ (bar : Option ℕ). is_allowed bar (AtCheck c)) here.1 ∙ le-leb c check
          (low here.0)
    ]

neither : (a b : Bool) → (a || b) ≡ false → (a ≡ false) × (b ≡ false)
neither true b e = absurd (cc)
neither false b e = (refl, e)

-- a restart leaves no mark that was not there, and no bar
any_kept : (test keep : ℕ → Bool) (xs : List ℕ) → list_any test xs ≡ false
    → list_any test (filter keep xs) ≡ false
any_kept test keep [] none = refl
any_kept test keep (x ∷ xs) none =
    let parts = neither (test x) (list_any test xs) none in
    elim (keep x) as
    (λ (b : Bool). list_any test (cond b (x ∷ filter keep xs) (filter keep xs)) ≡ false) [
      | true ↦ rw (parts.0, any_kept test keep xs parts.1) refl
      | false ↦ any_kept test keep xs parts.1
    ]

left_whole : (test : ℕ → Bool) (damaged : List (List ℕ)) (line : List Choice) (p : ℕ)
    → list_any test (get_or damaged p []) ≡ false
    → list_any test (get_or (restarted_damage damaged line) p []) ≡ false
left_whole test [] line p none = refl
left_whole test (checks ∷ rest) [] p none = refl
left_whole test (checks ∷ rest) (choice ∷ line) zero none =
    any_kept test (is_kept choice) checks none
left_whole test (checks ∷ rest) (choice ∷ line) (suc p) none = left_whole test rest line p none

abbrev bars_left : ℕ → List (Option ℕ)
bars_left n = replicate n None

no_bar : (n p : ℕ) → get_or (bars_left n) p None ≡ None
no_bar n p = elim (cases_lt p n) [
  | inl within ↦ get_or-replicate n p None None within
  | inr past ↦
      let none : Option ℕ = None in
      let long : length (bars_left n) ≡ n = length-replicate n none in
      get_or_past (bars_left n) p None (omega (arith, past, long))
]

-- it stays in a machine
abbrev pub StaysIn : List ℕ → (ℕ → ℕ → List MsgName) → Machine → Type 0
StaysIn indices channels machine = Stays machine.history machine.marks indices channels

module _ (indices : List ℕ) (channels : ℕ → ℕ → List MsgName) where
  stays_events : (history : List Process) (marks : MarksView) (at : ℕ) (events : List Event)
      → at < length history → Stays history marks indices channels
      → Stays (with_events history at events) marks indices channels
  stays_events history marks at [] within stays = stays
  stays_events history marks at (event ∷ events) within stays =
      stays_events (with_event history at event) marks at events
      (omega (arith, within, length-with_event history at event))
      (record {
        snapshot = snapshot_event history at event indices channels within stays.snapshot;
        whole = stays.whole;
        allowed = stays.allowed;
      })

  stays_back : (machine : Machine) (failed : List Bool) (line : List Choice)
      → IsLatest machine.history machine.marks failed line
      → Stays machine.history machine.marks indices channels
      → Stays (restarted_history machine.history line)
      (restarted_marks machine.marks line) indices channels
  stays_back machine failed line latest stays = record {
    snapshot = snapshot_restarted machine.history line indices channels latest.recoverable.length_is
        kept stays.snapshot;
    whole = λ p c e. left_whole (λ (damaged : ℕ). damaged == suc c) machine.marks.damaged line p
        (stays.whole p c e);
    allowed = λ p. ap (λ (bar : Option ℕ). is_allowed bar (AtCheck (get_or indices p 0)))
        (no_bar (length machine.marks.bars) p);
  }
    where
      not_before : (choice : Choice) (c : ℕ) → IsNoLater (AtCheck c) choice
          → is_kept choice c ≡ true
      not_before (AtCheck k) c later = le-leb c k later
      not_before Now c later = refl

      kept : (p : ℕ) → IsTrue (is_kept (choice_at line p) (get_or indices p 0))
      kept p =
          not_before (choice_at line p) (get_or indices p 0)
          (subst (λ (choice : Choice). IsNoLater choice (choice_at line p))
          (choice_of_checks indices p)
          (reached machine.history machine.marks failed line indices channels latest stays p))

  stays_recovered : (old new : Machine) (failed : List Bool) (reply : Reply) → RecoversWith old
      failed reply new → StaysIn indices channels old → StaysIn indices channels new
  stays_recovered old new failed (Recovered plan states incarnations) is stays = subst
      (StaysIn indices channels) (sym is.new_is)
      (stays_back old failed plan.value.line is.plan_is.latest stays)
  stays_recovered old new failed (Sent message) is stays = absurd is
  stays_recovered old new failed (Took message forced) is stays = absurd is
  stays_recovered old new failed (Marked round forced) is stays = absurd is
  stays_recovered old new failed (Stale message) is stays = absurd is
  stays_recovered old new failed (Repeated message) is stays = absurd is
  stays_recovered old new failed (Checked at check) is stays = absurd is
  stays_recovered old new failed (Begun at check round) is stays = absurd is
  stays_recovered old new failed (Turned at check round) is stays = absurd is
  stays_recovered old new failed (Damaged at check) is stays = absurd is
  stays_recovered old new failed (Barred at check) is stays = absurd is

  stays_done : (old new : Machine) (step : Step) (reply : Reply) → refusal_of old step ≡ None
      → Does old step reply new → IsSparing (check_line indices) step → StaysIn indices channels old
      → StaysIn indices channels new
  stays_done old new (Send from to body) reply none does sparing stays =
      subst (StaysIn indices channels) (sym does.1)
      (stays_events old.history old.marks from (SendEvent to (incarnation_at old.history from)
      body ∷ []) (may_send old from to body none).named.from_within stays)
  stays_done old new (Deliver from to pick state) reply none does sparing stays =
      subst (StaysIn indices channels) (sym does.new_is)
      (stays_events old.history old.marks to (events_taken old.mode old.history from to state
      does.item) (may_deliver_at old from to pick state none) stays)
  stays_done old new (Check at state) reply none does sparing stays =
      subst (StaysIn indices channels) (sym does.1) (stays_events old.history old.marks at
      (CheckEvent state None ∷ []) (may_check old at state none).within stays)
  stays_done old new (Begin at state) reply none does sparing stays =
      subst (StaysIn indices channels) (sym does.1)
      (stays_events old.history old.marks at (CheckEvent state (Some (old.last_round + 1)) ∷ [])
      (may_begin old at state none).within stays)
  stays_done old new (Turn at state) reply none does sparing stays =
      subst (StaysIn indices channels) (sym does.1)
      (stays_events old.history old.marks at (CheckEvent state (Some old.last_round) ∷ [])
      (may_turn_at old at state none).within stays)
  stays_done old new (Damage at check) reply none does sparing stays =
      subst (StaysIn indices channels) (sym does.1) (record {
        snapshot = stays.snapshot;
        whole = λ p c e. marked old.marks at check p (suc c) (stays.whole p c e)
            (λ here same. sparing (ap (choice_at (check_line indices)) (sym here) ∙ choice_of_checks
            indices p ∙ ap (λ (k : ℕ). AtCheck k) (e ∙ sym same)));
        allowed = stays.allowed;
      })
  stays_done old new (Bar at check) reply none does sparing stays =
      subst (StaysIn indices channels) (sym does.1) (record {
        snapshot = stays.snapshot;
        whole = stays.whole;
        allowed = λ p. barred old.marks at check p (get_or indices p 0) (stays.allowed p)
            (λ here. subst (λ (choice : Choice). IsNoLater choice (AtCheck check)) (ap
            (choice_at (check_line indices)) (sym here) ∙ choice_of_checks indices p) sparing);
      })
  stays_done old new (Recover failed) reply none does sparing stays =
      stays_recovered old new failed reply does stays

  pub stays_taken : (old new : Machine) (step : Step) (answer : Answer) → Takes old step answer new
      → IsSparing (check_line indices) step → StaysIn indices channels old
      → StaysIn indices channels new
  stays_taken old new step (answers.Done reply) takes sparing stays =
      stays_done old new step reply takes.0 takes.1 sparing stays
  stays_taken old new step (answers.Refused e) takes sparing stays =
      subst (StaysIn indices channels) (sym takes.1) stays

-- the line that is told of is planned for every process failed
pub record IsLiveLine (machine : Machine) (line : List Choice) : Type 0 where
  pub failed : List Bool
  pub all : IsEverybody (length machine.history) failed
  pub latest : IsLatest machine.history machine.marks failed line

pub recovery_told : (old after : Machine) (failed : List Bool) (answer : Answer)
    (line : List Choice) → IsEverybody (length old.history) failed
    → Takes old (Recover failed) answer after → line_told answer ≡ Some line → IsLiveLine old line
recovery_told old after failed
    (answers.Done (Recovered plan states incarnations)) line all takes is =
    let same : plan.value.line ≡ line = cc is in
    subst (IsLiveLine old) same
    (record { failed = failed; all = all; latest = takes.1.plan_is.latest })
recovery_told old after failed (answers.Done (Sent message)) line all takes is = absurd takes.1
recovery_told old after failed (answers.Done (Took message forced)) line all takes is =
    absurd takes.1
recovery_told old after failed (answers.Done (Marked round forced)) line all takes is =
    absurd takes.1
recovery_told old after failed (answers.Done (Stale message)) line all takes is = absurd takes.1
recovery_told old after failed (answers.Done (Repeated message)) line all takes is = absurd takes.1
recovery_told old after failed (answers.Done (Checked at check)) line all takes is = absurd takes.1
recovery_told old after failed (answers.Done (Begun at check round)) line all takes is =
    absurd takes.1
recovery_told old after failed (answers.Done (Turned at check round)) line all takes is =
    absurd takes.1
recovery_told old after failed (answers.Done (Damaged at check)) line all takes is = absurd takes.1
recovery_told old after failed (answers.Done (Barred at check)) line all takes is = absurd takes.1
recovery_told old after failed (answers.Refused e) line all takes is = cc is
