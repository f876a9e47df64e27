-- The numbers of what a machine replies, over links that keep their order, are ones that a tape may
-- have.
use Rattle.std.proofs.Common.{◌≡◌, ℕ, zero, suc, ◌+◌, ◌-◌, ◌<◌, ◌≤◌, Bool, true, false, not, ◌&&◌}
use Rattle.std.proofs.Common.{cond, List, [], ◌∷◌, length, take, drop, set, Option, Some, None, inl}
use Rattle.std.proofs.Common.{inr, refl, sym, ap, ◌∙◌, subst, arith}
use Rattle.std.specs.Prelude.{◌==◌, nat_le, nat_lt}
use Rattle.std.specs.List.{All, Contains, slice_get}
use Rattle.std.proofs.lemmas.Bool.{cases_eq, cases_lt, leb-true, ltb-false}
use Rattle.std.proofs.lemmas.List.{get_or-set_same, get_or-set_other, get_or_past, length-set}
use Rattle.std.proofs.lemmas.List.{length-take-le, take-append-drop, take_all}
use Rattle.std.proofs.lemmas.List.Elements.{All-cons, All-contains_itself, All-drop, All-nil}
use Rattle.std.proofs.lemmas.List.Elements.{All-weaker, Contains-append_left}
use Rattle.std.proofs.lemmas.List.FromFn.{length-map-range_with_len, get_or-map-range_with_len}
use Rattle.std.proofs.lemmas.Option.{slice_get_within}
use Rattle.line_names.specs.declared.certificates.Passed.{Passed}
use Rattle.line_names.specs.declared.choices.Choice.{Choice}
use Rattle.line_names.specs.declared.choices.Choice.TheVariants.{Check as AtCheck, Now}
use Rattle.line_names.specs.declared.messages.MsgName.{MsgName}
use Rattle.line_names.specs.Lines.{choice_at}
use Rattle.line_tape.specs.declared.events.Event.{Event}
use Rattle.line_tape.specs.declared.events.Event.TheVariants.{Send as SendEvent, Recv}
use Rattle.line_tape.specs.declared.events.Event.TheVariants.{Check as CheckEvent, Mark}
use Rattle.line_tape.specs.declared.items.Item.{Item}
use Rattle.line_tape.specs.declared.items.Item.TheVariants.{Message, Marker}
use Rattle.line_tape.specs.declared.limits.TheConstants.{MOST_EVENTS}
use Rattle.line_tape.specs.Chain.{first_ceilings, latest_check, latest_choice, lowered_ceilings}
use Rattle.line_tape.specs.Chain.{next_lower, LeadsTo}
use Rattle.line_tape.specs.Event.{checks, incarnations_sent, sends}
use Rattle.line_tape.specs.Fit.{items_sent, link, received_from, sent_between, IsFitFifo}
use Rattle.line_tape.specs.Front.{place}
use Rattle.line_tape.specs.History.{Process, fresh, tape_at, IsHistory}
use Rattle.line_tape.specs.Line.{events_before}
use Rattle.line_tape.specs.Survival.{is_allowed, is_damaged, survives}
use Rattle.line_tape.specs.Transit.{in_transit}
use Rattle.line_tape.specs.Views.{MarksView, bar_at}
use Rattle.line_tape.proofs.RowLemmas.{checks_le}
use Rattle.line_laws.proofs.OrderLemmas.{ordered_fit}
use Rattle.line_plan.specs.declared.plans.Plan.{Plan}
use Rattle.line_tape.specs.declared.modes.Mode.{Mode}
use Rattle.line_tape.specs.declared.modes.Mode.TheVariants.{Fifo}
use Rattle.line_tape.specs.declared.steps.Step.{Step}
use Rattle.line_tape.specs.declared.steps.Step.TheVariants.{Send, Deliver, Check, Begin, Turn}
use Rattle.line_tape.specs.declared.steps.Step.TheVariants.{Damage, Bar, Recover}
use Rattle.line_moves.specs.declared.fates.Fate.{Fate}
use Rattle.line_moves.specs.declared.fates.Fate.TheVariants.{Taken, Stale as IsStale}
use Rattle.line_moves.specs.declared.fates.Fate.TheVariants.{Repeated as IsRepeated}
use Rattle.line_moves.specs.Fates.{fate_of, forced_round}
use Rattle.line_moves.specs.Modes.{items_in, IsFitIn}
use Rattle.line_world.specs.declared.replies.Reply.{Reply}
use Rattle.line_world.specs.declared.replies.Reply.TheVariants.{Sent, Took, Marked, Stale, Repeated}
use Rattle.line_world.specs.declared.replies.Reply.TheVariants.{Checked, Begun, Turned, Damaged}
use Rattle.line_world.specs.declared.replies.Reply.TheVariants.{Barred, Recovered}
use Rattle.line_world.specs.declared.replies.StepError.{StepError}
use Rattle.line_world.specs.declared.replies.StepError.TheVariants.{NoSuchProcess, InitialDamage}
use Rattle.line_world.specs.declared.replies.StepError.TheVariants.{NoSuchCheck}
use Rattle.line_world.specs.Machine.{Machine, items_on}
use Rattle.line_world.specs.Refusals.{is_stranger, refusal_of}
use Rattle.line_world.specs.Steps.{reply_of, reply_taken, Does, IsPlan, RecoversWith}
use Rattle.line_world.proofs.DeliverLemmas.{at_place}
use Rattle.line_world.proofs.StepLemmas.{may_begin, may_check, may_turn_at}
use Rattle.line_live.specs.Numbers.{IsFewChoice, IsFewEntry, IsFewName, IsFewPlan, IsFewReply}
use Rattle.line_cuts.specs.Cuts.{Floor}
use Rattle.line_cuts.specs.Floors.{HasNumbers}
use Rattle.line_cuts.specs.Numbers.{IsNumbered, IsNumberedChoice, IsNumberedEntry}
use Rattle.line_cuts.proofs.FloorLemmas.{transit_before}

-- numbers that are few can be kept in the whole
module _ (floor : Floor) (numbers : HasNumbers floor) where
  pub choice_numbered : (p : ℕ) (choice : Choice) → IsFewChoice choice
      → IsNumberedChoice floor p choice
  choice_numbered p (AtCheck c) few = omega (arith, few, (numbers p).0)
  choice_numbered p Now few = tt

  pub name_numbered : (message : MsgName) → IsFewName message → IsNumbered floor message
  name_numbered message few = omega (arith, few, (numbers message.from).1)

  pub entry_numbered : (entry : Passed) → IsFewEntry entry → IsNumberedEntry floor entry
  entry_numbered entry few = (
    choice_numbered entry.at entry.choice few.choice,
    name_numbered entry.message few.message,
  )

-- a tape has no more sends than events
sends_le : (es : List Event) → sends es ≤ length es
sends_le [] = omega arith
sends_le (SendEvent to inc body ∷ es) = let ih = sends_le es in omega (arith, ih)
sends_le (Recv m ∷ es) = let ih = sends_le es in omega (arith, ih)
sends_le (CheckEvent state round ∷ es) = let ih = sends_le es in omega (arith, ih)
sends_le (Mark from round ∷ es) = let ih = sends_le es in omega (arith, ih)

-- the item is a marker, or a message whose number is few
abbrev IsFewItem : Item → Type 0
IsFewItem (Message m) = IsFewName m
IsFewItem (Marker round) = Unit {0}

items_few : (p q k : ℕ) (es : List Event) → k + length es ≤ MOST_EVENTS
    → All IsFewItem (items_sent p q k es)
items_few p q k [] few = All-nil IsFewItem
items_few p q k (SendEvent to inc body ∷ es) few =
    let ih = items_few p q (suc k) es (omega (arith, few)) in
    elim (to == q) as (λ b. All IsFewItem (cond b (Message (record {
      from = p;
      inc = inc;
      number =
          k;
    }) ∷ items_sent p q (suc k) es) (items_sent p q (suc k) es))) [
      | true ↦ All-cons IsFewItem (Message (record { from = p; inc = inc; number = k }))
          (items_sent p q (suc k) es) (omega (arith, few)) ih
      | false ↦ ih
    ]
items_few p q k (Recv m ∷ es) few = items_few p q k es (omega (arith, few))
items_few p q k (CheckEvent state None ∷ es) few = items_few p q k es (omega (arith, few))
items_few p q k (CheckEvent state (Some r) ∷ es) few =
    All-cons IsFewItem (Marker r) (items_sent p q k es) tt (items_few p q k es (omega (arith, few)))
items_few p q k (Mark from r ∷ es) few = items_few p q k es (omega (arith, few))

-- the latest check up to one
latest_few : (f : Choice → Bool) (n : ℕ) → n ≤ MOST_EVENTS → IsFewChoice (latest_check f n)
latest_few f zero few = omega arith
latest_few f (suc n) few =
    elim (f (AtCheck (suc n))) as (λ b. IsFewChoice (cond b (AtCheck (suc n)) (latest_check f n))) [
      | true ↦ few
      | false ↦ latest_few f n (omega (arith, few))
    ]

-- a front of a tape
pub in_front : (tape : List Event) (n : ℕ) (e : Event) → Contains (take n tape) e → Contains tape e
in_front tape n e among = subst (λ (es : List Event). Contains es e) (take-append-drop n tape)
    (Contains-append_left (take n tape) (drop n tape) e among)

taken_le : (tape : List Event) (n : ℕ) → length (take n tape) ≤ length tape
taken_le tape n = elim (cases_lt n (length tape)) [
  | inl within ↦ omega (arith, length-take-le n tape (omega (arith, within)))
  | inr past ↦ omega (arith, ap (λ (es : List Event). length es) (take_all n tape past))
]

first_of : (a b : Bool) → (a && b) ≡ true → a ≡ true
first_of true b e = refl
first_of false b e = absurd (cc)

passed : (b : Bool) (e : StepError) (rest : Option StepError) → cond b (Some e) rest ≡ None
    → (b ≡ false) × (rest ≡ None)
passed true e rest none = absurd (cc)
passed false e rest none = (refl, none)

module _ (history : List Process) (is : IsHistory history) where
  -- tapes keep within their limit
  pub tape_few : (p : ℕ) → length (tape_at history p) ≤ MOST_EVENTS
  tape_few p = elim (cases_lt p (length history)) [
    | inl within ↦ (is.processes p fresh within).tape.few
    | inr past ↦ let none : length (tape_at history p) ≡ 0 = ap (λ (process : Process). length
        process.tape) (get_or_past history p fresh past) in omega (arith, none)
  ]

  pub checks_few : (p : ℕ) → checks (tape_at history p) ≤ MOST_EVENTS
  checks_few p = omega (arith, tape_few p, checks_le (tape_at history p))

  pub sends_few : (p : ℕ) → sends (tape_at history p) ≤ MOST_EVENTS
  sends_few p = omega (arith, tape_few p, sends_le (tape_at history p))

  link_few : (p q : ℕ) → All IsFewItem (link history p q)
  link_few p q = All-drop IsFewItem (length (received_from history q p)) (sent_between history p q)
      (items_few p q 0 (tape_at history p) (omega (arith, tape_few p)))

  -- a choice that survives
  pub surviving_few : (marks : MarksView) (failed : List Bool) (p : ℕ) (choice : Choice)
      → survives history marks failed p choice ≡ true → IsFewChoice choice
  surviving_few marks failed p (AtCheck zero) e = omega arith
  surviving_few marks failed p (AtCheck (suc c)) e =
      let low : suc c ≤ checks (tape_at history p) = leb-true (suc c) (checks (tape_at history p))
      (first_of (nat_le (suc c) (checks (tape_at history p))) (not (is_damaged marks p (suc c)))
      (first_of (nat_le (suc c) (checks (tape_at history p)) && not
      (is_damaged marks p (suc c))) (is_allowed (bar_at marks p) (AtCheck (suc c))) e)) in
      omega (arith, low, checks_few p)
  surviving_few marks failed p Now e = tt

  -- the ceilings of a chain, one after another
  module _ (marks : MarksView) (failed : List Bool) where
    next_few : (p : ℕ) (choice : Choice) → IsFewChoice choice
        → IsFewChoice (next_lower history marks failed p choice)
    next_few p (AtCheck c) few =
        latest_few (survives history marks failed p) (c - 1) (omega (arith, few))
    next_few p Now few =
        latest_few (survives history marks failed p) (checks (tape_at history p)) (checks_few p)

    choice_few : (p : ℕ) → IsFewChoice (latest_choice history marks failed p)
    choice_few p = elim (survives history marks failed p Now) as (λ b. IsFewChoice (cond b Now
        (latest_check (survives history marks failed p) (checks (tape_at history p))))) [
          | true ↦ tt
          | false ↦ latest_few (survives history marks failed p) (checks (tape_at history p))
              (checks_few p)
        ]

    abbrev pub HasFewChoices : List Choice → Type 0
    HasFewChoices line = (p : ℕ) → IsFewChoice (choice_at line p)

    none_few : (line : List Choice) (p : ℕ) → length line ≤ p → IsFewChoice (choice_at line p)
    none_few line p past =
        subst IsFewChoice (sym (get_or_past line p (AtCheck 0) past)) (omega arith)

    pub first_few : HasFewChoices (first_ceilings history marks failed)
    first_few p =
        let size : length (first_ceilings history marks failed) ≡ length history =
        length-map-range_with_len (latest_choice history marks failed) 0 (length history) in
        elim (cases_lt p (length history)) [
          | inl within ↦ subst IsFewChoice (sym (get_or-map-range_with_len (latest_choice history
              marks failed) 0 (length history) p p (AtCheck 0) within (omega arith))) (choice_few p)
          | inr past ↦ none_few (first_ceilings history marks failed) p (omega (arith, past, size))
        ]

    pub lowered_few : (ceilings : List Choice) (at : ℕ) → HasFewChoices ceilings
        → HasFewChoices (lowered_ceilings history marks failed ceilings at)
    lowered_few ceilings at few p =
        let lower : Choice = next_lower history marks failed at (choice_at ceilings at) in
        elim (cases_eq p at) [
          | inl here ↦ elim (cases_lt at (length ceilings)) [
            | inl within ↦ subst IsFewChoice
                (sym (ap (λ (q : ℕ). choice_at (set ceilings at lower) q) here ∙ get_or-set_same
                ceilings at lower (AtCheck 0) within))
                (next_few at (choice_at ceilings at) (few at))
            | inr past ↦ none_few (set ceilings at lower) p
                (omega (arith, past, here, length-set ceilings at lower))
          ]
          | inr apart ↦ subst IsFewChoice
              (sym (get_or-set_other ceilings at p lower (AtCheck 0) apart)) (few p)
        ]

    -- what a process received was sent to it
    name_few : IsFitFifo history → (q : ℕ) (m : MsgName) → Contains (tape_at history q) (Recv m)
        → IsFewName m
    name_few fit q m among =
        let within : m.number < sends (tape_at history m.from) = slice_get_within
        (incarnations_sent (tape_at history m.from)) m.number m.inc
        ((ordered_fit history fit).held q m among).held in
        let few : sends (tape_at history m.from) ≤ MOST_EVENTS = sends_few m.from in
        omega (arith, within, few)

    entries_few : IsFitFifo history
        → (ceilings : List Choice) (entries : List Passed) (line : List Choice) → HasFewChoices
        ceilings → LeadsTo history marks failed ceilings entries line → All IsFewEntry entries
    entries_few fit ceilings [] line few leads = All-nil IsFewEntry
    entries_few fit ceilings (entry ∷ entries) line few (right, rest) =
        All-cons IsFewEntry entry entries
        (record {
          choice = subst IsFewChoice (sym right.top) (few entry.at);
          message = name_few fit entry.at entry.message
              (in_front (tape_at history entry.at) (place (tape_at history entry.at)
              (choice_at ceilings entry.at)) (Recv entry.message) right.orphan.received);
        })
        (entries_few fit (lowered_ceilings history marks failed ceilings entry.at) entries line
        (lowered_few ceilings entry.at few) rest)

  -- what is in transit was sent
  pub replay_few : (line : List Choice) (m : MsgName) → Contains (in_transit history line) m
      → IsFewName m
  replay_few line m among =
      let tape : List Event = tape_at history m.from in
      let within : m.number < sends
      (events_before history line m.from) = transit_before history line 0 m among in
      let part : sends (events_before history line m.from) ≤ length
      (events_before history line m.from) = sends_le (events_before history line m.from) in
      let short : length (events_before history line m.from) ≤ length tape = taken_le tape
      (place tape (choice_at line m.from)) in
      omega (arith, within, part, short, tape_few m.from)

-- the numbers of a plan
pub plan_few : (machine : Machine) (failed : List Bool) (plan : Plan) → IsHistory machine.history
    → IsFitFifo machine.history → IsPlan machine failed plan → IsFewPlan plan
plan_few machine failed plan limits fit is = record {
  line = λ p. surviving_few machine.history limits machine.marks failed p (choice_at plan.line p)
      (is.latest.recoverable.surviving p);
  certificate = entries_few machine.history limits machine.marks failed fit
      (first_ceilings machine.history machine.marks failed) plan.certificate.items plan.line
      (first_few machine.history limits machine.marks failed) is.chain.leads;
  replays = subst (λ (names : List MsgName). All IsFewName names) (sym is.replays)
      (All-weaker (Contains (in_transit machine.history plan.line)) IsFewName
      (replay_few machine.history limits plan.line) (in_transit machine.history plan.line)
      (All-contains_itself (in_transit machine.history plan.line)));
}

-- what is told of an item
taken_few : (fate : Fate) (forced : Option ℕ) (m : MsgName) → IsFewName m
    → IsFewReply (reply_of fate forced m)
taken_few Taken forced m few = few
taken_few IsStale forced m few = few
taken_few IsRepeated forced m few = few

item_few : (mode : Mode) (history : List Process) (to : ℕ) (item : Item) → IsFewItem item
    → IsFewReply (reply_taken mode history to item)
item_few mode history to (Message m) few =
    taken_few (fate_of mode history to m) (forced_round mode history to m) m few
item_few mode history to (Marker round) few = tt

-- the numbers of a reply
module _ (old : Machine) (limits : IsHistory old.history) (fifo : old.mode ≡ Fifo)
    (fit : IsFitIn old.mode old.history) where
  fit_there : IsFitFifo old.history
  fit_there = subst (λ (mode : Mode). IsFitIn mode old.history) fifo fit

  picked_few : (from to pick : ℕ) (item : Item) → slice_get (items_on old from to) pick ≡ Some item
      → IsFewItem item
  picked_few from to pick item at =
      at_place IsFewItem (link old.history from to) pick item (link_few old.history limits from to)
      (subst (λ (mode : Mode). slice_get (items_in mode old.history old.copies from to) pick
      ≡ Some item) fifo at)

  damage_few : (at check : ℕ) → refusal_of old (Damage at check) ≡ None → check ≤ MOST_EVENTS
  damage_few at check none =
      let named = passed (is_stranger old at) NoSuchProcess _ none in
      let initial = passed (check == 0) InitialDamage _ named.1 in
      let there = passed (nat_lt (checks (tape_at old.history at)) check) NoSuchCheck _ initial.1 in
      let low : check ≤ checks (tape_at old.history at) = ltb-false
      (checks (tape_at old.history at)) check there.0 in
      omega (arith, low, checks_few old.history limits at)

  bar_few : (at check : ℕ) → refusal_of old (Bar at check) ≡ None → check ≤ MOST_EVENTS
  bar_few at check none =
      let named = passed (is_stranger old at) NoSuchProcess _ none in
      let there = passed (nat_lt (checks (tape_at old.history at)) check) NoSuchCheck _ named.1 in
      let low : check ≤ checks (tape_at old.history at) = ltb-false
      (checks (tape_at old.history at)) check there.0 in
      omega (arith, low, checks_few old.history limits at)

  recovered_few : (failed : List Bool) (reply : Reply) (new : Machine)
      → RecoversWith old failed reply new → IsFewReply reply
  recovered_few failed (Recovered plan states incarnations) new is =
      plan_few old failed plan.value limits fit_there is.plan_is
  recovered_few failed (Sent m) new is = absurd is
  recovered_few failed (Took m forced) new is = absurd is
  recovered_few failed (Marked r forced) new is = absurd is
  recovered_few failed (Stale m) new is = absurd is
  recovered_few failed (Repeated m) new is = absurd is
  recovered_few failed (Checked at c) new is = absurd is
  recovered_few failed (Begun at c r) new is = absurd is
  recovered_few failed (Turned at c r) new is = absurd is
  recovered_few failed (Damaged at c) new is = absurd is
  recovered_few failed (Barred at c) new is = absurd is

  pub reply_few : (step : Step) (reply : Reply) (new : Machine) → refusal_of old step ≡ None
      → Does old step reply new → IsFewReply reply
  reply_few (Send from to body) reply new none does =
      subst IsFewReply (sym does.0) (sends_few old.history limits from)
  reply_few (Deliver from to pick state) reply new none does =
      subst IsFewReply (sym does.reply_is) (item_few old.mode old.history to does.item
      (picked_few from to pick does.item does.picked))
  reply_few (Check at state) reply new none does =
      let room : length (tape_at old.history at) < MOST_EVENTS =
      (may_check old at state none).few in
      subst IsFewReply (sym does.0) (omega (arith, room, checks_le (tape_at old.history at)))
  reply_few (Begin at state) reply new none does =
      let room : length (tape_at old.history at) < MOST_EVENTS =
      (may_begin old at state none).few in
      subst IsFewReply (sym does.0) (omega (arith, room, checks_le (tape_at old.history at)))
  reply_few (Turn at state) reply new none does =
      let room : length (tape_at old.history at) < MOST_EVENTS =
      (may_turn_at old at state none).few in
      subst IsFewReply (sym does.0) (omega (arith, room, checks_le (tape_at old.history at)))
  reply_few (Damage at check) reply new none does =
      subst IsFewReply (sym does.0) (damage_few at check none)
  reply_few (Bar at check) reply new none does =
      subst IsFewReply (sym does.0) (bar_few at check none)
  reply_few (Recover failed) reply new none does = recovered_few failed reply new does
