-- A send.
use Rattle.std.proofs.Common.{◌≡◌, ℕ, zero, suc, ◌+◌, ◌-◌, ◌<◌, ◌≤◌, Bool, true, false, ◌||◌, cond}
use Rattle.std.proofs.Common.{List, [], ◌∷◌, ◌++◌, length, refl, sym, ap, ◌∙◌, subst, arith}
use Rattle.std.specs.Prelude.{nat_le, nat_lt, ◌==◌, None}
use Rattle.std.proofs.lemmas.Bool.{leb-true, leb-false, le-leb, or_parts}
use Rattle.line_names.specs.declared.messages.MsgName.{MsgName}
use Rattle.line_tape.specs.declared.events.Event.{Event}
use Rattle.line_tape.specs.declared.events.Event.TheVariants.{Send as SendEvent, Recv, Check, Mark}
use Rattle.line_tape.specs.declared.items.Item.TheVariants.{Message}
use Rattle.line_tape.specs.Event.{sends}
use Rattle.line_tape.specs.History.{Process, tape_at, incarnation_at, with_event}
use Rattle.line_tape.specs.Rounds.{is_completed_fifo}
use Rattle.line_tape.specs.Spent.{next_name}
use Rattle.line_tape.specs.Views.{MarksView}
use Rattle.line_tape.specs.declared.modes.Mode.TheVariants.{Fifo}
use Rattle.line_tape.specs.declared.steps.Step.TheVariants.{Send}
use Rattle.line_moves.specs.Listed.{is_begun, ListedRound, newly_listed}
use Rattle.line_world.specs.declared.replies.Answer.{Answer}
use Rattle.line_world.specs.declared.replies.Answer.TheVariants.{Done, Refused}
use Rattle.line_world.specs.declared.replies.Reply.TheVariants.{Sent}
use Rattle.line_world.specs.declared.replies.StepError.{StepError}
use Rattle.line_world.specs.declared.replies.StepError.TheVariants.{NoSuchProcess, ToSelf, TapeFull}
use Rattle.line_world.specs.Machine.{Machine, with_copy, with_step}
use Rattle.line_world.specs.Refusals.{first_cause, is_full, is_stranger, IsRefused}
use Rattle.line_world.specs.Runs.{Takes}
use Rattle.line_cuts.specs.Cuts.{Floor, lost_sends, floor_check, is_left, cut_name, cut_events}
use Rattle.line_cuts.specs.Cuts.{cut_history, whole_name}
use Rattle.line_cuts.proofs.ConsistentCuts.{tape_cut}
use Rattle.line_cuts.proofs.FloorStays.{sent_within}
use Rattle.line_cuts.proofs.StepCuts.{process_cut}
use Rattle.line_live.specs.CutMachines.{cut_machine, whole_reply, AnswersAlike, IsBeside}
use Rattle.line_live.proofs.CauseLemmas.{passes, refused_alike, room_cases}
use Rattle.line_live.proofs.EventLives.{made, one_put, stranger_same, fuller, step_same}
use Rattle.line_live.proofs.EventLives.{beside_event, history_event, newly_event, IsEventOn}

-- how many sends are left
pub sends_left : (floor : Floor) (p k skip : ℕ) (es : List Event) → sends
    (cut_events floor p k skip es) ≡ (k + sends es - lost_sends floor p) - (k - lost_sends floor p)
sends_left floor p k skip [] = omega arith
sends_left floor p k skip (SendEvent to inc body ∷ es) =
    let ih = sends_left floor p (suc k) skip es in
    elim (nat_le (lost_sends floor p) k) as
    (λ b. b ≡ nat_le (lost_sends floor p) k
    → sends (cond b (SendEvent to inc body ∷ cut_events floor p (suc k) skip es)
    (cut_events floor p (suc k) skip es))
    ≡ (k + suc (sends es) - lost_sends floor p) - (k - lost_sends floor p)) [
      | true ↦ λ e. let h : lost_sends floor p ≤ k =
          leb-true (lost_sends floor p) k (sym e) in omega (arith, ih)
      | false ↦ λ e. let h : k < lost_sends floor p =
          leb-false (lost_sends floor p) k (sym e) in omega (arith, ih)
    ] refl
sends_left floor p k skip (Recv m ∷ es) =
    elim (is_left floor m) as
    (λ b. sends (cond b (Recv (cut_name floor m) ∷ cut_events floor p k skip es)
    (cut_events floor p k skip es)) ≡ (k + sends es - lost_sends floor p) - (k - lost_sends
    floor p)) [ true ↦ sends_left floor p k skip es | false ↦ sends_left floor p k skip es ]
sends_left floor p k zero (Check state round ∷ es) = sends_left floor p k zero es
sends_left floor p k (suc zero) (Check state round ∷ es) = sends_left floor p k zero es
sends_left floor p k (suc (suc skip)) (Check state round ∷ es) = sends_left floor p k (suc skip) es
sends_left floor p k skip (Mark from round ∷ es) =
    elim (nat_lt floor.round round) as
    (λ b. sends (cond b (Mark from round ∷ cut_events floor p k skip es)
    (cut_events floor p k skip es)) ≡ (k + sends es - lost_sends floor p) - (k - lost_sends
    floor p)) [ true ↦ sends_left floor p k skip es | false ↦ sends_left floor p k skip es ]

module _ (floor : Floor) (history : List Process) (marks : MarksView) (last : ℕ)
    (rounds : List ListedRound) (copies : List (List (List MsgName))) (is : IsBeside floor
    (made history marks last rounds copies)) (from to : ℕ) (body : List ℕ) where
  abbrev old : Machine
  old = made history marks last rounds copies

  abbrev kept : Machine
  kept = cut_machine floor old

  abbrev cut_past : List Process
  cut_past = cut_history floor history

  abbrev event : Event
  event = SendEvent to (incarnation_at history from) body

  inc_same : from < length history → incarnation_at cut_past from ≡ incarnation_at history from
  inc_same h = ap (λ (v : Process). v.incarnation) (process_cut floor history from h)

  -- the name of the next message
  next_same : from < length history
      → whole_name floor (next_name cut_past from) ≡ next_name history from
  next_same h =
      let enough : lost_sends floor from ≤ sends
      (tape_at history from) = sent_within history floor is.is from in
      let number : sends (tape_at cut_past from) + lost_sends floor from
      ≡ sends (tape_at history from) = omega (
        arith,
        ap sends (tape_cut floor history from),
        sends_left floor from 0 (floor_check floor from) (tape_at history from),
      ) in
      ap (λ (n : ℕ). record { from = from; inc = incarnation_at cut_past from; number = n }) number
      ∙ ap (λ (i : ℕ). record { from = from; inc = i; number = sends (tape_at history from) })
      (inc_same h)

  event_on : IsEventOn floor history from event event
  event_on = record {
    next = tt;
    unchecked = λ r low. refl;
    unmarked = λ r p low. refl;
    put = λ p q. one_put floor
        (Message (record
        { from = p; inc = incarnation_at history from; number = sends (tape_at history p) }))
        (p == from) (to == q) (le-leb (lost_sends floor p) (sends (tape_at history p))
        (sent_within history floor is.is p));
    is_cut = ap (λ b. cond b (event ∷ []) []) (le-leb (lost_sends floor from)
        (sends (tape_at history from)) (sent_within history floor is.is from));
  }

  no_check : (r : ℕ) → false ≡ true → r ≡ last
  no_check r e = absurd (cc)

  same_last : (last ≡ last → ⊥) → is_begun history last ≡ true
      → is_completed_fifo history last ≡ true
  same_last other begun = absurd (other refl)

  causes_same : (full : Bool) → first_cause ((
    is_stranger kept from || is_stranger kept to,
    NoSuchProcess,
  ) ∷ (from == to, ToSelf) ∷ (full, TapeFull) ∷ [])
      ≡ first_cause ((is_stranger old from || is_stranger old to, NoSuchProcess)
      ∷ (from == to, ToSelf) ∷ (full, TapeFull) ∷ [])
  causes_same full =
      ap (λ b. first_cause ((b || is_stranger kept to, NoSuchProcess) ∷ (from == to, ToSelf)
      ∷ (full, TapeFull) ∷ [])) (stranger_same floor old from)
      ∙ ap (λ b. first_cause ((is_stranger old from || b, NoSuchProcess) ∷ (from == to, ToSelf)
      ∷ (full, TapeFull) ∷ [])) (stranger_same floor old to)

  pub send_alike : (answer : Answer) (cut : Machine) → Takes kept (Send from to body) answer cut
      → AnswersAlike floor old (Send from to body) answer cut
  send_alike (Done reply) cut (none, (reply_is, new_is)) =
      let causes : List (Bool × StepError) =
      (is_stranger old from || is_stranger old to, NoSuchProcess) ∷ (from == to, ToSelf) ∷ [] in
      let none' : first_cause (causes ++ (is_full kept from 1, TapeFull) ∷ [])
      ≡ None = sym (causes_same (is_full kept from 1)) ∙ none in
      let known = passes (is_stranger old from || is_stranger old to) NoSuchProcess
      ((from == to, ToSelf) ∷ (is_full kept from 1, TapeFull) ∷ []) none' in
      let h : from < length history = leb-false (length history) from
      (or_parts (is_stranger old from) (is_stranger old to) known.0).0 in
      record {
        new = with_copy (with_step old from (event ∷ []) last) from to (next_name history from);
        takes = (
          room_cases causes (is_full kept from 1) (is_full old from 1) none',
          (ap (whole_reply floor) reply_is ∙ ap Sent (next_same h), refl),
        );
        beside = beside_event floor history marks last rounds copies is from event event h event_on
            last (omega arith) no_check same_last
            (rounds ++ newly_listed Fifo history (with_event history from event) last) [];
        same = new_is ∙ step_same floor history marks last rounds [] (with_event history from event)
            (with_event cut_past from (SendEvent to (incarnation_at cut_past from) body))
            (ap (λ i. with_event cut_past from (SendEvent to i body))
            (inc_same h) ∙ history_event floor history marks last rounds copies is from event
            event h event_on last (omega arith) no_check same_last)
            (newly_event floor history marks last rounds copies is from event event h event_on last
            (omega arith) no_check same_last);
      }
  send_alike (Refused e) cut (refused, same) = record {
    new = old;
    takes = (
      refused_alike kept old (Send from to body) e
          ((is_stranger old from || is_stranger old to, NoSuchProcess) ∷ (from == to, ToSelf) ∷ [])
          (is_full kept from 1) (is_full old from 1) (fuller floor old from 1) (λ late. late)
          (subst (IsRefused kept (Send from to body) e)
          (causes_same (is_full kept from 1)) refused),
      refl,
    );
    beside = is;
    same = same;
  }
