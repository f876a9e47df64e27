-- Deliveries that nothing refuses, and those that a full tape does.
use Rattle.std.proofs.Common.{◌≡◌, ℕ, zero, suc, ◌+◌, ◌<◌, ◌≤◌, true, false, cond, List, [], ◌∷◌}
use Rattle.std.proofs.Common.{◌++◌, length, Option, Some, None, refl, sym, ap, ◌∙◌, subst, arith}
use Rattle.std.specs.Prelude.{slice_get}
use Rattle.std.proofs.lemmas.Bool.{le-ltb}
use Rattle.std.proofs.lemmas.List.{append-nil}
use Rattle.line_tape.specs.declared.events.Event.{Event}
use Rattle.line_tape.specs.declared.items.Item.{Item}
use Rattle.line_tape.specs.declared.limits.TheConstants.{MOST_EVENTS}
use Rattle.line_tape.specs.History.{Process, tape_at}
use Rattle.line_tape.specs.Views.{MarksView}
use Rattle.line_world.specs.declared.replies.Answer.TheVariants.{Done, Refused}
use Rattle.line_world.specs.declared.replies.StepError.{StepError}
use Rattle.line_world.specs.declared.replies.StepError.TheVariants.{TapeFull}
use Rattle.line_tape.specs.declared.modes.Mode.{Mode}
use Rattle.line_tape.specs.declared.steps.Step.TheVariants.{Deliver}
use Rattle.line_moves.specs.Fates.{events_taken}
use Rattle.line_world.specs.Steps.{reply_taken}
use Rattle.line_moves.specs.Listed.{ListedRound, newly_listed}
use Rattle.line_tape.specs.declared.modes.Mode.TheVariants.{Fifo, Unordered}
use Rattle.std.specs.List.{All}
use Rattle.std.proofs.lemmas.List.Elements.{All-head, All-tail}
use Rattle.line_moves.specs.Queues.{taken_off}
use Rattle.line_rounds.specs.Tables.{between}
use Rattle.line_moves.specs.Worlds.{names_on, IsItemOf, IsMessage, IsWorld}
use Rattle.line_world.specs.Machine.{Machine, items_on, with_step}
use Rattle.line_moves.specs.Modes.{copies_in}
use Rattle.line_moves.specs.Moves.{with_events}
use Rattle.line_world.specs.Refusals.{first_cause, link_causes, is_full, is_full_for}
use Rattle.line_world.specs.Runs.{Takes}
use Rattle.line_moves.proofs.OpeningLemmas.{newly_none}
use Rattle.line_world.proofs.StepLemmas.{MayDeliver, Takes-refused, link_passed, may_deliver}
use Rattle.line_moves.proofs.WorldLemmas.{items-world}
use Rattle.line_world.proofs.SeenLemmas.{seen}

-- a step as callers see it
pub step_seen : (mode : Mode) (history after : List Process) (marks marks_after : MarksView)
    (last next : ℕ) (rounds new : List ListedRound) (queues queues_after : List (List (List Item)))
    (p : ℕ) (events : List Event)
    → after ≡ with_events history p events → marks_after ≡ marks → copies_in mode queues_after ≡
    copies_in mode queues → new ≡ newly_listed mode history (with_events history p events) next
    → seen mode after marks_after next (rounds ++ new) queues_after
    ≡ with_step (seen mode history marks last rounds queues) p events next
step_seen mode history after marks marks_after last next rounds new queues queues_after p events
    done marked kept listed =
    ap (λ (h : List Process). seen mode h marks_after next (rounds ++ new) queues_after) done
    ∙ ap (λ (v : MarksView). seen mode (with_events history p events) v next
    (rounds ++ new) queues_after) marked
    ∙ ap (λ (copies : List (List (List Item))). let m : Machine = record {
      mode = mode;
      history = with_events history p events;
      marks = marks;
      last_round = next;
      rounds = rounds ++ new;
      copies = names_on copies;
    } in m) kept
    ∙ ap (λ (ls : List ListedRound). seen mode (with_events history p events) marks next
    (rounds ++ ls) queues) listed

-- a step that adds no event
idle_step : (machine : Machine) (p : ℕ) → machine ≡ with_step machine p [] machine.last_round
idle_step machine p =
    ap (λ (ls : List ListedRound). let m : Machine = record machine { rounds = ls } in m)
    (sym (append-nil machine.rounds) ∙ ap (λ (ls : List ListedRound). machine.rounds ++ ls)
    (sym (newly_none machine.mode machine.history machine.history machine.last_round (λ t. t))))

module _ (machine : Machine) (from to pick : ℕ) (state : List ℕ) (item : Item)
    (passed : first_cause (link_causes machine from to pick state) ≡ None)
    (picked : slice_get (items_on machine from to) pick ≡ Some item) where
  -- its events
  abbrev events : List Event
  events = events_taken machine.mode machine.history from to state item

  -- the tape has room for them
  pub Takes-delivered : (new : Machine) → is_full machine to (length events) ≡ false
      → new ≡ with_step machine to events machine.last_round
      → Takes machine (Deliver from to pick state)
      (Done (reply_taken machine.mode machine.history to item)) new
  Takes-delivered new free is =
      let full : is_full_for machine from to state (slice_get (items_on machine from to) pick)
      ≡ false = ap (is_full_for machine from to state) picked ∙ free in (
        link_passed machine from to pick state passed ∙
            (let none : Option StepError = None in ap (λ b. cond b (Some TapeFull) none) full),
        record { item = item; picked = picked; reply_is = refl; new_is = is },
      )

  -- it has not
  pub Takes-full : is_full machine to (length events) ≡ true
      → Takes machine (Deliver from to pick state) (Refused TapeFull) machine
  Takes-full full =
      Takes-refused machine (Deliver from to pick state) TapeFull
      (sym (link_passed machine from to pick state passed ∙
      (let none : Option StepError = None in ap (λ b. cond b (Some TapeFull) none)
      (ap (is_full_for machine from to state) picked ∙ full))))

  -- there are none
  pub Takes-idle : events ≡ [] → length (tape_at machine.history to) ≤ MOST_EVENTS → Takes machine
      (Deliver from to pick state) (Done (reply_taken machine.mode machine.history to item)) machine
  Takes-idle idle few =
      Takes-delivered machine
      (ap (λ (es : List Event). is_full machine to (length es)) idle ∙ le-ltb MOST_EVENTS
      (length (tape_at machine.history to) + 0) (omega (arith, few)))
      (idle_step machine to ∙ ap (λ (es : List Event). with_step machine to es machine.last_round)
      (sym idle))

-- a step that lists nothing
pub quiet_seen : (mode : Mode) (history after : List Process) (marks marks_after : MarksView)
    (last : ℕ) (rounds : List ListedRound) (queues queues_after : List (List (List Item))) (p : ℕ)
    (events : List Event)
    → after ≡ with_events history p events → marks_after ≡ marks → copies_in mode queues_after
    ≡ copies_in mode queues → newly_listed mode history (with_events history p events) last ≡ []
    → seen mode after marks_after last rounds queues_after
    ≡ with_step (seen mode history marks last rounds queues) p events last
quiet_seen mode history after marks marks_after last rounds queues queues_after p events done marked
    kept none =
    ap (λ (ls : List ListedRound). seen mode after marks_after last ls queues_after)
    (sym (append-nil rounds))
    ∙ step_seen mode history after marks marks_after last last rounds [] queues queues_after p
    events done marked kept (sym none)

-- a copy stays, and links in order hold none
pub copies_off : (mode : Mode) (queues : List (List (List Item))) (from to : ℕ)
    → copies_in mode (taken_off mode queues from to) ≡ copies_in mode queues
copies_off Fifo queues from to = refl
copies_off Unordered queues from to = refl

-- what holds of all items holds of one
pub at_place : (P : Item → Type 0) (xs : List Item) (k : ℕ) (x : Item) → All P xs
    → slice_get xs k ≡ Some x → P x
at_place P [] k x all at = absurd (cc)
at_place P (y ∷ xs) zero x all at = let same : y ≡ x = cc in subst P same (All-head P y xs all)
at_place P (y ∷ xs) (suc k) x all at = at_place P xs k x (All-tail P y xs all) at

module _ (mode : Mode) (history : List Process) (marks : MarksView) (last : ℕ)
    (rounds : List ListedRound) (queues : List (List (List Item))) (machine : Machine)
    (view : seen mode history marks last rounds queues ≡ machine)
    (world : IsWorld mode history queues) (from to pick : ℕ) (state : List ℕ) (item : Item)
    (passed : first_cause (link_causes machine from to pick state) ≡ None)
    (picked : slice_get (items_on machine from to) pick ≡ Some item) where
  -- what a delivery may rely on
  pub may : MayDeliver machine from to pick state
  may = may_deliver machine from to pick state passed

  size : length history ≡ length machine.history
  size = ap (λ (m : Machine). length m.history) view

  pub from_within : from < length history
  from_within = omega (arith, may.named.from_within, size)

  pub to_within : to < length history
  to_within = omega (arith, may.named.to_within, size)

  -- the item on its queue
  pub picked_at : slice_get (between queues from to) pick ≡ Some item
  picked_at =
      ap (λ (items : List Item). slice_get items pick)
      (items-world mode history queues world from to from_within to_within may.apart)
      ∙ ap (λ (m : Machine). slice_get (items_on m from to) pick) view ∙ picked

  pub picked_of : IsItemOf from item
  picked_of = at_place (IsItemOf from) (between queues from to) pick item
      (world.queued.messages from to) picked_at

  -- without an order it is a message
  pub picked_message : mode ≡ Unordered → IsMessage item
  picked_message e = told mode world picked_at e
    where
      told : (m : Mode) → IsWorld m history queues
          → slice_get (between queues from to) pick ≡ Some item → m ≡ Unordered → IsMessage item
      told Fifo world at e = absurd (cc)
      told Unordered world at e =
          at_place IsMessage (between queues from to) pick item (world.only from to) at

  pub first_in_order : mode ≡ Fifo → pick ≡ 0
  first_in_order e = may.first (ap (λ (m : Machine). m.mode) (sym view) ∙ e)
