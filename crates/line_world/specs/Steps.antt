-- What an accepted step replies and leaves.
use Rattle.std.specs.Prelude.{◌≡◌, ℕ, ◌+◌, ◌≤◌, Bool, List, [], ◌∷◌, length, map, filter, slice_get}
use Rattle.std.specs.Prelude.{Option, Some, None}
use Rattle.line_names.specs.declared.choices.Choice.{Choice}
use Rattle.line_names.specs.declared.messages.MsgName.{MsgName}
use Rattle.line_plan.specs.declared.plans.Plan.{Plan}
use Rattle.line_tape.specs.declared.events.Event.TheVariants.{Send as SendEvent}
use Rattle.line_tape.specs.declared.events.Event.TheVariants.{Check as CheckEvent}
use Rattle.line_tape.specs.declared.items.Item.{Item}
use Rattle.line_tape.specs.declared.items.Item.TheVariants.{Message, Marker}
use Rattle.line_tape.specs.Chain.{IsChain}
use Rattle.line_tape.specs.History.{Process, incarnation_at}
use Rattle.line_tape.specs.Restart.{restarted_history, restarted_marks, HaveFurther}
use Rattle.line_tape.specs.Spent.{next_name}
use Rattle.line_tape.specs.Survival.{IsLatest}
use Rattle.line_tape.specs.Transit.{in_transit}
use Rattle.line_tape.specs.Views.{with_bar, with_mark}
use Rattle.line_moves.specs.declared.fates.Fate.{Fate}
use Rattle.line_moves.specs.declared.fates.Fate.TheVariants.{Taken as IsTaken, Stale as IsStale}
use Rattle.line_moves.specs.declared.fates.Fate.TheVariants.{Repeated as IsRepeated}
use Rattle.line_tape.specs.declared.modes.Mode.{Mode}
use Rattle.line_tape.specs.declared.steps.Step.{Step}
use Rattle.line_tape.specs.declared.steps.Step.TheVariants.{Send, Deliver, Check, Begin, Turn}
use Rattle.line_tape.specs.declared.steps.Step.TheVariants.{Damage, Bar, Recover}
use Rattle.line_world.specs.declared.replies.Reply.{Reply}
use Rattle.line_world.specs.declared.replies.Reply.TheVariants.{Sent, Took, Marked, Stale, Repeated}
use Rattle.line_world.specs.declared.replies.Reply.TheVariants.{Checked, Begun, Turned, Damaged}
use Rattle.line_world.specs.declared.replies.Reply.TheVariants.{Barred, Recovered}
use Rattle.line_moves.specs.Fates.{events_taken, fate_of, forced_round, is_forced}
use Rattle.line_moves.specs.Listed.{stays}
use Rattle.line_world.specs.Machine.{Machine, items_on, with_copy, with_step}
use Rattle.line_moves.specs.Moves.{next_check}
use Rattle.line_moves.specs.Restarts.{restored_states, restarted_copies}

-- what is told of a message that a delivery picks
abbrev pub reply_of : Fate → Option ℕ → MsgName → Reply
reply_of IsTaken forced message = Took message forced
reply_of IsStale forced message = Stale message
reply_of IsRepeated forced message = Repeated message

-- and of an item
abbrev pub reply_taken : Mode → List Process → ℕ → Item → Reply
reply_taken mode history to (Message message) =
    reply_of (fate_of mode history to message) (forced_round mode history to message) message
reply_taken mode history to (Marker round) = Marked round (is_forced history to round)

-- Deliver has the process take or look at the item that is picked: a copy stays on the link in any
-- case
pub record Delivers (old : Machine) (from to pick : ℕ) (state : List ℕ) (reply : Reply)
    (new : Machine) : Type 0 where
  pub item : Item
  pub picked : slice_get (items_on old from to) pick ≡ Some item
  pub reply_is : reply ≡ reply_taken old.mode old.history to item
  pub new_is : new
      ≡ with_step old to (events_taken old.mode old.history from to state item) old.last_round

-- the plan is of the latest line, by any valid chain
pub record IsPlan (machine : Machine) (failed : List Bool) (plan : Plan) : Type 0 where
  pub latest : IsLatest machine.history machine.marks failed plan.line
  pub chain : IsChain machine.history machine.marks failed plan.certificate.items plan.line
  pub some_sweep : 1 ≤ plan.sweeps
  pub few_sweeps : plan.sweeps ≤ length plan.certificate.items + 1
  pub replays : plan.replays.items ≡ in_transit machine.history plan.line

-- the machine that goes on from a line: no round is open then, and a listed one stays unless one of
-- its checks is cut
abbrev pub restarted_machine : Machine → List Choice → Machine
restarted_machine old line = record old {
  history = restarted_history old.history line;
  marks = restarted_marks old.marks line;
  rounds = filter (stays line) old.rounds;
  copies = restarted_copies old.mode old.history line old.copies;
}

-- Recover plans, and goes on from the plan's line
pub record Recovers (old : Machine) (failed : List Bool) (plan : Plan)
    (states : List (Option (List ℕ))) (incarnations : List ℕ) (new : Machine) : Type 0 where
  pub plan_is : IsPlan old failed plan
  pub further : HaveFurther old.history plan.line
  pub states_are : states ≡ restored_states old.history plan.line
  pub incarnations_are : incarnations ≡ map (λ (process : Process). process.incarnation) new.history
  pub new_is : new ≡ restarted_machine old plan.line

-- a Recover replies Recovered
abbrev pub RecoversWith : Machine → List Bool → Reply → Machine → Type 0
RecoversWith old failed (Recovered plan states incarnations) new =
    Recovers old failed plan.value states.items incarnations.items new
RecoversWith old failed reply new = ⊥

-- the step may be done with this reply, and leaves that state
abbrev pub Does : Machine → Step → Reply → Machine → Type 0
-- a send of the present incarnation, and in `Unordered` a copy
Does old (Send from to body) reply new =
    (reply ≡ Sent (next_name old.history from))
    × (new
    ≡ with_copy
    (with_step old from (SendEvent to (incarnation_at old.history from) body ∷ [])
    old.last_round)
    from to (next_name old.history from))
Does old (Deliver from to pick state) reply new = Delivers old from to pick state reply new
-- a check without a round
Does old (Check at state) reply new =
    (reply ≡ Checked at (next_check old.history at))
    × (new ≡ with_step old at (CheckEvent state None ∷ []) old.last_round)
-- a check of the next round
Does old (Begin at state) reply new =
    (reply ≡ Begun at (next_check old.history at) (old.last_round + 1))
    × (new
    ≡ with_step old at (CheckEvent state (Some (old.last_round + 1)) ∷ []) (old.last_round + 1))
-- a check of the round that is open
Does old (Turn at state) reply new =
    (reply ≡ Turned at (next_check old.history at) old.last_round)
    × (new ≡ with_step old at (CheckEvent state (Some old.last_round) ∷ []) old.last_round)
Does old (Damage at check) reply new =
    (reply ≡ Damaged at check) × (new ≡ record old { marks = with_mark old.marks at check })
Does old (Bar at check) reply new =
    (reply ≡ Barred at check) × (new ≡ record old { marks = with_bar old.marks at check })
Does old (Recover failed) reply new = RecoversWith old failed reply new
