-- The names of the messages that a run sends.
use Rattle.std.proofs.Common.{◌≡◌, ◌≢◌, ℕ, zero, suc, ◌<◌, ◌≤◌, ◌+◌, Bool, true, false, List, []}
use Rattle.std.proofs.Common.{◌∷◌, length, get_or, Option, Some, None, refl, sym, ap, ◌∙◌, subst}
use Rattle.std.proofs.Common.{arith}
use Rattle.std.specs.List.{All, AllPairs, filter_map, cons_option}
use Rattle.std.proofs.lemmas.List.Kept.{AllPairs-cons}
use Rattle.line_names.specs.declared.choices.Choice.{Choice}
use Rattle.line_names.specs.declared.messages.MsgName.{MsgName}
use Rattle.line_tape.specs.declared.events.Event.{Event}
use Rattle.line_tape.specs.declared.events.Event.TheVariants.{Send as SendEvent}
use Rattle.line_tape.specs.declared.events.Event.TheVariants.{Check as CheckEvent}
use Rattle.line_tape.specs.Event.{incarnation_of}
use Rattle.line_tape.specs.History.{Process, incarnation_at, with_event}
use Rattle.line_tape.specs.Restart.{restarted_history}
use Rattle.line_tape.specs.Spent.{next_name, IsSpentName, HasNoLaterSend}
use Rattle.line_laws.proofs.SpentLemmas.{next_unspent, sent_spent, spent_event, spent_restarted}
use Rattle.line_laws.proofs.SpentLemmas.{no_later_event, no_later_restarted}
use Rattle.line_moves.specs.declared.fates.Fate.{Fate}
use Rattle.line_moves.specs.declared.fates.Fate.TheVariants.{Taken, Stale as IsStale}
use Rattle.line_moves.specs.declared.fates.Fate.TheVariants.{Repeated as IsRepeated}
use Rattle.line_world.specs.declared.replies.Answer.{Answer}
use Rattle.line_world.specs.declared.replies.Answer.TheVariants.{Done, Refused}
use Rattle.line_world.specs.declared.replies.Reply.{Reply}
use Rattle.line_world.specs.declared.replies.Reply.TheVariants.{Sent, Took, Marked, Stale, Repeated}
use Rattle.line_world.specs.declared.replies.Reply.TheVariants.{Checked, Begun, Turned, Damaged}
use Rattle.line_world.specs.declared.replies.Reply.TheVariants.{Barred, Recovered}
use Rattle.line_tape.specs.declared.steps.Step.{Step}
use Rattle.line_tape.specs.declared.steps.Step.TheVariants.{Send, Deliver, Check, Begin, Turn}
use Rattle.line_tape.specs.declared.steps.Step.TheVariants.{Damage, Bar, Recover}
use Rattle.line_moves.specs.Fates.{fate_of, forced_round, events_of, events_taken, is_forced}
use Rattle.line_moves.specs.Fates.{marker_events}
use Rattle.line_world.specs.Steps.{reply_of, reply_taken, Does, RecoversWith}
use Rattle.line_world.specs.Machine.{Machine}
use Rattle.line_moves.specs.Moves.{with_events}
use Rattle.line_world.specs.Refusals.{refusal_of}
use Rattle.line_world.specs.Runs.{Takes, Run, reply_name, answer_name}
use Rattle.line_world.proofs.StepLemmas.{may_turn_at, may_send, may_deliver_at, may_begin}
use Rattle.line_world.proofs.StepLemmas.{may_check}
use Rattle.line_moves.proofs.LinkLemmas.{length-with_event}
use Rattle.line_tape.specs.declared.modes.Mode.{Mode}
use Rattle.line_tape.specs.declared.items.Item.{Item}
use Rattle.line_tape.specs.declared.items.Item.TheVariants.{Message, Marker}

-- what a change of the history leaves of names: those that were sent stay so, and no tape is ahead
-- of its process
pub record KeepsNames (old new : List Process) : Type 0 where
  pub sends : HasNoLaterSend new
  pub stays : (message : MsgName) → IsSpentName old message → IsSpentName new message

-- the name that is told is new, and sent from then on
pub record IsNamed (old new : List Process) (name : Option MsgName) : Type 0 where
  pub fresh : (message : MsgName) → name ≡ Some message → IsSpentName old message → ⊥
  pub spent : (message : MsgName) → name ≡ Some message → IsSpentName new message

unnamed : (old new : List Process) (name : Option MsgName) → name ≡ None → IsNamed old new name
unnamed old new name none = record
    { fresh = λ message e. absurd (cc (e, none)); spent = λ message e. absurd (cc (e, none)) }

KeepsNames-same : (history : List Process) → HasNoLaterSend history → KeepsNames history history
KeepsNames-same history sends = record { sends = sends; stays = λ message is. is }

KeepsNames-event : (history : List Process) (at : ℕ) (event : Event) → HasNoLaterSend history
    → at < length history → ((inc : ℕ) → incarnation_of event ≡ Some inc
    → inc ≤ incarnation_at history at) → KeepsNames history (with_event history at event)
KeepsNames-event history at event sends within own = record {
  sends = no_later_event history at event sends within own;
  stays = λ message is. spent_event history at event message within is;
}

-- events that send nothing
abbrev AreQuiet : List Event → Type 0
AreQuiet [] = Unit {0}
AreQuiet (event ∷ events) = (incarnation_of event ≡ None) × AreQuiet events

KeepsNames-quiet : (history : List Process) (at : ℕ) (events : List Event) → HasNoLaterSend history
    → at < length history → AreQuiet events → KeepsNames history (with_events history at events)
KeepsNames-quiet history at [] sends within quiet = KeepsNames-same history sends
KeepsNames-quiet history at (event ∷ events) sends within (silent, quiet) =
    let one = KeepsNames-event history at event sends within (λ inc e. absurd (cc (silent, e))) in
    let rest = KeepsNames-quiet (with_event history at event) at events one.sends
    (omega (arith, within, length-with_event history at event)) quiet in
    record { sends = rest.sends; stays = λ message is. rest.stays message (one.stays message is) }

quiet_of : (fate : Fate) (forced : Option ℕ) (state : List ℕ) (message : MsgName)
    → AreQuiet (events_of fate forced state message)
quiet_of Taken None state message = (refl, tt)
quiet_of Taken (Some round) state message = (refl, (refl, tt))
quiet_of IsStale forced state message = tt
quiet_of IsRepeated forced state message = tt

quiet_marker : (forced : Bool) (from : ℕ) (state : List ℕ) (round : ℕ)
    → AreQuiet (marker_events forced from state round)
quiet_marker true from state round = (refl, (refl, tt))
quiet_marker false from state round = (refl, tt)

quiet_taken : (mode : Mode) (history : List Process) (from to : ℕ) (state : List ℕ) (item : Item)
    → AreQuiet (events_taken mode history from to state item)
quiet_taken mode history from to state (Message message) =
    quiet_of (fate_of mode history to message) (forced_round mode history to message) state message
quiet_taken mode history from to state (Marker round) =
    quiet_marker (is_forced history to round) from state round

told_of : (fate : Fate) (forced : Option ℕ) (message : MsgName)
    → reply_name (reply_of fate forced message) ≡ None
told_of Taken forced message = refl
told_of IsStale forced message = refl
told_of IsRepeated forced message = refl

told_taken : (mode : Mode) (history : List Process) (to : ℕ) (item : Item)
    → reply_name (reply_taken mode history to item) ≡ None
told_taken mode history to (Message message) =
    told_of (fate_of mode history to message) (forced_round mode history to message) message
told_taken mode history to (Marker round) = refl

-- each step that is done
names-done : (old new : Machine) (step : Step) (reply : Reply) → HasNoLaterSend old.history
    → refusal_of old step ≡ None → Does old step reply new
    → KeepsNames old.history new.history × IsNamed old.history new.history (reply_name reply)
names-done old new (Send from to body) reply sends none does =
    let within : from < length old.history = (may_send old from to body none).named.from_within in
    let after : new.history ≡ with_event old.history from (SendEvent to
    (incarnation_at old.history from) body) = ap (λ (m : Machine). m.history) does.1 in
    let name : reply_name reply ≡ Some (next_name old.history from) = ap reply_name does.0 in (
      subst (KeepsNames old.history) (sym after)
          (KeepsNames-event old.history from
          (SendEvent to (incarnation_at old.history from) body) sends within
          (λ inc e. let same : incarnation_at old.history from ≡ inc = cc in omega (arith, same))),
      record {
        fresh = λ message e is. let same : message ≡ next_name old.history from = cc
            (e, name) in next_unspent old.history from (subst (IsSpentName old.history) same is);
        spent = λ message e.
            let same : next_name old.history from ≡ message = cc (e, name) in
            subst (λ (h : List Process). IsSpentName h message) (sym after)
            (subst (IsSpentName (with_event old.history from (SendEvent to (incarnation_at
            old.history from) body))) same (sent_spent old.history from to body within));
      },
    )
names-done old new (Deliver from to pick state) reply sends none does =
    let within : to < length old.history = may_deliver_at old from to pick state none in
    let events : List Event = events_taken old.mode old.history from to state does.item in
    let after : new.history
    ≡ with_events old.history to events = ap (λ (m : Machine). m.history) does.new_is in (
      subst (KeepsNames old.history) (sym after) (KeepsNames-quiet old.history to events sends
          within (quiet_taken old.mode old.history from to state does.item)),
      unnamed old.history new.history (reply_name reply)
          (ap reply_name does.reply_is ∙ told_taken old.mode old.history to does.item),
    )
names-done old new (Check at state) reply sends none does =
    let after : new.history ≡ with_event old.history at (CheckEvent state None) = ap
    (λ (m : Machine). m.history) does.1 in (
      subst (KeepsNames old.history) (sym after) (KeepsNames-event old.history at (CheckEvent state
          None) sends (may_check old at state none).within (λ inc e. absurd (cc))),
      unnamed old.history new.history (reply_name reply) (ap reply_name does.0),
    )
names-done old new (Begin at state) reply sends none does =
    let after : new.history ≡ with_event old.history at
    (CheckEvent state (Some (old.last_round + 1))) = ap (λ (m : Machine). m.history) does.1 in (
      subst (KeepsNames old.history) (sym after)
          (KeepsNames-event old.history at (CheckEvent state (Some (old.last_round + 1))) sends
          (may_begin old at state none).within (λ inc e. absurd (cc))),
      unnamed old.history new.history (reply_name reply) (ap reply_name does.0),
    )
names-done old new (Turn at state) reply sends none does =
    let after : new.history ≡ with_event old.history at
    (CheckEvent state (Some old.last_round)) = ap (λ (m : Machine). m.history) does.1 in (
      subst (KeepsNames old.history) (sym after)
          (KeepsNames-event old.history at (CheckEvent state (Some old.last_round)) sends
          (may_turn_at old at state none).within (λ inc e. absurd (cc))),
      unnamed old.history new.history (reply_name reply) (ap reply_name does.0),
    )
names-done old new (Damage at check) reply sends none does =
    let after : new.history ≡ old.history = ap (λ (m : Machine). m.history) does.1 in (
      subst (KeepsNames old.history) (sym after) (KeepsNames-same old.history sends),
      unnamed
          old.history new.history (reply_name reply) (ap reply_name does.0),
    )
names-done old new (Bar at check) reply sends none does =
    let after : new.history ≡ old.history = ap (λ (m : Machine). m.history) does.1 in (
      subst (KeepsNames old.history) (sym after) (KeepsNames-same old.history sends),
      unnamed
          old.history new.history (reply_name reply) (ap reply_name does.0),
    )
names-done old new (Recover failed) reply sends none does = recovered reply does where
  recovered : (r : Reply) → RecoversWith old failed r new
      → KeepsNames old.history new.history × IsNamed old.history new.history (reply_name r)
  recovered (Recovered plan states incarnations) is =
      let line : List Choice = plan.value.line in
      let size : length line ≡ length old.history = is.plan_is.latest.recoverable.length_is in
      let after : new.history
      ≡ restarted_history old.history line = ap (λ (m : Machine). m.history) is.new_is in (
        subst (KeepsNames old.history) (sym after) (record {
          sends = no_later_restarted old.history line sends size;
          stays = λ message spent. spent_restarted old.history line message sends size spent;
        }),
        unnamed old.history new.history None refl,
      )
  recovered (Sent message) is = absurd is
  recovered (Took message forced) is = absurd is
  recovered (Marked round forced) is = absurd is
  recovered (Stale message) is = absurd is
  recovered (Repeated message) is = absurd is
  recovered (Checked at check) is = absurd is
  recovered (Begun at check round) is = absurd is
  recovered (Turned at check round) is = absurd is
  recovered (Damaged at check) is = absurd is
  recovered (Barred at check) is = absurd is

names-taken : (old new : Machine) (step : Step) (answer : Answer) → HasNoLaterSend old.history
    → Takes old step answer new
    → KeepsNames old.history new.history × IsNamed old.history new.history (answer_name answer)
names-taken old new step (Done reply) sends takes =
    names-done old new step reply sends takes.0 takes.1
names-taken old new step (Refused e) sends takes = (
  subst (λ (m : Machine). KeepsNames old.history m.history) (sym takes.1)
      (KeepsNames-same old.history sends),
  unnamed old.history new.history None refl,
)

-- the names that a run tells are apart, and none of them was sent before
pub record AreNewNames (history : List Process) (names : List MsgName) : Type 0 where
  pub apart : AllPairs (λ (a b : MsgName). a ≢ b) names
  pub fresh : All (λ message. IsSpentName history message → ⊥) names

AreNewNames-cons : (old new : List Process) (name : Option MsgName) (names : List MsgName)
    → KeepsNames old new → IsNamed old new name → AreNewNames new names
    → AreNewNames old (cons_option name names)
AreNewNames-cons old new None names keeps named is = record {
  apart = is.apart;
  fresh = λ k d within
      spent. is.fresh k d within (keeps.stays (get_or names k d) spent);
}
AreNewNames-cons old new (Some message) names keeps named is = record {
  apart = AllPairs-cons (λ (a b : MsgName). a ≢ b) message names (λ k d within same. is.fresh k d
      within (subst (IsSpentName new) same (named.spent message refl))) is.apart;
  fresh = first;
}
  where
    first : All (λ m. IsSpentName old m → ⊥) (message ∷ names)
    first zero d within spent = named.fresh message refl spent
    first (suc k) d within spent =
        is.fresh k d (omega (arith, within)) (keeps.stays (get_or names k d) spent)

pub Run-names : (old new : Machine) (steps : List Step) (answers : List Answer)
    → HasNoLaterSend old.history → Run old steps answers new
    → AreNewNames old.history (filter_map answer_name answers)
Run-names old new [] [] sends run = record {
  apart = λ i j d near far. absurd
      (omega (arith, far));
  fresh = λ k d within. absurd (omega (arith, within));
}
Run-names old new [] (answer ∷ answers) sends run = absurd run
Run-names old new (step ∷ steps) [] sends run = absurd run
Run-names old new (step ∷ steps) (answer ∷ answers) sends (mid, takes, run) =
    let kept = names-taken old mid step answer sends takes in
    AreNewNames-cons old.history mid.history (answer_name answer) (filter_map answer_name answers)
    kept.0 kept.1 (Run-names mid new steps answers kept.0.sends run)
