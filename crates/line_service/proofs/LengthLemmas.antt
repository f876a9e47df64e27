-- A machine keeps its number of processes.
use Rattle.std.proofs.Common.{◌≡◌, ℕ, ◌+◌, List, [], ◌∷◌, length, refl, ap, ◌∙◌}
use Rattle.std.specs.Prelude.{Bool, Option, None, Some}
use Rattle.std.proofs.lemmas.List.FromFn.{length-map-range_with_len}
use Rattle.std.proofs.Math.ListN.{length-set}
use Rattle.line_text.specs.Answers.{CommandAnswer, Answered, Refused, Listing, Shown, Claimed}
use Rattle.line_text.specs.Answers.{Planned, Judged, Forgot, Saved, Forgets, Tells}
use Rattle.line_cuts.specs.Cuts.{Floor, cut_tape}
use Rattle.line_live.specs.CutMachines.{cut_step}
use Rattle.line_live.specs.Lives.{LetsGo, LiveMachine, TakesUnless, floor_refusal}
use Rattle.line_moves.specs.Fates.{events_taken}
use Rattle.line_moves.specs.Moves.{with_events}
use Rattle.line_scripts.specs.declared.commands.Command.{Command}
use Rattle.line_scripts.specs.declared.commands.Command.TheVariants as commands
use Rattle.line_tape.specs.declared.events.Event.{Event}
use Rattle.line_tape.specs.declared.events.Event.TheVariants.{Send as SendEvent}
use Rattle.line_tape.specs.declared.events.Event.TheVariants.{Check as CheckEvent}
use Rattle.line_tape.specs.History.{Process, incarnation_at, process_at, with_event}
use Rattle.line_tape.proofs.StayLemmas.{length_restarted}
use Rattle.line_world.specs.declared.replies.Answer.{Answer}
use Rattle.line_world.specs.declared.replies.Answer.TheVariants as answers
use Rattle.line_world.specs.declared.replies.StepError.{StepError}
use Rattle.line_world.specs.declared.replies.Reply.{Reply}
use Rattle.line_world.specs.declared.replies.Reply.TheVariants.{Recovered}
use Rattle.line_tape.specs.declared.steps.Step.{Step}
use Rattle.line_tape.specs.declared.steps.Step.TheVariants as steps
use Rattle.line_world.specs.Machine.{Machine}
use Rattle.line_world.specs.Runs.{Takes}
use Rattle.line_world.specs.Steps.{Does, RecoversWith}

length_events : (history : List Process) (p : ℕ) (events : List Event)
    → length (with_events history p events) ≡ length history
length_events history p [] = refl
length_events history p (event ∷ events) =
    length_events (with_event history p event) p events ∙ length-set history p _

-- of two machines that are the same
same_length : (one other : Machine) → one ≡ other → length one.history ≡ length other.history
same_length one other same = ap (λ (m : Machine). length m.history) same

length_recovered : (old : Machine) (failed : List Bool) (reply : Reply) (new : Machine)
    → RecoversWith old failed reply new → length new.history ≡ length old.history
length_recovered old failed (Recovered plan states incarnations) new h =
    same_length new _ h.new_is ∙ length_restarted old.history plan.value.line
    h.plan_is.latest.recoverable.length_is
length_recovered old failed reply new h = absurd h

length_done : (old : Machine) (step : Step) (reply : Reply) (new : Machine)
    → Does old step reply new → length new.history ≡ length old.history
length_done old (steps.Send from to body) reply new h = same_length new _ h.1 ∙ length_events
    old.history from (SendEvent to (incarnation_at old.history from) body ∷ [])
length_done old (steps.Deliver from to pick state) reply new h = same_length new _ h.new_is ∙
    length_events old.history to (events_taken old.mode old.history from to state h.item)
length_done old (steps.Check at state) reply new h =
    same_length new _ h.1 ∙ length_events old.history at (CheckEvent state None ∷ [])
length_done old (steps.Begin at state) reply new h = same_length new _ h.1 ∙ length_events
    old.history at (CheckEvent state (Some (old.last_round + 1)) ∷ [])
length_done old (steps.Turn at state) reply new h = same_length new _ h.1 ∙ length_events
    old.history at (CheckEvent state (Some old.last_round) ∷ [])
length_done old (steps.Damage at check) reply new h = same_length new _ h.1
length_done old (steps.Bar at check) reply new h = same_length new _ h.1
length_done old (steps.Recover failed) reply new h = length_recovered old failed reply new h

length_taken : (old : Machine) (step : Step) (answer : Answer) (new : Machine)
    → Takes old step answer new → length new.history ≡ length old.history
length_taken old step (answers.Done reply) new h = length_done old step reply new h.1
length_taken old step (answers.Refused error) new h = same_length new old h.1

-- a machine that lets go answers by what it keeps
same_kept : (one other : LiveMachine) → one ≡ other
    → length one.kept.history ≡ length other.kept.history
same_kept one other same = ap (λ (m : LiveMachine). length m.kept.history) same

length_unless : (cause : Option StepError) (old : LiveMachine) (step : Step) (answer : Answer)
    (new : LiveMachine) → TakesUnless cause old step answer new
    → length new.kept.history ≡ length old.kept.history
length_unless (Some cause) old step answer new h = same_kept new old h.1
length_unless None old step answer new h =
    length_taken old.kept (cut_step old.floor step) h.told new.kept h.takes

-- and what it lets go is no process
length_let_go : (old : LiveMachine) (later : Floor) (new : LiveMachine) → LetsGo old later new
    → length new.kept.history ≡ length old.kept.history
length_let_go old later new h =
    ap (λ (history : List Process). length history) h.kept.history
    ∙ length-map-range_with_len (λ p. record (process_at old.kept.history p) {
      tape = cut_tape later
          p (process_at old.kept.history p).tape;
    }) 0 (length old.kept.history)

length_forgets : (old : LiveMachine) (round : Option ℕ) (new : LiveMachine) → Forgets old round new
    → length new.kept.history ≡ length old.kept.history
length_forgets old None new h = length_let_go old h.later new h.lets_go
length_forgets old (Some round) new h = length_let_go old h.later new h.lets_go

pub length_told : (old : LiveMachine) (command : Command) (told : CommandAnswer) (new : LiveMachine)
    → Tells old command told new → length new.kept.history ≡ length old.kept.history
length_told old (commands.Do step) (Answered answer) new h =
    length_unless (floor_refusal old.floor step) old step answer new h
length_told old (commands.Refused code) (Refused shown) new h = same_kept new old h.1
length_told old commands.Rounds (Listing floor n rounds) new h = same_kept new old h.3
length_told old commands.History (Shown floors history) new h = same_kept new old h.2
length_told old (commands.Bundle failed) (Claimed floors history claim) new h =
    same_kept new old h.3
length_told old (commands.Bundle failed) (Refused code) new h = same_kept new old h.2
length_told old (commands.Plan failed) (Planned answer) new h = same_kept new old h.1
length_told old commands.Live (Planned answer) new h = same_kept new old h.1
length_told old (commands.Answer failed) (Judged floors history claim) new h = same_kept new old h.3
length_told old (commands.Answer failed) (Planned (answers.Refused error)) new h =
    same_kept new old h.1
length_told old (commands.Forget round) (Forgot named floors) new h =
    length_forgets old round new h.1
length_told old (commands.Forget round) (Refused code) new h = same_kept new old h.1
length_told old commands.Save (Saved parts) new h = same_kept new old h.2
length_told old commands.Save (Refused code) new h = same_kept new old h.1
length_told old command told new h = absurd h
