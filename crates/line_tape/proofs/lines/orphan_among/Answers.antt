-- The events looked at grow by one, up to all of them.
use Rattle.std.proofs.Common.{◌≡◌, ◌+◌, List, ℕ, [], ◌∷◌, ◌++◌, take, refl, sym, ap, ◌∙◌, subst}
use Rattle.std.proofs.Common.{arith}
use Rattle.std.proofs.lemmas.Bool.{false≢true}
use Rattle.std.proofs.lemmas.List.{take_all}
use Rattle.line_names.specs.declared.choices.Choice.{Choice}
use Rattle.line_names.specs.declared.messages.MsgName.{MsgName}
use Rattle.line_tape.specs.declared.events.Event.{Event}
use Rattle.line_tape.specs.declared.events.Event.TheVariants.{Recv}
use Rattle.line_tape.specs.declared.events.EventRef.{EventRef}
use Rattle.line_tape.specs.declared.events.EventRef.TheVariants.{Send as SendRef, Recv as RecvRef}
use Rattle.line_tape.specs.declared.events.EventRef.TheVariants.{Check as CheckRef, Mark as MarkRef}
use Rattle.line_tape.specs.History.{Process}
use Rattle.line_tape.specs.Line.{IsFoundAmong, IsSentBefore}
use Rattle.line_tape.specs.Shown.{event_of_ref}
use Rattle.line_tape.proofs.LineLemmas.{found-sent, found-orphan}
use Rattle.line_tape.proofs.ShownLemmas.{take_shown}
use Rattle.line_tape.proofs.lines.orphan_among.Goals.{in-Recv+then-not-is_sent_before}
use Rattle.line_tape.proofs.lines.orphan_among.Goals.{in-Recv+else-not-is_sent_before, in_default}
use Rattle.line_tape.proofs.lines.orphan_among.Goals as goal

-- what is shown as no receipt is none
unreceived : (event : EventRef) → ((message : MsgName) → event ≡ RecvRef message → ⊥)
    → (message : MsgName) → event_of_ref event ≡ Recv message → ⊥
unreceived (SendRef to inc body) not message is = absurd (cc is)
unreceived (RecvRef received) not message is = absurd (not received refl)
unreceived (CheckRef state round) not message is = absurd (cc is)
unreceived (MarkRef from round) not message is = absurd (cc is)

same_name : (a b : MsgName) → Recv a ≡ Recv b → a ≡ b
same_name a b is = cc is

pub loop-i-preserved : goal.loop-i-preserved
loop-i-preserved c =
    let history : List Process = c.args.history.now.processes in
    let line : List Choice = c.args.line.now in
    let events : List Event = c.args.events.now in
    let i : ℕ = c.loop-i.i in
    let item : Event = event_of_ref c.at.result in
    let more : take (i + 1) events
    ≡ take i events ++ item ∷ [] = take_shown events i item c.at.ensures in
    subst (λ (xs : List Event). IsFoundAmong history line xs c.match-at.best) (sym more)
    (elim c.match-at.branch [
      | in-Recv+then-not-is_sent_before w ↦ rw w.best-is
          (found-orphan history line
          (take i events) item c.loop-i.best w.in-Recv.message w.first_to_name.result
          (ap event_of_ref w.in-Recv.is) (λ sent. false≢true (sym w.if-not-is_sent_before.true ∙
          w.is_sent_before.ensures.1 sent)) w.first_to_name.ensures c.loop-i.invariant)
      | in-Recv+else-not-is_sent_before w ↦ rw w.best-is
          (found-sent history line (take i events) item c.loop-i.best
          (λ message e. subst (IsSentBefore history line)
          (same_name _ _ (sym (ap event_of_ref w.in-Recv.is) ∙ e))
          (w.is_sent_before.ensures.0 w.if-not-is_sent_before.false)) c.loop-i.invariant)
      | in_default w ↦ rw w.best-is
          (found-sent history line (take i events) item c.loop-i.best (λ message e. absurd
          (unreceived c.at.result w.in_default.not-Recv message e)) c.loop-i.invariant)
    ])

pub returns : goal.returns
returns c =
    let events : List Event = c.args.events.now in
    let all : take c.loop-i.i events ≡ events = take_all c.loop-i.i events (omega arith) in
    subst (λ (xs : List Event). IsFoundAmong c.args.history.now.processes c.args.line.now xs
    c.loop-i.best) all c.loop-i.invariant
