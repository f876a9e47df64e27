-- The processes looked at so far grow by one, up to all that there are.
use Rattle.std.proofs.Common.{◌≡◌, ℕ, true, false, List, Option, Some, None, is_some, refl, sym}
use Rattle.std.proofs.Common.{◌∙◌, subst, arith}
use Rattle.std.proofs.lemmas.Bool.{false≢true}
use borrow.Author.Count.{below_more}
use Rattle.line_names.specs.declared.choices.Choice.{Choice}
use Rattle.line_names.specs.declared.messages.MsgName.{MsgName}
use Rattle.line_tape.specs.declared.events.Event.{Event}
use Rattle.line_tape.specs.History.{Process}
use Rattle.line_tape.specs.Line.{events_before, AreSentBefore, IsFoundAmong, IsConsistent}
use Rattle.line_tape.proofs.LineLemmas.{IsConsistent-below}
use Rattle.line_tape.proofs.lines.is_consistent.Goals as goal

none-found : (history : List Process) (line : List Choice) (events : List Event)
    (found : Option MsgName) → is_some found ≡ false → IsFoundAmong history line events found
    → AreSentBefore history line events
none-found history line events None none f = f
none-found history line events (Some message) none f = absurd (false≢true (sym none))

some-found : (history : List Process) (line : List Choice) (q : ℕ) (found : Option MsgName)
    → is_some found ≡ true → IsFoundAmong history line (events_before history line q) found
    → IsConsistent history line → ⊥
some-found history line q None some f consistent = absurd (false≢true some)
some-found history line q (Some message) some f consistent =
    f.unsent (consistent q message f.received)

pub returns-then-is_some : goal.returns-then-is_some
returns-then-is_some c = (
  λ h. absurd (false≢true h),
  λ consistent. absurd
      (some-found c.args.history.now.processes c.args.line.now c.unwrap-p.result
      c.orphan_on_tape.result
      (sym c.is_some.ensures ∙ c.if-is_some.true) c.orphan_on_tape.ensures consistent),
)

pub loop-q-preserved : goal.loop-q-preserved
loop-q-preserved c =
    let at : c.unwrap-p.result ≡ c.loop-q.q = (rw c.unwrap-p.ensures at c.try_new.ensures).1 in
    let none : AreSentBefore c.args.history.now.processes c.args.line.now
    (events_before c.args.history.now.processes c.args.line.now c.unwrap-p.result) = none-found
    c.args.history.now.processes c.args.line.now
    (events_before c.args.history.now.processes c.args.line.now c.unwrap-p.result)
    c.orphan_on_tape.result
    (sym c.is_some.ensures ∙ c.if-is_some.false) c.orphan_on_tape.ensures in
    below_more (λ p. AreSentBefore c.args.history.now.processes c.args.line.now
    (events_before c.args.history.now.processes c.args.line.now p)) c.loop-q.q
    c.loop-q.invariant (subst (λ (p : ℕ). AreSentBefore c.args.history.now.processes
    c.args.line.now (events_before c.args.history.now.processes c.args.line.now p)) at none)

pub returns : goal.returns
returns c = (
  λ h. IsConsistent-below c.args.history.now.processes c.args.line.now
      (λ q within. c.loop-q.invariant q (omega (arith, c.n-n.ensures.value))),
  λ h. refl,
)
