-- After the last event of a process comes the next process; after the last process nothing does.
use Rattle.std.proofs.Common.{◌≡◌, ◌<◌, ◌≤◌, ℕ, List, length, refl, sym, ap, ◌∙◌, arith}
use Rattle.line_names.specs.declared.choices.Choice.{Choice}
use Rattle.line_tape.specs.declared.events.Event.{Event}
use Rattle.line_tape.specs.Front.{front}
use Rattle.line_tape.specs.History.{Process, tape_at}
use Rattle.line_tape.specs.Line.{events_before}
use Rattle.line_check.proofs.CursorLemmas.{next-left, with_one}
use Rattle.line_check.proofs.cursors.next_due.Goals as goal

pub processes-preserved : goal.processes-preserved
processes-preserved c =
    let history : List Process = c.args.history.now.processes in
    let line : List Choice = c.args.line.now in
    let at : c.unwrap-p.result
    ≡ c.processes.walk.p = (rw c.unwrap-p.ensures at c.try_new.ensures).1 in
    let here : c.events.walk.p ≡ c.unwrap-p.result = c.events.invariant.process in
    let before : c.front-events.result ≡ events_before history line c.unwrap-p.result
    = c.front-events.ensures ∙ ap (λ (tape : List Event). front tape c.at.result)
    c.tape.ensures.events ∙ ap (front (tape_at history c.unwrap-p.result)) c.at.ensures in
    let long : length (events_before history line c.events.walk.p) ≡ length c.front-events.result =
    ap (λ (p : ℕ). length (events_before history line p)) here ∙ ap length (sym before) in
    let within : c.events.walk.p < length history = omega
    (arith, here, at, c.processes-test.true, c.n-n.ensures.value) in
    let whole : length (events_before history line c.events.walk.p) ≤ c.events.walk.place = omega
    (arith, long, c.len.ensures, c.events-test.false) in
    record {
      number = omega arith;
      counted = with_one c.args.received c.events.invariant.counted (λ flags so_far. refl);
      left = c.events.invariant.left ∙ next-left history line c.events.walk.p c.events.walk.number
          c.events.walk.place within whole;
    }
