-- Send by send.
use Rattle.std.proofs.Common.{◌≡◌, ◌<◌, ◌++◌, ℕ, List, ap, ◌∙◌, arith}
use Rattle.line_tape.specs.declared.events.Event.{Event}
use Rattle.line_tape.specs.Event.{sends}
use Rattle.line_tape.specs.Front.{front}
use Rattle.line_tape.specs.History.{tape_at}
use Rattle.line_tape.specs.Line.{events_before}
use Rattle.line_catalogue.specs.Left.{open_first}
use Rattle.line_catalogue.proofs.KnownLemmas.{marked-received, unmarked-open}
use Rattle.line_catalogue.proofs.senders.add_since.Goals as goal

pub add_if_not_marked-requires-clause-known : goal.add_if_not_marked-requires-clause-known
add_if_not_marked-requires-clause-known c = λ is.
    marked-received c.args.history.now.processes c.args.line.now c.args.sender.now.p
    c.args.sender.now.base c.loop-number.number c.args.sender.now.marks.now
    c.mark_of-mark.result c.mark_of-mark.ensures.before c.mark_of-mark.ensures.since
    c.requires.known is

pub add_if_not_marked-requires-clause-told : goal.add_if_not_marked-requires-clause-told
add_if_not_marked-requires-clause-told c = λ on is.
    let history = c.args.history.now.processes in
    let line = c.args.line.now in
    let p : ℕ = c.args.sender.now.p in
    let fronts : front c.tape.result.now.events c.at.result
    ≡ events_before history line p = ap (λ (t : List Event). front t c.at.result)
    c.tape.ensures.events ∙ ap (front (tape_at history p)) c.at.ensures in
    let within : c.loop-number.number < sends (events_before history line p) = omega
    (arith, c.sends_before-sends.ensures, ap (λ (es : List Event). sends es) fronts) in
    unmarked-open history line p c.args.sender.now.base c.loop-number.number
    c.args.sender.now.marks.now c.mark_of-mark.result c.mark_of-mark.ensures.before
    c.mark_of-mark.ensures.since c.args.sender.now.end (omega arith) within
    (c.requires.told on) is

pub loop-number-preserved : goal.loop-number-preserved
loop-number-preserved c =
    λ before begun. c.in_ok-add_if_not_marked.ensures before (c.loop-number.invariant before begun)

pub returns-clause-found : goal.returns-clause-found
returns-clause-found c = λ before begun.
    let fronts : front c.tape.result.now.events c.at.result
    ≡ events_before c.args.history.now.processes c.args.line.now c.args.sender.now.p = ap
    (λ (t : List Event). front t c.at.result) c.tape.ensures.events ∙ ap
    (front (tape_at c.args.history.now.processes c.args.sender.now.p)) c.at.ensures in
    let at : c.loop-number.number ≡ c.sends_before-sends.result = omega (
      arith,
      c.requires.end,
      c.sends_before-sends.ensures,
      ap (λ (es : List Event). sends es) fronts,
    ) in
    c.loop-number.invariant before begun ∙ ap (λ k. before
    ++ open_first c.args.history.now.processes c.args.line.now c.args.sender.now.p k) at
