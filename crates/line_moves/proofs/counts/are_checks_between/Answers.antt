-- A front that has as many more checks as it has more events sends and receives the same.
use Rattle.std.proofs.Common.{◌≡◌, ◌+◌, List, length, sym, subst, ap, ◌∙◌, arith}
use Rattle.std.proofs.lemmas.Bool.{eqb-true}
use Rattle.std.proofs.lemmas.List.{take_all}
use Rattle.line_names.specs.declared.choices.Choice.{Choice}
use Rattle.line_names.specs.declared.choices.Choice.TheVariants.{Check as AtCheck}
use Rattle.line_tape.specs.declared.events.Event.{Event}
use Rattle.line_tape.specs.Event.{checks}
use Rattle.line_tape.specs.Front.{front, place, HasChoice}
use Rattle.line_tape.proofs.RowLemmas.{checks_front}
use Rattle.line_moves.proofs.StillLemmas.{same_received, same_sent}
use Rattle.line_moves.proofs.counts.are_checks_between.Goals as goal
use Rattle.line_moves.proofs.counts.are_checks_between.Goals.{in-Check, in-Now, Joined-choice}

-- a check has as many before it as its index says, and itself
counted : (c : Joined-choice)
    → c.match-choice.checks ≡ checks (front c.args.tape.now.events c.args.choice)
counted c = elim c.match-choice.branch [
  | in-Check w ↦ w.checks-is ∙ sym (checks_front c.args.tape.now.events w.in-Check.check
      (subst (HasChoice c.args.tape.now.events) w.in-Check.is c.requires.choice))
      ∙ ap (λ (choice : Choice). checks (front c.args.tape.now.events choice)) (sym w.in-Check.is)
  | in-Now w ↦ w.checks-is ∙ w.checks-checks.ensures.value ∙ ap checks
      (sym (take_all (length c.args.tape.now.events) c.args.tape.now.events (omega arith)))
      ∙ ap (λ (choice : Choice). checks (front c.args.tape.now.events choice)) (sym w.in-Now.is)
]

pub returns-then-before-after-clause-sent : goal.returns-then-before-after-clause-sent
returns-then-before-after-clause-sent c = λ t p.
    let tape : List Event = c.args.tape.now.events in
    let before : c.len-before.result ≡ length (front tape (AtCheck c.args.check)) =
    c.len-before.ensures ∙ ap (λ (es : List Event). length es) c.front.ensures
    in
    let after : c.len-after.result ≡ length (front tape c.args.choice) =
    c.len-after.ensures ∙ ap (λ (es : List Event). length es) c.front-2.ensures
    in
    let own : checks (front tape (AtCheck c.args.check))
    ≡ c.args.check = checks_front tape c.args.check c.requires.check in
    let same = eqb-true (c.len-after.result + c.args.check)
    (c.len-before.result + c.match-choice.checks) t in
    same_sent p 0 tape (place tape (AtCheck c.args.check)) (place tape c.args.choice)
    (omega (arith, before, after, c.if-before-after.true))
    (omega (
      arith,
      before,
      after,
      own,
      counted
          ((goal.at.returns-then-before-after-clause-sent c).Joined-choice),
      same,
    ))

pub returns-then-before-after-clause-received : goal.returns-then-before-after-clause-received
returns-then-before-after-clause-received c = λ t.
    let tape : List Event = c.args.tape.now.events in
    let before : c.len-before.result ≡ length (front tape (AtCheck c.args.check)) =
    c.len-before.ensures ∙ ap (λ (es : List Event). length es) c.front.ensures
    in
    let after : c.len-after.result ≡ length (front tape c.args.choice) =
    c.len-after.ensures ∙ ap (λ (es : List Event). length es) c.front-2.ensures
    in
    let own : checks (front tape (AtCheck c.args.check))
    ≡ c.args.check = checks_front tape c.args.check c.requires.check in
    let same = eqb-true (c.len-after.result + c.args.check)
    (c.len-before.result + c.match-choice.checks) t in
    same_received tape (place tape (AtCheck c.args.check)) (place tape c.args.choice)
    (omega (arith, before, after, c.if-before-after.true))
    (omega (
      arith,
      before,
      after,
      own,
      counted
          ((goal.at.returns-then-before-after-clause-received c).Joined-choice),
      same,
    ))
