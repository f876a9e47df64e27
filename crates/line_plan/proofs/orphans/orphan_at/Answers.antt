-- The first lane beyond its count names an orphan; where none is, all that was received is sent
-- before the line.
use Rattle.std.proofs.Common.{◌≡◌, ℕ, ◌+◌, ◌-◌, ◌<◌, List, length, get_or, sym, ap, ◌∙◌, subst}
use Rattle.std.proofs.Common.{arith}
use Rattle.line_names.specs.declared.choices.Choice.{Choice}
use Rattle.line_names.specs.Lines.{choice_at}
use Rattle.line_tape.specs.declared.events.Event.{Event}
use Rattle.line_tape.specs.Front.{front}
use Rattle.line_tape.specs.History.{Process, tape_at, IsHistory}
use Rattle.line_tape.specs.Line.{IsOrphanAmong}
use Rattle.line_vectors.specs.Vectors.{Fits}
use Rattle.line_vectors.specs.Reach.{reach_from, reach_of, reach_before, sent_count, sents_of}
use Rattle.line_catalogue.specs.Agreement.{name_of_number}
use Rattle.line_catalogue.proofs.LaneLemmas.{beyond-names, fits-decide}
use Rattle.line_vectors.proofs.ReachLemmas.{length-reach, reach-at, sents-at}
use Rattle.line_plan.proofs.orphans.orphan_at.Goals as goal

pub name_of-requires : goal.name_of-requires
name_of-requires c =
    let history : List Process = c.args.catalogue.now.processes in
    let lanes : List ℕ = c.reach-reach.result in
    let is : length lanes
    ≡ length history = ap (λ (xs : List ℕ). length xs) c.reach-reach.ensures.value ∙
    length-reach (length history) (front (tape_at history c.args.at) c.at-choice.result) in
    omega (
      arith,
      c.in-Some.ensures.within,
      is,
      ap
          (λ (h : List Process). length h) c.history-history.ensures.processes,
    )

pub returns-then-lane-lt-LAST_NUMBER-clause-found :
    goal.returns-then-lane-lt-LAST_NUMBER-clause-found
returns-then-lane-lt-LAST_NUMBER-clause-found c =
    let history : List Process = c.args.catalogue.now.processes in
    let line : List Choice = c.args.line.now in
    let n : ℕ = length history in
    let p : ℕ = c.in-Some.p in
    let q : ℕ = c.args.at in
    let choice : Choice = choice_at line q in
    let events : List Event = front (tape_at history q) choice in
    let lanes : List ℕ = c.reach-reach.result in
    let is : lanes ≡ reach_of n events = c.reach-reach.ensures.value ∙ ap
    (reach_before history q) c.at-choice.ensures in
    let within : p < n = omega (
      arith,
      c.in-Some.ensures.within,
      ap
          (λ (xs : List ℕ). length xs) is,
      length-reach n events,
    ) in
    let lane : c.lane-lane.result ≡ get_or (reach_of n events) p 0 = c.lane-lane.ensures ∙ ap
    (λ (xs : List ℕ). get_or xs p 0) is in
    let count : get_or c.args.sent.now p 0 ≡ sent_count history line p = ap
    (λ (xs : List ℕ). get_or xs p 0) c.requires.sent ∙ sents-at history line p 0 within in
    let over : get_or c.args.sent.now p 0 < c.lane-lane.result = omega
    (arith, c.in-Some.ensures.beyond, c.lane-lane.ensures) in
    let number : ℕ = c.lane-lane.result - 1 in
    let reached : reach_from events p ≡ number + 1 = omega
    (arith, lane, reach-at n events p 0 within, c.if-lane-lt-LAST_NUMBER.true, over) in
    let orphan : IsOrphanAmong history line events
    (name_of_number history p number) = beyond-names history line q choice p number
    c.history-history.ensures.agrees reached (omega (arith, over, count)) in
    let name : c.name_of.result ≡ name_of_number history p number = c.name_of.ensures ∙ ap
    (λ (h : List Process). name_of_number h p number) c.history-history.ensures.processes in
    subst (IsOrphanAmong history line events) (sym name) orphan

pub returns-in-None-clause-found : goal.returns-in-None-clause-found
returns-in-None-clause-found c =
    let history : List Process = c.args.catalogue.now.processes in
    let line : List Choice = c.args.line.now in
    let n : ℕ = length history in
    let q : ℕ = c.args.at in
    let choice : Choice = choice_at line q in
    let events : List Event = front (tape_at history q) choice in
    let is : c.reach-reach.result ≡ reach_of n events = c.reach-reach.ensures.value ∙ ap
    (reach_before history q) c.at-choice.ensures in
    let limits : IsHistory history = subst IsHistory c.history-history.ensures.processes
    c.n-n.ensures.limits in
    let fits : Fits (reach_of n events) (sents_of history line) = subst (Fits (reach_of n events))
    c.requires.sent (subst (λ (xs : List ℕ). Fits xs c.args.sent.now) is c.in-None.ensures) in
    (fits-decide history line q choice limits c.history-history.ensures.agrees).0 fits

pub first_beyond_from-requires-clause-from : goal.first_beyond_from-requires-clause-from
first_beyond_from-requires-clause-from c =
    let history : List Process = c.args.catalogue.now.processes in
    let is : length c.reach-reach.result
    ≡ length history = ap (λ (xs : List ℕ). length xs) c.reach-reach.ensures.value ∙
    length-reach (length history) (front (tape_at history c.args.at) c.at-choice.result) in
    omega (arith, is, c.requires.few)

pub returns-then-lane-lt-LAST_NUMBER-clause-few : goal.returns-then-lane-lt-LAST_NUMBER-clause-few
returns-then-lane-lt-LAST_NUMBER-clause-few c =
    let history : List Process = c.args.catalogue.now.processes in
    let is : length c.reach-reach.result
    ≡ length history = ap (λ (xs : List ℕ). length xs) c.reach-reach.ensures.value ∙
    length-reach (length history) (front (tape_at history c.args.at) c.at-choice.result) in
    omega (arith, is, c.in-Some.ensures.within)

pub returns-else-lane-lt-LAST_NUMBER-clause-few : goal.returns-else-lane-lt-LAST_NUMBER-clause-few
returns-else-lane-lt-LAST_NUMBER-clause-few c =
    let history : List Process = c.args.catalogue.now.processes in
    let is : length c.reach-reach.result
    ≡ length history = ap (λ (xs : List ℕ). length xs) c.reach-reach.ensures.value ∙
    length-reach (length history) (front (tape_at history c.args.at) c.at-choice.result) in
    omega (arith, is, c.in-Some.ensures.within)
