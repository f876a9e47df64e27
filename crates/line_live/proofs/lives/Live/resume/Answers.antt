-- What was tested is what a world asks for.
use Rattle.std.proofs.Common.{◌≡◌, ◌+◌, List, sym, ap, ◌∙◌, subst}
use Rattle.std.specs.List.{All}
use Rattle.line_tape.specs.History.{Process}
use Rattle.line_moves.specs.Listed.{ListedRound, IsSnapshotOf}
use Rattle.line_moves.specs.Worlds.{AreNumbered}
use Rattle.line_world.specs.Idle.{IsIdle}
use Rattle.line_world.specs.Machine.{Machine}
use Rattle.line_live.proofs.LiveSteps.{tallied_resumed}
use Rattle.line_live.proofs.ResumedLemmas.{resumed_numbered, resumed_snapshots}
use Rattle.line_live.proofs.lives.Live.resume.Goals as goal

pub resume-requires-clause-idle : goal.resume-requires-clause-idle
resume-requires-clause-idle c =
    let same : c.resumed_listing.new.catalogue.processes
    ≡ c.args.catalogue.processes = ap (λ v. v.processes) c.in_ok-rounds.ensures.same in
    subst (λ (h : List Process). IsIdle h c.args.last_round)
    (sym same) c.in_ok-test_parts.ensures.idle

pub resume-requires-clause-snapshots : goal.resume-requires-clause-snapshots
resume-requires-clause-snapshots c =
    let same : c.resumed_listing.new.catalogue.processes
    ≡ c.args.catalogue.processes = ap (λ v. v.processes) c.in_ok-rounds.ensures.same in
    subst (λ (h : List Process). All (IsSnapshotOf h) c.in_ok-rounds.rounds.items) (sym same)
    (subst (λ (rounds : List ListedRound). All (IsSnapshotOf c.args.catalogue.processes) rounds)
    (sym c.in_ok-rounds.ensures.rounds)
    (resumed_snapshots c.args.catalogue.processes c.args.rounds.now
    c.in_ok-rounds.ensures.consistent))

pub resume-requires-clause-numbered : goal.resume-requires-clause-numbered
resume-requires-clause-numbered c =
    subst (λ (rounds : List ListedRound). AreNumbered (c.args.last_round + 1) rounds)
    (sym c.in_ok-rounds.ensures.rounds)
    (resumed_numbered c.args.catalogue.processes c.args.last_round c.args.rounds.now
    c.in_ok-test_parts.ensures.order)

pub invariant_of-result : goal.invariant_of-result
invariant_of-result c =
    let same : c.resumed_listing.new.catalogue.processes
    ≡ c.args.catalogue.processes = ap (λ v. v.processes) c.in_ok-rounds.ensures.same in
    let same_marks : c.resumed_listing.new.catalogue.marks
    ≡ c.args.catalogue.marks = ap (λ v. v.marks) c.in_ok-rounds.ensures.same in
    tallied_resumed c.args.floor c.args.catalogue.processes c.args.catalogue.marks c.args.rounds.now
    c.lets_nothing_go-forgot.result c.in_ok-world.world c.in_ok-test_parts.ensures.floor
    c.in_ok-test_parts.ensures.numbers
    c.in_ok-test_parts.ensures.held c.in_ok-rounds.ensures.consistent
    c.lets_nothing_go-forgot.ensures (ap (λ (m : Machine). m.mode) c.in_ok-world.ensures)
    (ap (λ (m : Machine). m.history) c.in_ok-world.ensures ∙ same)
    (ap (λ (m : Machine). m.marks) c.in_ok-world.ensures ∙ same_marks)
    (ap (λ (m : Machine). m.rounds) c.in_ok-world.ensures ∙ c.in_ok-rounds.ensures.rounds)
