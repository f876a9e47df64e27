-- What is left fits links that keep their order and has no round; what stays listed is a snapshot
-- of
-- it.
use Rattle.std.proofs.Common.{◌≡◌, ℕ, ◌+◌, ◌≤◌, List, [], length, map, sym, ap, ◌∙◌, subst, arith}
use Rattle.std.specs.Prelude.{IsTrue}
use Rattle.std.specs.List.{All, filter}
use Rattle.std.proofs.lemmas.List.{length-map}
use Rattle.line_names.specs.declared.choices.Choice.TheVariants.{Check as AtCheck}
use Rattle.line_tape.specs.Fit.{IsFitFifo}
use Rattle.line_tape.specs.History.{Process, tape_at}
use Rattle.line_tape.specs.Rounds.{has_check_of, rounds_checked}
use Rattle.line_tape.specs.declared.modes.Mode.{Mode}
use Rattle.line_moves.specs.Listed.{ListedRound, IsSnapshotOf}
use Rattle.line_moves.specs.Modes.{IsFitIn}
use Rattle.line_moves.specs.Worlds.{AreNumbered}
use Rattle.line_world.proofs.IdleLemmas.{idle_unbegun}
use Rattle.line_cuts.specs.Cuts.{Floor, cut_history}
use Rattle.line_cuts.proofs.LatestCuts.{length_history}
use Rattle.line_live.specs.CutMachines.{cut_listed, is_listed_on}
use Rattle.line_live.proofs.LaterLives.{fit_left, numbered_left, snapshots_left, unbegun_left}
use Rattle.line_live.proofs.ListedCuts.{counts_are, left_each}
use Rattle.line_live.proofs.worlds.cut_world.Goals as goal

-- what is left of the tapes
cut_is : (floor : Floor) (cut given whole : List Process) → cut ≡ cut_history floor given
    → given ≡ whole → cut ≡ cut_history floor whole
cut_is floor cut given whole e f = e ∙ ap (cut_history floor) f

size_is : (floor : Floor) (cut whole : List Process) → cut ≡ cut_history floor whole
    → length cut ≡ length whole
size_is floor cut whole e = ap (λ (h : List Process). length h) e ∙ length_history floor whole

pub cut_listing-requires-clause-floor : goal.cut_listing-requires-clause-floor
cut_listing-requires-clause-floor c =
    let floor : Floor = c.args.floor.now in
    let whole : List Process = c.args.world.now.history in
    sym (length-map floor.checks (λ i. AtCheck i)) ∙ c.requires.floor.line.length_is
    ∙ sym (size_is floor c.in_ok-catalogue.catalogue.processes whole
    (cut_is floor c.in_ok-catalogue.catalogue.processes c.catalogue.result.now.processes whole
    c.in_ok-catalogue.ensures.processes c.catalogue.ensures.processes))

pub cut_listing-requires-clause-counts : goal.cut_listing-requires-clause-counts
cut_listing-requires-clause-counts c =
    let floor : Floor = c.args.floor.now in
    let whole : List Process = c.args.world.now.history in
    let kept : List Process = c.in_ok-catalogue.catalogue.processes in
    subst (λ (rounds : List ListedRound). All (λ (round : ListedRound). length round.checks
    ≡ length kept) rounds) (sym c.rounds.ensures.value)
    (counts_are whole kept c.args.world.now.rounds
    (size_is floor kept whole
    (cut_is floor kept c.catalogue.result.now.processes whole
    c.in_ok-catalogue.ensures.processes c.catalogue.ensures.processes))
    c.rounds.ensures.snapshots)

pub cut_listing-requires-clause-snapshots : goal.cut_listing-requires-clause-snapshots
cut_listing-requires-clause-snapshots c =
    let floor : Floor = c.args.floor.now in
    let whole : List Process = c.args.world.now.history in
    let kept : List Process = c.in_ok-catalogue.catalogue.processes in
    let fit : IsFitFifo whole = subst
    (λ (mode : Mode). IsFitIn mode whole) c.requires.fifo c.history-history.ensures.fit in
    subst (λ (rounds : List ListedRound). All (λ (round : ListedRound). IsTrue (is_listed_on floor
    round) → IsSnapshotOf kept (cut_listed floor round)) rounds) (sym c.rounds.ensures.value)
    (subst (λ (h : List Process). All (λ (round : ListedRound). IsTrue (is_listed_on floor round)
    → IsSnapshotOf h (cut_listed floor round)) c.args.world.now.rounds)
    (sym (cut_is floor kept c.catalogue.result.now.processes whole
    c.in_ok-catalogue.ensures.processes c.catalogue.ensures.processes))
    (left_each floor whole c.args.world.now.rounds fit c.requires.floor c.rounds.ensures.snapshots))

pub resume-requires-clause-idle : goal.resume-requires-clause-idle
resume-requires-clause-idle c =
    let floor : Floor = c.args.floor.now in
    let whole : List Process = c.args.world.now.history in
    let kept : List Process = c.in_ok-catalogue.catalogue.processes in
    let fit : IsFitFifo whole = subst
    (λ (mode : Mode). IsFitIn mode whole) c.requires.fifo c.history-history.ensures.fit in
    let same : kept ≡ cut_history floor whole = cut_is floor kept c.catalogue.result.now.processes
    whole c.in_ok-catalogue.ensures.processes c.catalogue.ensures.processes in
    let old_rounds : (q r : ℕ) → IsTrue (has_check_of r (tape_at whole q))
    → r ≤ floor.round = λ q r has. let known = c.last_round-last_round.ensures.greatest q r has
    in omega (arith, known, c.requires.last) in
    idle_unbegun kept c.last_round-last_round.result
    (subst IsFitFifo (sym same) (fit_left floor whole fit old_rounds))
    (λ p. subst (λ (h : List Process). rounds_checked (tape_at h p) ≡ []) (sym same)
    (unbegun_left floor whole fit old_rounds p))

pub resume-requires-clause-snapshots : goal.resume-requires-clause-snapshots
resume-requires-clause-snapshots c =
    let floor : Floor = c.args.floor.now in
    let whole : List Process = c.args.world.now.history in
    let kept : List Process = c.in_ok-catalogue.catalogue.processes in
    let fit : IsFitFifo whole = subst
    (λ (mode : Mode). IsFitIn mode whole) c.requires.fifo c.history-history.ensures.fit in
    let rounds_are : c.in_ok-rounds.rounds.items
    ≡ map (cut_listed floor) (filter (is_listed_on floor) c.args.world.now.rounds) =
    c.in_ok-rounds.ensures ∙ ap (λ (rounds : List ListedRound). map (cut_listed floor)
    (filter (is_listed_on floor) rounds)) c.rounds.ensures.value in
    subst (λ (h : List Process). All (IsSnapshotOf h) c.in_ok-rounds.rounds.items)
    (sym (cut_is floor kept c.catalogue.result.now.processes whole
    c.in_ok-catalogue.ensures.processes c.catalogue.ensures.processes))
    (subst (λ (rounds : List ListedRound). All (IsSnapshotOf (cut_history floor whole)) rounds)
    (sym rounds_are)
    (snapshots_left floor whole fit c.requires.floor c.args.world.now.rounds
    c.rounds.ensures.snapshots))

pub resume-requires-clause-numbered : goal.resume-requires-clause-numbered
resume-requires-clause-numbered c =
    let floor : Floor = c.args.floor.now in
    let rounds_are : c.in_ok-rounds.rounds.items
    ≡ map (cut_listed floor) (filter (is_listed_on floor) c.args.world.now.rounds) =
    c.in_ok-rounds.ensures ∙ ap (λ (rounds : List ListedRound). map (cut_listed floor)
    (filter (is_listed_on floor) rounds)) c.rounds.ensures.value in
    subst (λ (rounds : List ListedRound). AreNumbered (c.last_round-last_round.result + 1) rounds)
    (sym rounds_are)
    (numbered_left floor (c.last_round-last_round.result + 1) c.args.world.now.rounds
    (subst (λ (last : ℕ). AreNumbered (last + 1) c.args.world.now.rounds)
    (sym c.last_round-last_round.ensures.value) c.last_round-last_round.ensures.numbered))
