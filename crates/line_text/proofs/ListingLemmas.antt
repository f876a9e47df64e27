-- Rounds that are listed have a check of each process.
use Rattle.std.proofs.Common.{◌≡◌, List, ℕ, length, sym, ◌∙◌}
use Rattle.std.specs.List.{All}
use Rattle.std.proofs.lemmas.List.{length-map}
use Rattle.std.proofs.lemmas.List.Elements.{All-weaker}
use Rattle.line_names.specs.declared.choices.Choice.TheVariants.{Check as AtCheck}
use Rattle.line_tape.specs.History.{Process}
use Rattle.line_moves.specs.Listed.{ListedRound, IsSnapshotOf}

-- a snapshot of a history has a check of each of its processes
pub rounds_long : (history : List Process) (rounds : List ListedRound) → All (IsSnapshotOf history)
    rounds → All (λ (round : ListedRound). length round.checks ≡ length history) rounds
rounds_long history rounds snapshots =
    All-weaker (IsSnapshotOf history)
    (λ (round : ListedRound). length round.checks ≡ length history)
    (λ (round : ListedRound) (snapshot : IsSnapshotOf history round). sym
    (length-map round.checks (λ (c : ℕ). AtCheck c)) ∙ snapshot.line.length_is) rounds snapshots
