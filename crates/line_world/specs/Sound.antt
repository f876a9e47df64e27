-- What every run keeps true of the rounds of a machine.
use Rattle.std.specs.Prelude.{◌≡◌, ◌≢◌, ℕ, ◌<◌, ◌≤◌, ◌==◌, Bool, false, IsTrue, All, AllPairs}
use Rattle.std.specs.List.{list_any}
use Rattle.line_tape.specs.History.{tape_at}
use Rattle.line_tape.specs.Rounds.{has_check_of}
use Rattle.line_moves.specs.Listed.{ListedRound, is_completed, IsReached, IsSnapshotOf}
use Rattle.line_tape.specs.declared.steps.Step.{Step}
use Rattle.line_tape.specs.declared.steps.Step.TheVariants.{Recover}
use Rattle.line_world.specs.declared.replies.Answer.{Answer}
use Rattle.line_world.specs.declared.replies.Answer.TheVariants.{Done}
use Rattle.line_world.specs.declared.replies.Reply.TheVariants.{Recovered}
use Rattle.line_world.specs.Machine.{Machine, IsFit}

-- round r is listed
abbrev pub is_listed : Machine → ℕ → Bool
is_listed machine r = list_any (λ (round : ListedRound). round.number == r) machine.rounds

-- the history fits its links, the listed rounds are snapshots of it by number, and of the rounds on
-- the tapes all are completed and listed but the greatest at most, which is the last one begun
pub record IsSound (machine : Machine) : Type 0 where
  pub fit : IsFit machine
  pub snapshots : All (IsSnapshotOf machine.history) machine.rounds
  pub ascending : AllPairs (λ (a b : ListedRound). a.number < b.number) machine.rounds
  pub greatest : (p r : ℕ) → IsTrue (has_check_of r (tape_at machine.history p))
      → r ≤ machine.last_round
  pub others : (p r : ℕ) → IsTrue (has_check_of r (tape_at machine.history p))
      → r ≢ machine.last_round → IsTrue (is_completed machine.mode machine.history r)
  pub listed : (p r : ℕ) → IsTrue (has_check_of r (tape_at machine.history p))
      → IsTrue (is_completed machine.mode machine.history r) → IsTrue (is_listed machine r)

-- no round but the last one begun is completed in the new state that wasn't in the old
abbrev pub CompletesLast : Machine → Machine → Type 0
CompletesLast old new =
    (r : ℕ) → is_completed old.mode old.history r ≡ false
    → IsTrue (is_completed new.mode new.history r) → r ≡ new.last_round

-- a recovery that is done goes on from a line that is, at each process, at least as late as every
-- listed round whose checks survive
abbrev pub ReachesRounds : Machine → Step → Answer → Type 0
ReachesRounds old (Recover failed) (Done (Recovered plan states incarnations)) =
    All (IsReached old.history old.marks failed plan.value.line) old.rounds
ReachesRounds old step answer = Unit {0}
