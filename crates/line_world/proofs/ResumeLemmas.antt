-- What links hold where no round is open, and what is known of such a world.
use Rattle.std.proofs.Common.{◌≡◌, ℕ, zero, suc, ◌+◌, ◌<◌, false, List, [], length, map, replicate}
use Rattle.std.proofs.Common.{Option, Some, None, sym, ◌∙◌, subst, arith}
use Rattle.std.specs.List.{All}
use Rattle.std.specs.Option.{is_some}
use Rattle.std.proofs.lemmas.List.{length-replicate}
use Rattle.std.proofs.lemmas.List.Elements.{All-nil}
use Rattle.line_names.specs.declared.choices.Choice.TheVariants.{Now}
use Rattle.line_names.specs.Lines.{choice_at}
use Rattle.line_tape.specs.declared.events.Event.{Event}
use Rattle.line_tape.specs.declared.items.Item.{Item}
use Rattle.line_tape.specs.declared.items.Item.TheVariants.{Message}
use Rattle.line_tape.specs.Fit.{IsFitFifo}
use Rattle.line_tape.specs.Front.{HasChoice}
use Rattle.line_tape.specs.History.{Process, tape_at}
use Rattle.line_tape.specs.Line.{IsLine}
use Rattle.line_tape.specs.Transit.{in_transit_between}
use Rattle.line_rounds.specs.Tables.{between, IsTable}
use Rattle.line_rounds.proofs.TableLemmas.{between-none, IsTable-none}
use Rattle.line_tape.specs.declared.modes.Mode.{Mode}
use Rattle.line_tape.specs.declared.modes.Mode.TheVariants.{Fifo, Unordered}
use Rattle.line_moves.specs.Listed.{ListedRound, IsSnapshotOf}
use Rattle.line_moves.specs.Openings.{OpenView}
use Rattle.line_moves.specs.Worlds.{AreNumbered, AreQueues, AreRounds, IsItemOf, IsWorld}
use Rattle.line_moves.proofs.OpeningLemmas.{AreNumbered-weaker}
use Rattle.line_world.specs.Idle.{AreMarkersReceived, IsIdle}
use Rattle.line_world.proofs.IdleLemmas.{completed_idle_history, idle_completed, idle_link}

-- the line at which each process stands
pub present_is : (history : List Process) → IsLine history (replicate (length history) Now)
present_is history = record {
  length_is = length-replicate (length history) Now;
  exist = λ p. exists (tape_at history p) (length history) p;
}
  where
    exists : (tape : List Event) (n p : ℕ) → HasChoice tape (choice_at (replicate n Now) p)
    exists tape zero p = omega arith
    exists tape (suc n) zero = tt
    exists tape (suc n) (suc p) = exists tape n p

-- what the links hold
pub present_world : (history : List Process) (queues : List (List (List Item))) → IsFitFifo history
    → AreMarkersReceived history → AreQueues history queues
    → ((p q : ℕ) → p < length history → q < length history → between queues p q
    ≡ map (λ m. Message m) (in_transit_between history (replicate (length history) Now) p q))
    → IsWorld Fifo history queues
present_world history queues fit received queued put = record {
  queued = queued;
  linked = record {
    fit = fit;
    links = λ p q p_within q_within apart. put p q p_within q_within ∙
        sym (idle_link history p q fit received p_within q_within apart);
  };
  only = tt;
}

-- no round is open
pub present_rounds : (history : List Process) (last : ℕ) (rounds : List ListedRound)
    → IsIdle history last → All (IsSnapshotOf history) rounds → AreNumbered (last + 1) rounds
    → AreRounds Fifo history last None rounds
present_rounds history last rounds idle snapshots numbered = record {
  numbers = idle.numbers;
  opening = idle_completed history last idle;
  unfinished = tt;
  snapshots = snapshots;
  numbered = AreNumbered-weaker (last + 1) (suc last) rounds (omega arith) numbered;
}

-- a world in order of which no round is open is idle
pub shut_idle : (mode : Mode) (history : List Process) (last : ℕ) (running : Option OpenView)
    (queues : List (List (List Item))) (rounds : List ListedRound) → mode ≡ Fifo
    → IsWorld mode history queues
    → AreRounds mode history last running rounds → is_some running ≡ false → IsIdle history last
shut_idle Fifo history last None queues rounds is world are shut =
    completed_idle_history history last world.linked.fit are.numbers are.opening
shut_idle Fifo history last (Some round) queues rounds is world are shut = absurd (cc)
shut_idle Unordered history last running queues rounds is world are shut = absurd (cc)

-- empty queues
pub empty_queues : (history : List Process) (n : ℕ) → n ≡ length history
    → AreQueues history (replicate n (replicate n []))
empty_queues history n size = record {
  shape =
      subst (λ (v : ℕ). IsTable {A = Item} v (replicate n (replicate n []))) size (IsTable-none n);
  messages = λ p q. subst (λ (xs : List Item). All (IsItemOf p) xs)
      (sym (between-none {A = Item} n p q)) (All-nil (IsItemOf p));
}
