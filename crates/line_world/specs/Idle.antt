-- Histories at which no round of markers is open (Chandy and Lamport, ACM TOCS 3(1), 1985).
use Rattle.std.specs.Prelude.{◌≢◌, ℕ, ◌<◌, ◌≤◌, List, length, All, IsTrue}
use Rattle.line_tape.specs.Fit.{link, IsFitFifo}
use Rattle.line_tape.specs.History.{Process, tape_at}
use Rattle.line_tape.specs.Rounds.{has_check_of}
use Rattle.line_moves.specs.Worlds.{IsMessage}

-- each marker that was sent to another process was received: links between two hold messages alone
abbrev pub AreMarkersReceived : List Process → Type 0
AreMarkersReceived history =
    (p q : ℕ) → p < length history → q < length history → p ≢ q → All IsMessage (link history p q)

-- links in order can lead to the history, no round on a tape is later than the last one begun, and
-- none is open
pub record IsIdle (history : List Process) (last : ℕ) : Type 0 where
  pub fit : IsFitFifo history
  pub numbers : (p r : ℕ) → IsTrue (has_check_of r (tape_at history p)) → r ≤ last
  pub received : AreMarkersReceived history
