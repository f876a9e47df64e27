-- Copies of messages on links that keep no order (Lai and Yang, Information Processing Letters
-- 25(3), 1987); here a delivery leaves its copy on the link, so that one may come late, again or
-- never.
use Rattle.std.specs.Prelude.{◌≡◌, ℕ, ◌<◌, ◌==◌, ◌&&◌, if◌then◌else◌, List, [], ◌∷◌, length, All}
use Rattle.std.specs.Prelude.{Some}
use Rattle.line_names.specs.declared.messages.MsgName.{MsgName}
use Rattle.line_tape.specs.declared.events.Event.{Event}
use Rattle.line_tape.specs.declared.events.Event.TheVariants.{Send, Recv, Check, Mark}
use Rattle.line_tape.specs.Event.{Holds}
use Rattle.line_tape.specs.Fit.{IsFitUnordered}
use Rattle.line_tape.specs.History.{Process, tape_at}
use Rattle.line_tape.specs.Spent.{next_name, IsSpentName, HasNoLaterSend}
use Rattle.line_tape.specs.Transit.{addressee}

-- a copy on the link from process p to q: a message of p whose name is spent, and sent to q if p's
-- tape holds it
pub record IsCopy (history : List Process) (p q : ℕ) (message : MsgName) : Type 0 where
  pub from_is : message.from ≡ p
  pub spent : IsSpentName history message
  pub to_is : Holds (tape_at history message.from) message.inc message.number
      → addressee history message ≡ Some q

-- the links between the processes hold copies alone
abbrev pub AreCopies : List Process → (ℕ → ℕ → List MsgName) → Type 0
AreCopies history copies =
    (p q : ℕ) → p < length history → q < length history → All (IsCopy history p q) (copies p q)

-- what links without an order can lead to: the history fits them, they hold copies, and no tape is
-- ahead of its process
pub record IsUnordered (history : List Process) (copies : ℕ → ℕ → List MsgName) : Type 0 where
  pub fit : IsFitUnordered history
  pub links : AreCopies history copies
  pub sends : HasNoLaterSend history

-- what an event of process `at` puts on the link from process p to q: a send puts a copy of its
-- message there
abbrev pub copies_put : List Process → ℕ → Event → ℕ → ℕ → List MsgName
copies_put history at (Send to inc body) p q =
    if (p == at) && (q == to) then next_name history at ∷ [] else []
copies_put history at (Recv message) p q = []
copies_put history at (Check state round) p q = []
copies_put history at (Mark from round) p q = []
