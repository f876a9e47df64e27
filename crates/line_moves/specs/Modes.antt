-- The two kinds of links, what they can lead to and what they hold: in order (Chandy and Lamport,
-- ACM TOCS 3(1), 1985), or copies without an order (Lai and Yang, Information Processing Letters
-- 25(3), 1987).
use Rattle.std.specs.Prelude.{ℕ, List, [], map}
use Rattle.line_names.specs.declared.messages.MsgName.{MsgName}
use Rattle.line_tape.specs.declared.items.Item.{Item}
use Rattle.line_tape.specs.declared.items.Item.TheVariants.{Message}
use Rattle.line_tape.specs.Fit.{link, IsFitFifo, IsFitUnordered}
use Rattle.line_tape.specs.History.{Process}
use Rattle.line_rounds.specs.Tables.{between}
use Rattle.line_tape.specs.declared.modes.Mode.{Mode}
use Rattle.line_tape.specs.declared.modes.Mode.TheVariants.{Fifo, Unordered}

-- the history is one that links of the mode can lead to
abbrev pub IsFitIn : Mode → List Process → Type 0
IsFitIn Fifo history = IsFitFifo history
IsFitIn Unordered history = IsFitUnordered history

-- the copies that links hold: none in `Fifo`
abbrev pub copies_in : {A : Type 0} → Mode → List (List (List A)) → List (List (List A))
copies_in Fifo copies = []
copies_in Unordered copies = copies

-- what the link from process p to q holds, the oldest first: in `Fifo` it is read off the tapes,
-- and else each item is a copy of a message
abbrev pub items_in : Mode → List Process → List (List (List MsgName)) → ℕ → ℕ → List Item
items_in Fifo history copies p q = link history p q
items_in Unordered history copies p q = map (λ m. Message m) (between copies p q)
