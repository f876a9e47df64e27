-- What is kept of a table of what is in transit: the messages by receiver, and of these by sender.
use Rattle.std.specs.Prelude.{◌≡◌, ◌≢◌, ℕ, ◌%◌, ◌<◌, Bool, ◌==◌, if◌then◌else◌, List, [], ◌∷◌}
use Rattle.std.specs.Prelude.{All, AllPairs, length, filter, slice_index_or, Some}
use Rattle.std.specs.Int.{bit_at}
use Rattle.std.specs.List.Sorted.{IsNonDecreasingBy}
use Rattle.std.specs.Option.{option_eq}
use Rattle.line_names.specs.declared.messages.MsgName.{MsgName}
use Rattle.line_tape.specs.History.{Process}
use Rattle.line_tape.specs.Transit.{addressee}
use Rattle.line_rounds.specs.Tables.{table_of}

-- an inbox: a process, and what is in transit to it, by sender
pub record InboxView : Type 0 where
  pub to : ℕ
  pub messages : List MsgName

-- those of the messages that process p sent
abbrev pub messages_from : ℕ → List MsgName → List MsgName
messages_from p messages = filter (λ (message : MsgName). message.from == p) messages

-- what is in the inbox of process q, nothing where it has none
abbrev pub held_for : List InboxView → ℕ → List MsgName
held_for [] q = []
held_for (inbox ∷ rest) q = if inbox.to == q then inbox.messages else held_for rest q

-- the table of what is in the inboxes of n processes
abbrev pub table_held : ℕ → List InboxView → List (List (List MsgName))
table_held n inboxes = table_of n (λ p q. messages_from p (held_for inboxes q))

-- messages come by sender
abbrev pub ComeBySender : List MsgName → Type 0
ComeBySender messages = IsNonDecreasingBy (λ (message : MsgName). message.from) messages

-- all of the messages are from some of n processes
abbrev pub AreFrom : ℕ → List MsgName → Type 0
AreFrom n messages = All (λ (message : MsgName). message.from < n) messages

-- the bit of each message's sender is set, of 64 bits
abbrev pub AreSentBy : ℕ → List MsgName → Type 0
AreSentBy bits messages = All (λ (message : MsgName). bit_at bits (message.from % 64) ≡ 1) messages

-- an inbox that is kept of n processes: it has a message, and all by sender
pub record IsInbox (n : ℕ) (inbox : InboxView) : Type 0 where
  pub to : inbox.to < n
  pub some : inbox.messages ≢ []
  pub from : AreFrom n inbox.messages
  pub by_sender : ComeBySender inbox.messages

-- the inboxes that are kept of n processes, by process
pub record AreInboxes (n : ℕ) (inboxes : List InboxView) : Type 0 where
  pub ascend : AllPairs (λ (a b : InboxView). a.to < b.to) inboxes
  pub each : All (IsInbox n) inboxes

-- the message goes to process q
abbrev pub goes_to : List Process → ℕ → MsgName → Bool
goes_to history q message = option_eq ◌==◌ (addressee history message) (Some q)

-- each row has the messages that go to its process
pub record AreByAddressee (history : List Process) (messages : List MsgName)
    (rows : List (List MsgName)) : Type 0 where
  pub count : length rows ≡ length history
  pub each : (q : ℕ) → q < length history
      → slice_index_or rows q [] ≡ filter (goes_to history q) messages
