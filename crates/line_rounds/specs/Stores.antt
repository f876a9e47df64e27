-- Messages by sender, as they are kept.
use Rattle.std.specs.Prelude.{ℕ, ◌+◌, ◌-◌, ◌*◌, Bool, true, false, ◌&&◌, nat_le, List, length, map}
use Rattle.std.specs.Prelude.{slice_index_or}
use Rattle.line_names.specs.declared.messages.MsgName.{MsgName}
use Rattle.line_rounds.specs.declared.by_sender.MessageStore.{MessageStore}
use Rattle.line_rounds.specs.declared.by_sender.MessageStore.TheVariants.{Few, Many}
use Rattle.line_rounds.specs.declared.by_sender.TheConstants.{LEAST_OF_EACH, LEAST_TO_SHARE}

-- the messages that are kept
abbrev pub stored_messages : MessageStore → List MsgName
stored_messages (Few messages) = messages.items
stored_messages (Many messages) = messages

-- they stand in buffers that others may hold too
abbrev pub is_shared : MessageStore → Bool
is_shared (Few messages) = false
is_shared (Many messages) = true

-- the sender of the message at a place, 0 past the end
abbrev pub sender_at : List MsgName → ℕ → ℕ
sender_at messages i = slice_index_or (map (λ (message : MsgName). message.from) messages) i 0

-- there are many messages, and many for each process from the first sender to the last
abbrev pub are_many : List MsgName → Bool
are_many messages = nat_le LEAST_TO_SHARE (length messages)
    && nat_le (LEAST_OF_EACH * (sender_at messages (length messages - 1) + 1))
    (length messages + LEAST_OF_EACH * sender_at messages 0)
