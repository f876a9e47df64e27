-- What one process has recorded of one round, as it is kept.
use Rattle.std.specs.Prelude.{◌≡◌, ℕ, Bool, false, List, [], ◌∷◌, map, slice_index_or, Option, Some}
use Rattle.std.specs.Prelude.{None}
use Rattle.std.specs.List.{range_with_len}
use Rattle.line_rounds.specs.Recording.{Channel, RecordedRound}
use Rattle.line_names.specs.Sets.{is_member}
use Rattle.line_names.specs.declared.messages.MsgName.{MsgName}

-- the channel from process q: what was noted from it, and whether its marker has come
abbrev pub channel_noted : List Bool → List (List MsgName) → ℕ → Channel
channel_noted closed noted q =
    record { messages = slice_index_or noted q []; is_closed = is_member closed q }

-- the round of this number with these channels from n processes, if the process has its check of it
abbrev pub rounds_noted : Option ℕ → ℕ → List Bool → List (List MsgName) → List RecordedRound
rounds_noted None n closed noted = []
rounds_noted (Some number) n closed noted =
    record { number = number; channels = map (channel_noted closed noted) (range_with_len 0 n) }
    ∷ []

-- before its check nothing is noted, and no marker has come
abbrev pub IsUnheard : Option ℕ → List Bool → List (List MsgName) → Type 0
IsUnheard None closed noted = (noted ≡ []) × ((q : ℕ) → is_member closed q ≡ false)
IsUnheard (Some number) closed noted = Unit {0}
