-- The records that are written for rounds that were completed, of a machine that keeps what a floor
-- left, in names and checks that are counted from the beginning.
use Rattle.std.specs.Prelude.{ℕ, ◌+◌, ◌==◌, if◌then◌else◌, List, [], ◌∷◌, length, map, codes}
use Rattle.std.specs.Prelude.{decimal}
use Rattle.std.specs.List.{flat_map, range_with_len}
use Rattle.line_names.specs.declared.messages.MsgName.{MsgName}
use Rattle.line_cuts.specs.Cuts.{Floor, lost_checks, lost_sends}
use Rattle.line_fields.specs.Records.{Record}
use Rattle.line_moves.specs.Listed.{ListedRound, check_in, channel_in}

-- rounds,COUNT
abbrev pub rounds_record : ℕ → Record
rounds_record count = codes "rounds" ∷ decimal count ∷ []

-- round,R,C0,C1,..: its check of each of n processes
abbrev pub round_record : Floor → ℕ → ListedRound → Record
round_record floor n round =
    codes "round" ∷ decimal round.number
    ∷ map (λ p. decimal (check_in round p + lost_checks floor p)) (range_with_len 0 n)

-- channel,R,FROM,TO,INC,NUMBER
abbrev pub channel_record : Floor → ℕ → ℕ → ℕ → MsgName → Record
channel_record floor r from to m =
    codes "channel" ∷ decimal r ∷ decimal from ∷ decimal to ∷ decimal m.inc
    ∷ decimal (m.number + lost_sends floor from) ∷ []

-- the channel from process p to q; there is none from a process to itself
abbrev pub channel_records : Floor → ListedRound → ℕ → ℕ → List Record
channel_records floor round p q =
    if p == q then [] else map (channel_record floor round.number p q) (channel_in round p q)

-- the channels from process p to each of n
abbrev pub channels_from : Floor → ℕ → ListedRound → ℕ → List Record
channels_from floor n round p = flat_map (channel_records floor round p) (range_with_len 0 n)

-- the channels from each to each
abbrev pub channels_records : Floor → ℕ → ListedRound → List Record
channels_records floor n round = flat_map (channels_from floor n round) (range_with_len 0 n)

-- a round, and its channels
abbrev pub round_records : Floor → ℕ → ListedRound → List Record
round_records floor n round = round_record floor n round ∷ channels_records floor n round

-- the rounds, in the order in which they were completed, which is that of their numbers
abbrev pub rounds_records : Floor → ℕ → List ListedRound → List Record
rounds_records floor n rounds =
    rounds_record (length rounds) ∷ flat_map (round_records floor n) rounds
