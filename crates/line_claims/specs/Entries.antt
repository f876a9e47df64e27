-- What one record of a claim spells, among n processes.
use Rattle.std.specs.Prelude.{ℕ, ◌+◌, ◌==◌, ◌&&◌, not, Bool, true, List, [], ◌∷◌, ◌++◌, drop, fold}
use Rattle.std.specs.Prelude.{length, nat_le, nat_lt, Option, Some, None, Result, Ok}
use Rattle.std.specs.List.{list_all}
use Rattle.line_names.specs.declared.certificates.Passed.{Passed}
use Rattle.line_names.specs.declared.choices.Choice.{Choice}
use Rattle.line_names.specs.Sets.{nobody, with_member}
use Rattle.line_check.specs.declared.answers.Replay.{Replay}
use Rattle.line_check.specs.declared.answers.Start.{Start}
use Rattle.line_fields.specs.declared.faults.Fault.{Fault}
use Rattle.line_fields.specs.declared.faults.Fault.TheVariants as faults
use Rattle.line_fields.specs.Fields.{◌>>=◌, want, hex}
use Rattle.line_fields.specs.Records.{Record, field}
use Rattle.line_fields.specs.Shapes.{two, three, five}
use Rattle.line_names.specs.declared.limits.TheConstants.{MOST_BODY}
use Rattle.line_tape.specs.declared.limits.TheConstants.{MOST_STATE}
use Rattle.line_tape.specs.Survival.{is_barred, is_damaged}
use Rattle.line_tape.specs.Views.{MarksView, with_bar, with_mark}
use Rattle.line_claims.specs.Numbers.{plain, incarnation, choice, choices, numbers, process}
use Rattle.line_claims.specs.Numbers.{state_or_none}
use Rattle.line_claims.specs.Versions.{most_in}

-- one mark more, of no initial state and not there yet
unfoldable pub one_mark_more : MarksView → ℕ → ℕ → Result MarksView Fault
one_mark_more marks p check = do
  later ← want (not (check == 0)) faults.InitialDamage
  fresh ← want (not (is_damaged marks p check)) faults.AlreadyDamaged
  Ok (with_mark marks p check)

-- damage,P,C
unfoldable pub damage_of : ℕ → MarksView → Record → Result MarksView Fault
damage_of n marks =
    two plain plain (λ number check. process n number >>= λ p. one_mark_more marks p check)

-- one bar more, lower than the one before
unfoldable pub one_bar_more : MarksView → ℕ → ℕ → Result MarksView Fault
one_bar_more marks p check =
    want (not (is_barred marks p check)) faults.BarNotLower >>= λ lower. Ok (with_bar marks p check)

-- bar,P,C
unfoldable pub bar_of : ℕ → MarksView → Record → Result MarksView Fault
bar_of n marks =
    two plain plain (λ number check. process n number >>= λ p. one_bar_more marks p check)

-- failed or failed,P,..
unfoldable pub failed_of : ℕ → Record → Result (List Bool) Fault
failed_of n r = do
  failed ← numbers (drop 1 r)
  there ← want (list_all (λ p. nat_lt p n) failed) faults.NoSuchProcess
  Ok (fold with_member nobody failed)

-- line,CHOICE,..: 1 choice to as many as a text of that version may have processes
unfoldable pub line_of : ℕ → Record → Result (List Choice) Fault
line_of version r =
    want (nat_le 2 (length r) && nat_le (length r) (most_in version + 1)) faults.BadRecord >>=
    λ long. choices (drop 1 r)

-- pass,P,CHOICE,FROM,INC,NUMBER
unfoldable pub passed_of : ℕ → Record → Result Passed Fault
passed_of n = five plain choice plain incarnation plain (λ who passed sender inc number. do
  at ← process n who
  from ← process n sender
  Ok
      (record {
        at = at;
        choice = passed;
        message = record { from = from; inc = inc; number = number };
      }))

-- the entries with that of one record more
unfoldable pub entry_of : ℕ → List Passed → Record → Result (List Passed) Fault
entry_of n entries r = passed_of n r >>= λ entry. Ok (entries ++ entry ∷ [])

-- a state is no longer than a check may store
abbrev pub is_short : Option (List ℕ) → Bool
is_short None = true
is_short (Some state) = nat_le (length state) MOST_STATE

-- start,P,INC,HEX of the process after those that these are of, `-` for no state
unfoldable pub start_of : ℕ → List Start → Record → Result (List Start) Fault
start_of n starts = three plain incarnation state_or_none (λ number inc state. do
  p ← process n number
  next ← want (p == length starts) faults.BadRecord
  short ← want (is_short state) faults.StateTooLong
  Ok (starts ++ record { inc = inc; state = state } ∷ []))

-- replay,FROM,INC,NUMBER,TO,PLACE,HEX
unfoldable pub replay_of : ℕ → List Replay → Record → Result (List Replay) Fault
replay_of n replays r = do
  long ← want (length r == 7) faults.BadRecord
  sender ← plain (field r 1)
  inc ← incarnation (field r 2)
  number ← plain (field r 3)
  addressee ← plain (field r 4)
  place ← plain (field r 5)
  body ← hex (field r 6)
  from ← process n sender
  to ← process n addressee
  short ← want (nat_le (length body) MOST_BODY) faults.BodyTooLong
  Ok
      (replays ++ record {
        message = record { from = from; inc = inc; number = number };
        to = to;
        place = place;
        body = body;
      } ∷ [])

-- end
abbrev pub end_of : Record → Result Unit Fault
end_of r = want (length r == 1) faults.BadRecord
