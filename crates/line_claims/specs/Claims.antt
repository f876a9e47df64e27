-- Which claim a list of records spells, and the first fault where it spells none.
use Rattle.std.specs.Prelude.{ℕ, ◌==◌, ◌&&◌, nat_le, not, Bool, true, false, List, [], ◌∷◌}
use Rattle.std.specs.Prelude.{Result, Ok, codes, if◌then◌else◌}
use Rattle.line_names.specs.declared.certificates.Passed.{Passed}
use Rattle.line_names.specs.declared.choices.Choice.{Choice}
use Rattle.line_check.specs.declared.answers.Replay.{Replay}
use Rattle.line_check.specs.declared.answers.Start.{Start}
use Rattle.line_fields.specs.declared.faults.Fault.TheVariants as faults
use Rattle.line_fields.specs.Fields.{◌>>=◌, want}
use Rattle.line_fields.specs.Records.{Record}
use Rattle.line_tape.specs.Views.{MarksView, no_marks}
use Rattle.line_claims.specs.declared.claims.Claim as made
use Rattle.line_claims.specs.declared.faults.TextFault.{TextFault}
use Rattle.line_claims.specs.Entries.{damage_of, bar_of, failed_of, line_of, entry_of, start_of}
use Rattle.line_claims.specs.Entries.{replay_of, end_of}
use Rattle.line_claims.specs.Parts.{begins, many, is_named, one, several}
use Rattle.line_claims.specs.Reads.{at_record}
use Rattle.line_claims.specs.Versions.{starts_in}

-- the marks of damage and the bars, the failed processes, a line, and the entries of its
-- certificate; from version 3 on also where each process goes on, and what is sent again
pub record Claim : Type 0 where
  pub marks : MarksView
  pub failed : List Bool
  pub line : List Choice
  pub certificate : List Passed
  pub starts : List Start
  pub replays : List Replay

-- a claim with lists in place of what keeps them
abbrev pub claim_view : made.Claim → Claim
claim_view claim =
    record {
      marks = claim.marks;
      failed = claim.failed;
      line = claim.line;
      certificate = claim.certificate.items;
      starts = claim.starts.items;
      replays = claim.replays.items;
    }

-- there are no records
abbrev pub is_none : List Record → Bool
is_none [] = true
is_none (r ∷ rest) = false

-- a record that bars a process, which version 1 does not know
abbrev pub is_bar : ℕ → Record → Bool
is_bar version r = nat_le 2 version && is_named (codes "bar") r

-- a record of a message that is sent again, which version 3 knows
abbrev pub is_replay : ℕ → Record → Bool
is_replay version r = nat_le 3 version && is_named (codes "replay") r

-- these records after the entries of a claim of version 4 do not tell where processes go on
abbrev pub is_line_alone : ℕ → List Record → Bool
is_line_alone version records = (version == 4) && not (begins (is_named (codes "start")) records)

-- the version as which they are read: such a claim is as one of version 2
abbrev pub answer_version : ℕ → List Record → ℕ
answer_version version records = if is_line_alone version records then 2 else version

-- the claim of that version among n processes that records spell, the first of which is the i-th of
-- the text
unfoldable pub claim_from : ℕ → ℕ → ℕ → List Record → Result Claim TextFault
claim_from version n i records = do
  damage ← many (is_named (codes "damage")) (damage_of n) (no_marks n) i records
  marks ← many (is_bar version) (bar_of n) damage.value damage.number damage.left
  failed ← one (codes "failed") (failed_of n) marks.number marks.left
  line ← one (codes "line") (line_of version) failed.number failed.left
  entries ← many (is_named (codes "pass")) (entry_of n) [] line.number line.left
  starts ← several (codes "start") (start_of n)
      (starts_in (answer_version version entries.left) n) [] entries.number entries.left
  replays ← many (is_replay (answer_version version entries.left)) (replay_of n) [] starts.number
      starts.left
  end ← one (codes "end") end_of replays.number replays.left
  last ← at_record end.number (want (is_none end.left) faults.BadRecord)
  Ok
      (record {
        marks = marks.value;
        failed = failed.value;
        line = line.value;
        certificate = entries.value;
        starts = starts.value;
        replays = replays.value;
      })
