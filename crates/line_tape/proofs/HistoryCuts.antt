-- A history whose processes went on from their choices keeps within the limits, and has the rooms
-- that it had.
use Rattle.std.proofs.Common.{◌≡◌, ℕ, ◌<◌, ◌≤◌, List, length, map, take, get_or, set, sym, subst}
use Rattle.std.proofs.Common.{arith, inl, inr}
use Rattle.std.specs.List.{All}
use Rattle.std.proofs.lemmas.Bool.{cases_eq}
use Rattle.std.proofs.lemmas.List.Elements.{All-take, All-get_or, All-from_get_or}
use Rattle.line_names.specs.declared.choices.Choice.{Choice}
use Rattle.line_names.specs.declared.choices.Choice.TheVariants.{Check as AtCheck}
use Rattle.line_tape.specs.declared.histories.ProcessTape.{ProcessTape}
use Rattle.line_tape.specs.Event.{NamesBelow}
use Rattle.line_tape.specs.Front.{place}
use Rattle.line_tape.specs.History.{Process, fresh, IsProcess, IsHistory}
use Rattle.line_tape.specs.Plain.{tape_room}
use Rattle.line_tape.specs.Restart.{restarted_process}
use Rattle.line_tape.proofs.CutLemmas.{IsTape-take, IsTape-restarted, All-restarted, named_left}
use Rattle.line_tape.proofs.EachLemmas.{each, each_at, length-each}
use Rattle.line_tape.proofs.HistoryLemmas.{room-old, room-new, room-other}

IsProcess-restarted : (n : ℕ) (process : Process) (choice : Choice) → IsProcess n process
    → IsProcess n (restarted_process process choice)
IsProcess-restarted n process choice is =
    let end : ℕ = place process.tape choice in
    record {
      tape = IsTape-restarted (take end process.tape) (IsTape-take process.tape end is.tape);
      named = All-restarted (NamesBelow n) (named_left n) (take end process.tape)
          (All-take (NamesBelow n) end process.tape is.named);
    }

pub IsHistory-restarted : (history : List Process) (line : List Choice) → length history ≤ length
    line → IsHistory history → IsHistory (each restarted_process history line)
IsHistory-restarted history line enough is =
    let new : List Process = each restarted_process history line in
    let n : ℕ = length history in
    let many : length new ≡ n = length-each restarted_process history line enough in
    let all : All (IsProcess n) new = All-from_get_or (IsProcess n) new fresh (λ p within.
    subst (IsProcess n)
    (sym (each_at restarted_process history line p fresh fresh (AtCheck 0)
    (omega (arith, many)) enough))
    (IsProcess-restarted n (get_or history p fresh) (get_or line p (AtCheck 0))
    (All-get_or (IsProcess n) history p fresh (omega (arith, many)) is.processes))) in
    record {
      some = omega (arith, is.some, many);
      few = omega
          (arith, is.few, many);
      processes = subst (λ (k : ℕ). All (IsProcess k) new) (sym many) all;
    }

-- no room falls where one process is written that has no less room
pub rooms-more : (rooms : List ℕ) (items : List ProcessTape) (p : ℕ) (old new : ProcessTape)
    → p < length items → old ≡ get_or items p old → tape_room old ≤ tape_room new
    → ((q : ℕ) → get_or rooms q 0 ≤ get_or (map tape_room items) q 0) → (q : ℕ)
    → get_or rooms q 0 ≤ get_or (map tape_room (set items p new)) q 0
rooms-more rooms items p old new within is more before q = elim (cases_eq q p) [
  | inl e ↦ subst (λ (k : ℕ). get_or rooms k 0 ≤ get_or (map tape_room (set items p new)) k 0)
      (sym e) (omega
      (arith, before p, room-old items p old new within is, room-new items p old new within is))
  | inr apart ↦ omega (arith, before q, room-other items p old new within is q apart)
]
