-- What is seen of a history once one of its processes is written.
use Rattle.std.proofs.Common.{◌≡◌, ◌≢◌, ℕ, ◌<◌, List, length, map, get_or, set, sym, ap, ◌∙◌, subst}
use Rattle.std.proofs.Common.{arith}
use Rattle.std.specs.List.{All}
use Rattle.std.proofs.lemmas.List.{map-set, get_or-map, get_or-set_same, get_or-set_other}
use Rattle.std.proofs.lemmas.List.{length-map, length-set}
use Rattle.std.proofs.lemmas.List.Elements.{All-set, All-get_or}
use Rattle.std.proofs.Math.Seq.{map-set_same}
use Rattle.line_tape.specs.declared.histories.ProcessTape.{ProcessTape}
use Rattle.line_tape.specs.History.{Process, fresh, process_at, IsProcess, IsHistory}
use Rattle.line_tape.specs.Plain.{process_kept, tape_room}

-- a history stays one where a process of it is written
pub IsHistory-set : (history : List Process) (p : ℕ) (process : Process)
    → IsProcess (length history) process → IsHistory history → IsHistory (set history p process)
IsHistory-set history p process is h =
    let same : length (set history p process) ≡ length history = length-set history p process in
    record {
      some = omega (arith, h.some);
      few = omega (arith, h.few);
      processes = subst (λ (n : ℕ). All (IsProcess n) (set history p process)) (sym same)
          (All-set (IsProcess (length history)) history p process is h.processes);
    }

-- what is known of each process
pub IsHistory-at : (history : List Process) (p : ℕ) → p < length history → IsHistory history
    → IsProcess (length history) (process_at history p)
IsHistory-at history p within h =
    All-get_or (IsProcess (length history)) history p fresh within h.processes

module _ (items : List ProcessTape) (p : ℕ) (old new : ProcessTape) (within : p < length items)
    (is : old ≡ get_or items p old) where
  -- the process that stood there
  pub plain-old : process_at (map process_kept items) p ≡ process_kept old
  plain-old = get_or-map process_kept items p old fresh within ∙ ap process_kept (sym is)

  -- another process in its place
  pub plain-written : map process_kept (set items p new)
      ≡ set (map process_kept items) p (process_kept new)
  plain-written = map-set process_kept items p new

  -- the same process in its place
  pub plain-same : process_kept new ≡ process_kept old
      → map process_kept (set items p new) ≡ map process_kept items
  plain-same same = map-set_same process_kept items p new old (same ∙ ap process_kept is)

  -- the same room in its place
  pub rooms-same : tape_room new ≡ tape_room old
      → map tape_room (set items p new) ≡ map tape_room items
  rooms-same same = map-set_same tape_room items p new old (same ∙ ap tape_room is)

  -- the room before
  pub room-old : get_or (map tape_room items) p 0 ≡ tape_room old
  room-old = get_or-map tape_room items p old 0 within ∙ ap tape_room (sym is)

  -- the room there
  pub room-new : get_or (map tape_room (set items p new)) p 0 ≡ tape_room new
  room-new = ap (λ xs. get_or xs p 0) (map-set tape_room items p new) ∙ get_or-set_same
      (map tape_room items) p (tape_room new) 0 (omega (arith, length-map items tape_room))

  -- the room elsewhere
  pub room-other : (q : ℕ) → q ≢ p
      → get_or (map tape_room (set items p new)) q 0 ≡ get_or (map tape_room items) q 0
  room-other q apart = ap (λ xs. get_or xs q 0) (map-set tape_room items p new) ∙ get_or-set_other
      (map tape_room items) p q (tape_room new) 0 apart
