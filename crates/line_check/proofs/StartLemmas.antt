-- Where the processes go on, one after another.
use Rattle.std.proofs.Common.{◌≡◌, ℕ, ◌<◌, List, length, Some, ap, ◌∙◌, arith}
use Rattle.std.specs.List.{slice_get}
use Rattle.std.proofs.lemmas.List.FromFn.{get_or-map-range_with_len, length-map-range_with_len}
use Rattle.std.proofs.lemmas.List.FromFn.{fill_by_all}
use Rattle.std.proofs.lemmas.Option.{slice_get-get_or, get_or_from_slice_get}
use Rattle.line_names.specs.declared.choices.Choice.{Choice}
use Rattle.line_tape.specs.History.{Process}
use Rattle.line_check.specs.declared.answers.Start.{Start}
use Rattle.line_check.specs.declared.faults.FaultCode.{FaultCode}
use Rattle.line_check.specs.Answers.{start_due, starts_due}
use Rattle.line_check.specs.Faults.{IsStartFault, state, incarnation}

-- what has a fault is not right
pub fault-start : (right start : Start) {code : FaultCode} → IsStartFault right start code
    → start ≡ right → ⊥
fault-start right start (state other) same = other (ap (λ (s : Start). s.state) same)
fault-start right start (incarnation alike other) same = other (ap (λ (s : Start). s.inc) same)

module _ (history : List Process) (line : List Choice) where
  pub many-starts : length (starts_due history line) ≡ length history
  many-starts = length-map-range_with_len (start_due history line) 0 (length history)

  -- where process q goes on
  pub start-due : (q : ℕ) → q < length history
      → slice_get (starts_due history line) q ≡ Some (start_due history line q)
  start-due q within =
      let right : Start = start_due history line q in
      slice_get-get_or (starts_due history line) q right (omega (arith, within, many-starts))
      ∙ ap Some (get_or-map-range_with_len (start_due history line) 0
      (length history) q q right within (omega arith))

  -- where each is right, all are
  pub starts-right : (starts : List Start) → length starts ≡ length history
      → ((q : ℕ) → q < length history → slice_get starts q ≡ Some (start_due history line q))
      → starts ≡ starts_due history line
  starts-right starts counted each =
      fill_by_all (start_due history line) starts (length history)
      (start_due history line 0) counted
      (λ q within. get_or_from_slice_get starts q (start_due history line q)
      (start_due history line 0) (each q within))
