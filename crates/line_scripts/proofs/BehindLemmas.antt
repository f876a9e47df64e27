-- Bytes that were spelled behind others, seen alone.
use Rattle.std.proofs.Common.{◌≡◌, ◌==◌, ℕ, List, ◌++◌, drop, length, Result, Ok, Err, sym, true}
use Rattle.std.proofs.Common.{ap, ◌∙◌}
use Rattle.std.proofs.Math.Seq.{drop-append_seam}
use Rattle.line_fields.specs.declared.faults.Fault.{Fault}
use Rattle.line_fields.specs.declared.faults.ReadError.{ReadError}
use Rattle.line_fields.specs.declared.faults.ReadError.TheVariants as errors
use Rattle.line_fields.specs.Digits.{with_front}
use Rattle.line_fields.specs.Fields.{Fails, Gives, hex}
use Rattle.line_fields.proofs.HexLemmas.{end_at}
use Rattle.line_scripts.specs.Keeping.{behind}

read_behind : (front new : List ℕ) (read : Result (List ℕ) Fault) → with_front front read ≡ Ok new
    → read ≡ Ok (behind front new)
read_behind front new (Ok own) h =
    let all : front ++ own ≡ new = cc h in
    let same : own ≡ behind front new = sym (drop-append_seam front own) ∙ ap
    (λ (bs : List ℕ). drop (length front) bs) all in
    ap Ok same
read_behind front new (Err fault) h = cc h

fails_behind : (front : List ℕ) (e : ReadError) (read : Result (List ℕ) Fault)
    → Fails e (with_front front read) → Fails e read
fails_behind front errors.OutOfMemory read h = tt
fails_behind front (errors.Fault fault) (Ok own) h = cc h
fails_behind front (errors.Fault fault) (Err other) h = h

-- what a call puts behind a front is what it read
pub given_behind : {A : Type 0} (result : Result A ReadError) (front new : List ℕ)
    (read : Result (List ℕ) Fault) → Gives (λ (x : A). new) result (with_front front read)
    → Gives (λ (x : A). behind front new) result read
given_behind (Ok x) front new read h = read_behind front new read h
given_behind (Err e) front new read h = fails_behind front e read h

-- an empty field spells nothing, which is what stands behind a front that is as it was
pub nothing_behind : (front text : List ℕ) → (length text == 0) ≡ true
    → hex text ≡ Ok (behind front front)
nothing_behind front text none = read_behind front front (hex text) (end_at front text none)
