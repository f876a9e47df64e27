-- What a source and a sink tell of the bytes that a call moves.
use Rattle.std.specs.Prelude.{◌≡◌, ◌==◌, ◌+◌, ◌-◌, ◌^◌, ◌++◌, ℕ, List, [], Option, Some, None}
use Rattle.std.specs.Prelude.{if◌then◌else◌, min, ⊤, OnErr, OnOk, Result}
use Rattle.line_devices.specs.declared.devices.DeviceFault.{DeviceFault}

-- these bytes came, and were the first of those that were left
abbrev pub Fills : Option (List ℕ) → Option (List ℕ) → List ℕ → Type 0
Fills None new bytes = ⊤
Fills (Some old) None bytes = ⊥
Fills (Some old) (Some new) bytes = old ≡ bytes ++ new

-- what is left is the end of what was left, perhaps all of it or none
abbrev pub FillsFront : Option (List ℕ) → Option (List ℕ) → Type 0
FillsFront None new = ⊤
FillsFront (Some old) None = ⊥
FillsFront (Some old) (Some new) = (bytes : List ℕ) × (old ≡ bytes ++ new)

-- nothing is left
abbrev pub IsDone : Option (List ℕ) → Type 0
IsDone None = ⊤
IsDone (Some left) = left ≡ []

-- these bytes were taken, after those that were taken before
abbrev pub Puts : Option (List ℕ) → Option (List ℕ) → List ℕ → Type 0
Puts None new bytes = ⊤
Puts (Some old) None bytes = ⊥
Puts (Some old) (Some new) bytes = new ≡ old ++ bytes

-- a prefix of these bytes was taken, perhaps all of them or none
abbrev pub PutsFront : Option (List ℕ) → Option (List ℕ) → List ℕ → Type 0
PutsFront None new bytes = ⊤
PutsFront (Some old) None bytes = ⊥
PutsFront (Some old) (Some new) bytes =
    (front : List ℕ) × (rest : List ℕ) × (bytes ≡ front ++ rest) × (new ≡ old ++ front)

-- a text was put but for its end, which is held
pub record PutsButEnd (old new : Option (List ℕ)) (held text : List ℕ) : Type 0 where
  pub front : List ℕ
  pub put : Puts old new front
  pub parts : text ≡ front ++ held

-- a count of faults or of ends after one more, which stays at its greatest value
abbrev pub one_more : ℕ → ℕ
one_more count = min (count + 1) (2 ^ 64 - 1)

-- how often a source gave nothing, after a call that gave so many bytes
abbrev pub ends_after : ℕ → ℕ → ℕ
ends_after bytes ends = if bytes == 0 then one_more ends else ends

-- what a call that writes after what is held did with its sink: the text is put but for its end,
-- which is held; where the sink failed a prefix of the text is put, and one fault more is counted
pub record Outputs {A : Type 0} (result : Result A DeviceFault) (old new : Option (List ℕ))
    (faults later : ℕ) (held text : List ℕ) : Type 0 where
  pub ok : OnOk result (PutsButEnd old new held text)
  pub err : OnErr result (PutsFront old new text)
  pub sound : OnOk result (later ≡ faults)
  pub failed : OnErr result (later ≡ one_more faults)
