-- What a call that reads its whole input tells of the input's end, and how far a text was read.
use Rattle.std.specs.Prelude.{◌≡◌, ◌≢◌, ◌⊎◌, ◌++◌, ℕ, List, length, take, Option, Result, Ok, Err}
use Rattle.line_fields.specs.Records.{EndsLine}
use Rattle.line_claims.specs.declared.faults.TextFault.{TextFault}
use Rattle.line_claims.specs.Reads.{no_memory}
use Rattle.line_devices.specs.Devices.{Fills, one_more}
use Rattle.line_claims.specs.Readings.{CheckPlace, EndsBefore, text_left}
use Rattle.line_claims.specs.Texts.{check_of_text}
use Rattle.line_scripts.specs.Pieces.{ScriptPlace, script_text_left}
use Rattle.line_scripts.specs.RunScripts.{run_script_of_text}
use Rattle.line_text.specs.declared.ends.TheConstants.{READ_FAULT}
use Rattle.line_text.specs.declared.windows.Window.{Window}

-- a source said once that nothing is left; it did not where reading failed, nor, perhaps, where
-- memory was wanting
abbrev pub HearsEnd : {A : Type 0} → Result A TextFault → ℕ → ℕ → Type 0
HearsEnd (Ok done) old new = new ≡ one_more old
HearsEnd (Err fault) old new =
    (fault.code ≡ READ_FAULT → new ≡ old)
    × (fault.code ≢ READ_FAULT → (new ≡ one_more old) ⊎ ((fault ≡ no_memory) × (new ≡ old)))

-- the bytes that wait in a window
abbrev pub waiting : Window → List ℕ
waiting window = take window.held window.bytes.items

-- bytes that a source gave stand after those that wait
pub record HasHeard (count : ℕ) (old new : List ℕ) (left later : Option (List ℕ)) : Type 0 where
  pub bytes : List ℕ
  pub long : length bytes ≡ count
  pub behind : new ≡ old ++ bytes
  pub moved : Fills left later bytes

-- a text was read so far: its whole lines were taken, and the rest of it waits
pub record IsReadTo (text held : List ℕ) (HasTaken : List ℕ → Type 0) : Type 0 where
  pub lines : List ℕ
  pub ends : EndsLine lines
  pub parts : text ≡ lines ++ held
  pub taken : HasTaken lines

-- a source gave a text of so many bytes, which was read so far
pub record HasCome (old new : Option (List ℕ)) (long : ℕ) (held : List ℕ)
    (HasTaken : List ℕ → Type 0) : Type 0 where
  pub text : List ℕ
  pub moved : Fills old new text
  pub counted : length text ≡ long
  pub read : IsReadTo text held HasTaken

-- what is still to come of a check text that begins with this one is read as it is of the whole
abbrev pub HasTakenCheck : CheckPlace → List ℕ → Type 0
HasTakenCheck place text =
    (rest : List ℕ) → EndsBefore text rest → check_of_text (text ++ rest) ≡ text_left place rest

-- what is still to come of a script that begins with this text is read as it is of the whole
abbrev pub HasTakenScript : ScriptPlace → List ℕ → Type 0
HasTakenScript place text =
    (rest : List ℕ) → EndsBefore text rest
    → run_script_of_text (text ++ rest) ≡ script_text_left place rest
