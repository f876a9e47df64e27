-- What the planner keeps on its way down.
use Rattle.std.specs.Prelude.{◌≡◌, ◌≢◌, ℕ, ◌<◌, ◌≤◌, ◌+◌, Bool, true, false, List, length}
use Rattle.std.specs.Prelude.{slice_set}
use Rattle.line_names.specs.declared.choices.Choice.{Choice}
use Rattle.line_names.specs.Lines.{choice_at}
use Rattle.line_names.specs.Sets.{is_member}
use Rattle.line_tape.specs.Height.{height}
use Rattle.line_tape.specs.History.{Process, tape_at}
use Rattle.line_tape.specs.Line.{events_before, AreSentBefore}
use Rattle.line_vectors.specs.Reach.{reach_before, reach_from, sents_of}
use Rattle.line_vectors.specs.Vectors.{FitsBefore}

-- none of the first n processes has received an orphan
abbrev pub AreSentBelow : List Process → List Choice → ℕ → Type 0
AreSentBelow history line n =
    (q : ℕ) → q < n → AreSentBefore history line (events_before history line q)

-- each process that is not to be visited has received no orphan
abbrev pub AreClean : List Process → List Choice → List Bool → Type 0
AreClean history line dirty =
    (q : ℕ) → q < length history → is_member dirty q ≡ false
    → AreSentBefore history line (events_before history line q)

-- the same of each process but p
abbrev pub AreCleanBut : List Process → List Choice → List Bool → ℕ → Type 0
AreCleanBut history line dirty p =
    (q : ℕ) → q < length history → q ≢ p → is_member dirty q ≡ false
    → AreSentBefore history line (events_before history line q)

-- each process that has received a message of p past the first count of its sends is to be visited
abbrev pub AreHearersDirty : List Process → ℕ → ℕ → List Bool → Type 0
AreHearersDirty history p count dirty =
    (q : ℕ) → q < length history → is_member dirty q ≡ false
    → reach_from (tape_at history q) p ≤ count

-- those that were to be visited are so still
abbrev pub AreStillDirty : List Bool → List Bool → Type 0
AreStillDirty old new = (q : ℕ) → is_member new q ≡ false → is_member old q ≡ false

-- the lines differ at process p alone
abbrev pub IsSameBut : List Choice → List Choice → ℕ → Type 0
IsSameBut old new p = new ≡ slice_set old p (choice_at new p)

-- the line stays with its entries, or it is lower and has more of them, which its height pays for
pub record IsMoved (history : List Process) (old : List Choice) (entries : ℕ) (lowered : Bool)
    (new : List Choice) (entries' : ℕ) : Type 0 where
  pub same_line : lowered ≡ false → new ≡ old
  pub same_entries : lowered ≡ false → entries' ≡ entries
  pub more_entries : lowered ≡ true → entries < entries'
  pub paid : entries' + height history new ≤ entries + height history old

-- of the first k lanes of process q's vector at its choice none is beyond its process's count of
-- sends
abbrev pub AreFirstSent : List Process → List Choice → ℕ → ℕ → Type 0
AreFirstSent history line q k =
    FitsBefore (reach_before history q (choice_at line q)) (sents_of history line) k
