-- The machine that was saved, and why none is opened of what a text spells.
use Rattle.std.specs.Prelude.{◌≡◌, ℕ, ⊤, List, map}
use Rattle.line_catalogue.specs.declared.refusals.CatalogueError.{CatalogueError}
use Rattle.line_catalogue.specs.declared.refusals.CatalogueError.TheVariants as unmade
use Rattle.line_catalogue.specs.Agreement.{Agrees}
use Rattle.line_catalogue.specs.Damage.{AreOnChecks}
use Rattle.line_claims.specs.declared.faults.TextError.{TextError}
use Rattle.line_claims.specs.declared.faults.TextError.TheVariants as text_errors
use Rattle.line_claims.specs.Saved.{SavedParts}
use Rattle.line_cuts.specs.Cuts.{Floor}
use Rattle.line_live.specs.declared.refusals.ResumeError.{ResumeError}
use Rattle.line_live.specs.Lives.{LiveMachine}
use Rattle.line_live.specs.Resumed.{CheckedRound, IsResumable, IsResumeRefused, resumed_machine}
use Rattle.line_text.specs.declared.openings.OpenError.{OpenError}
use Rattle.line_text.specs.declared.openings.OpenError.TheVariants as causes

-- what was let go of each process, as the floor that it was let go before
abbrev pub saved_floor : List (ℕ × ℕ) → ℕ → Floor
saved_floor floors last = record {
  checks = map (λ (one : ℕ × ℕ). one.0) floors;
  sends = map (λ (one : ℕ × ℕ). one.1) floors;
  round = last;
}

-- a listed round by its number and its checks
abbrev pub round_of_saved : ℕ × List ℕ → CheckedRound
round_of_saved round = record { number = round.0; checks = round.1 }

-- listed rounds so
abbrev pub rounds_of_saved : List (ℕ × List ℕ) → List CheckedRound
rounds_of_saved rounds = map round_of_saved rounds

-- the machine that goes on from what was saved
abbrev pub opened : SavedParts → LiveMachine
opened parts = record {
  floor = saved_floor parts.floors parts.last;
  kept = resumed_machine parts.history parts.marks parts.last (rounds_of_saved parts.rounds);
}

-- a machine may have these parts, whatever names there are
abbrev pub IsResumed : SavedParts → Type 0
IsResumed parts =
    IsResumable parts.history parts.marks (saved_floor parts.floors parts.last) parts.last
    (rounds_of_saved parts.rounds)

-- none has these parts, by this cause
abbrev pub IsResumeRefusedOf : SavedParts → ResumeError → Type 0
IsResumeRefusedOf parts cause =
    IsResumeRefused parts.history parts.marks (saved_floor parts.floors parts.last) parts.last
    (rounds_of_saved parts.rounds) cause

-- a machine has these parts
pub record IsOpenable (parts : SavedParts) : Type 0 where
  pub checks : AreOnChecks parts.history parts.marks
  pub names : Agrees parts.history
  pub resumed : IsResumed parts

-- why no machine is opened of these parts: the first of these that is so, unless memory is out
abbrev pub IsUnopened : SavedParts → OpenError → Type 0
IsUnopened parts causes.OutOfMemory = ⊤
IsUnopened parts causes.NoSuchCheck = AreOnChecks parts.history parts.marks → ⊥
IsUnopened parts causes.NamesDisagree =
    AreOnChecks parts.history parts.marks × (Agrees parts.history → ⊥)
IsUnopened parts causes.BadShape =
    AreOnChecks parts.history parts.marks × Agrees parts.history
    × ((cause : ResumeError) × IsResumeRefusedOf parts cause)

-- why there is no catalogue, as a cause of this
abbrev pub catalogue_cause : CatalogueError → OpenError
catalogue_cause unmade.OutOfMemory = causes.OutOfMemory
catalogue_cause unmade.NoSuchCheck = causes.NoSuchCheck
catalogue_cause unmade.NamesDisagree = causes.NamesDisagree

-- the number of a cause
abbrev pub open_code : OpenError → ℕ
open_code causes.OutOfMemory = 0
open_code causes.NoSuchCheck = 4
open_code causes.NamesDisagree = 38
open_code causes.BadShape = 16

-- the fault of the text whose last record has that number
abbrev pub open_fault : ℕ → OpenError → TextError
open_fault number causes.OutOfMemory = text_errors.OutOfMemory
open_fault number causes.NoSuchCheck =
    text_errors.Fault (record { record_number = number; code = 4 })
open_fault number causes.NamesDisagree =
    text_errors.Fault (record { record_number = number; code = 38 })
open_fault number causes.BadShape =
    text_errors.Fault (record { record_number = number; code = 16 })
