-- Numbers of what is left that can be kept in the whole too, and lists that are brought back in
-- their place.
use Rattle.std.specs.Prelude.{◌+◌, ◌<◌, ◌^◌, ℕ, List, length, map}
use Rattle.std.specs.Global.{Vec}
use Rattle.std.proofs.Common.{sym, ◌∙◌}
use Rattle.std.proofs.lemmas.List.{length-map}
use Rattle.line_names.specs.declared.certificates.Passed.{Passed}
use Rattle.line_names.specs.declared.choices.Choice.{Choice}
use Rattle.line_names.specs.declared.choices.Choice.TheVariants.{Check as AtCheck, Now}
use Rattle.line_names.specs.declared.messages.MsgName.{MsgName}
use Rattle.line_names.specs.Lines.{choice_at}
use Rattle.line_cuts.specs.Cuts.{Floor, lost_checks, lost_sends}

-- the number of the message is one in the whole too
abbrev pub IsNumbered : Floor → MsgName → Type 0
IsNumbered floor message = message.number + lost_sends floor message.from < 2 ^ 32

-- so is that of the check of process p
abbrev pub IsNumberedCheck : Floor → ℕ → ℕ → Type 0
IsNumberedCheck floor p check = check + lost_checks floor p < 2 ^ 32

-- and of the check that a choice of process p is
abbrev pub IsNumberedChoice : Floor → ℕ → Choice → Type 0
IsNumberedChoice floor p (AtCheck c) = IsNumberedCheck floor p c
IsNumberedChoice floor p Now = Unit {0}

-- so are both numbers of an entry of a certificate
abbrev pub IsNumberedEntry : Floor → Passed → Type 0
IsNumberedEntry floor entry =
    IsNumberedChoice floor entry.at entry.choice × IsNumbered floor entry.message

-- and those of a line
abbrev pub IsNumberedLine : Floor → List Choice → Type 0
IsNumberedLine floor line =
    (p : ℕ) → p < length line → IsNumberedChoice floor p (choice_at line p)

-- the list in the same block, with each element mapped
abbrev pub mapped_in_place : {X : Type 0} → (X → X) → Vec X → Vec X
mapped_in_place f v = record v {
  items = map f v.items;
  ok = (v.ok.0 ∙ sym (length-map v.items f), v.ok.1);
}
