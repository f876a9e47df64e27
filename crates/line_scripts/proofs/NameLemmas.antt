-- A first field that is the name of no command.
use Rattle.std.proofs.Common.{◌≡◌, ◌≢◌, ℕ, List, false, Err, refl, sym, inl, inr}
use Rattle.std.specs.Str.{bytes_eq}
use Rattle.std.proofs.lemmas.Bool.{cases_Bool}
use Rattle.std.proofs.lemmas.Slice.Eq.{bytes_eq-Decides}
use Rattle.line_fields.specs.declared.faults.Fault.TheVariants as faults
use Rattle.line_fields.specs.Records.{Record, field}
use Rattle.line_scripts.specs.declared.names.Name.{Name}
use Rattle.line_scripts.specs.declared.names.Name.TheVariants as names
use Rattle.line_scripts.specs.Names.{name_text}
use Rattle.line_scripts.specs.Scripts.{command_in}

other_text : (xs ys : List ℕ) → xs ≢ ys → bytes_eq xs ys ≡ false
other_text xs ys other = elim (cases_Bool (bytes_eq xs ys))
    [ inl e ↦ absurd (other ((bytes_eq-Decides xs ys).0 e)) | inr e ↦ e ]

named_otherwise : (n : ℕ) (r : Record) → ((name : Name)
    → bytes_eq (field r 0) (name_text name) ≡ false) → command_in n r ≡ Err faults.BadRecord
unfolding command_in
named_otherwise n r other =
    rw (
      other names.Send,
      other names.Deliver,
      other names.Check,
      other names.Begin,
      other names.Turn,
      other names.Damage,
      other names.Bar,
      other names.Recover,
      other names.Rounds,
      other names.History,
      other names.Bundle,
      other names.Plan,
      other names.Live,
      other names.Answer,
      other names.Forget,
      other names.Save,
    ) refl

-- such a record spells no command
pub no_command : (n : ℕ) (r : Record) (first : List ℕ) → first ≡ field r 0
    → ((name : Name) → first ≢ name_text name) → command_in n r ≡ Err faults.BadRecord
no_command n r first is other =
    named_otherwise n r (λ name. other_text (field r 0) (name_text name) (rw (sym is) (other name)))
