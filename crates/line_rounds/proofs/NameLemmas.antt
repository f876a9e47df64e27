-- Names of messages are the same where their fields are.
use Rattle.std.proofs.Common.{◌≡◌, Decides, ap}
use Rattle.std.specs.Prelude.{◌==◌}
use Rattle.std.proofs.lemmas.Bool.Decides.{Decides-and, Decides-eqb, Decides-like}
use Rattle.line_names.specs.declared.messages.MsgName.{MsgName}
use Rattle.line_names.specs.contracts.messages.MsgNamePartialEq.TheImpl.{eq-value}

name_same : (a b : MsgName) → a.from ≡ b.from → a.inc ≡ b.inc → a.number ≡ b.number → a ≡ b
name_same a b from inc number = λ i. record { from = from i; inc = inc i; number = number i }

-- the derived test of two names
pub name-Decides : (a b : MsgName) → Decides (eq-value.it a b) (a ≡ b)
name-Decides a b =
    Decides-like (eq-value.it a b) (λ h. name_same a b h.0 h.1.0 h.1.1)
    (λ e. (
      ap (λ (m : MsgName). m.from) e,
      (ap (λ (m : MsgName). m.inc) e, ap (λ (m : MsgName). m.number) e),
    ))
    (Decides-and (a.from == b.from) _ (Decides-eqb a.from b.from)
    (Decides-and (a.inc == b.inc) (a.number == b.number) (Decides-eqb a.inc b.inc)
    (Decides-eqb a.number b.number)))
