-- When the test of two names says that they are one.
use Rattle.std.proofs.Common.{◌≡◌, ℕ, true, ap, ◌∙◌}
use Rattle.std.specs.Prelude.{◌==◌, ◌&&◌}
use Rattle.std.specs.Cmp.Derive.{both_true}
use Rattle.std.proofs.lemmas.Bool.{and_parts, eqb-true, eq-eqb}
use Rattle.line_names.specs.declared.messages.MsgName.{MsgName}
use Rattle.line_names.specs.Names.{is_name}

abbrev name_of : ℕ → ℕ → ℕ → MsgName
name_of from inc number = record { from = from; inc = inc; number = number }

-- a test that passes says that the names are one
pub is_name-true : (a b : MsgName) → is_name a b ≡ true → a ≡ b
is_name-true a b h =
    let outer = and_parts (a.from == b.from) ((a.inc == b.inc) && (a.number == b.number)) h in
    let inner = and_parts (a.inc == b.inc) (a.number == b.number) outer.1 in
    let from : a.from ≡ b.from = eqb-true a.from b.from outer.0 in
    let inc : a.inc ≡ b.inc = eqb-true a.inc b.inc inner.0 in
    let number : a.number ≡ b.number = eqb-true a.number b.number inner.1 in
    ap (λ x. name_of x a.inc a.number) from ∙ ap (λ x. name_of b.from x a.number) inc ∙ ap
    (λ x. name_of b.from b.inc x) number

-- a name passes the test with itself
pub is_name-same : (a b : MsgName) → a ≡ b → is_name a b ≡ true
is_name-same a b h =
    both_true (eq-eqb a.from b.from (ap (λ (m : MsgName). m.from) h))
    (both_true (eq-eqb a.inc b.inc (ap (λ (m : MsgName). m.inc) h))
    (eq-eqb a.number b.number (ap (λ (m : MsgName). m.number) h)))
