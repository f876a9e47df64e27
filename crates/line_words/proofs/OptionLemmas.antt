-- Each setting of an option changes what `clap` reads of it in one place.
use Rattle.std.proofs.Common.{ap, Bor, Some, ◌≡◌, ◌∙◌}
use Rattle.clap.specs.Words.{Rule, Text, rule_of}
use Rattle.clap.specs.declared.builder.arg.Arg.{Arg}
use Rattle.clap.specs.declared.builder.texts.Texts.TheVariants.{One}

pub with_long : (old new : Arg) (name : Bor Text) (rule : Rule) → new ≡ record old
    { long = Some name } → rule_of old ≡ rule → rule_of new ≡ record rule { long = Some name.now }
with_long old new name rule set is =
    ap rule_of set ∙ ap (λ (r : Rule). record r { long = Some name.now }) is

pub with_value_name : (old new : Arg) (name : Bor Text) → new ≡ record old { val_names = One name }
    → rule_of new ≡ record (rule_of old) { value_names = 1 }
with_value_name old new name set = ap rule_of set
