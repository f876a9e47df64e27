-- Each setting of an option changes what `clap` reads of it in one place.
use Rattle.std.proofs.Common.{ap, Bool, Bor, [], ◌∷◌, ◌≡◌, ◌∙◌}
use Rattle.clap.specs.Words.{Rule, Text, rule_of}
use Rattle.clap.specs.declared.builder.arg.Arg.{Arg}
use Rattle.clap.specs.declared.builder.texts.Texts.TheVariants.{One}
use Rattle.line_words.proofs.OptionLemmas.{with_long, with_value_name}
use Rattle.line_words.proofs.commands.option_of.Goals as goal

with_default : (old new : Arg) (text : Bor Text) → new ≡ record old { default_vals = One text }
    → rule_of new ≡ record (rule_of old) { defaults = text.now ∷ [] }
with_default old new text set = ap rule_of set

abbrev global : Arg → Bool
global a = a.global

pub returns-clause-rule : goal.returns-clause-rule
returns-clause-rule c =
    ap rule_of c.help.ensures
    ∙ with_default c.value_name.result c.default_value.result c.args.default c.default_value.ensures
    ∙ ap (λ (r : Rule). record r { defaults = c.args.default.now ∷ [] })
    (with_value_name c.long.result c.value_name.result c.args.value c.value_name.ensures)
    ∙ ap (λ (r : Rule). record r { value_names = 1; defaults = c.args.default.now ∷ [] })
    (with_long c.new.result c.long.result c.args.name _ c.long.ensures c.new.ensures.rule)

pub returns-clause-local : goal.returns-clause-local
returns-clause-local c = ap global c.help.ensures ∙ ap global c.default_value.ensures ∙ ap global
    c.value_name.ensures ∙ ap global c.long.ensures ∙ c.new.ensures.optional.1
