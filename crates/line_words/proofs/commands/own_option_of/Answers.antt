-- Each setting of an option changes what `clap` reads of it in one place.
use Rattle.std.proofs.Common.{ap, Bool, ◌∙◌}
use Rattle.clap.specs.Words.{Rule, rule_of}
use Rattle.clap.specs.declared.builder.arg.Arg.{Arg}
use Rattle.line_words.proofs.OptionLemmas.{with_long, with_value_name}
use Rattle.line_words.proofs.commands.own_option_of.Goals as goal

abbrev global : Arg → Bool
global a = a.global

pub returns-clause-rule : goal.returns-clause-rule
returns-clause-rule c =
    ap rule_of c.help.ensures
    ∙ with_value_name c.long.result c.value_name.result c.args.value c.value_name.ensures
    ∙ ap (λ (r : Rule). record r { value_names = 1 })
    (with_long c.new.result c.long.result c.args.name _ c.long.ensures c.new.ensures.rule)

pub returns-clause-local : goal.returns-clause-local
returns-clause-local c = ap global c.help.ensures ∙ ap global c.value_name.ensures ∙ ap global
    c.long.ensures ∙ c.new.ensures.optional.1
