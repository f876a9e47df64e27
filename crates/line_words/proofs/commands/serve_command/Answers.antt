-- The subcommand for records that come one by one that is built is the one that the definition
-- says.
use Rattle.std.proofs.Common.{rules, ap₂, ◌||◌, ◌∙◌}
use Rattle.std.proofs.lemmas.Result.{IfOk-weaker}
use Rattle.clap.specs.Words.{with_rule}
use Rattle.line_words.proofs.commands.serve_command.Goals as goal

pub returns-clause-shape : goal.returns-clause-shape
returns-clause-shape c =
    IfOk-weaker c.arg.result _ _ (λ command h. h.shape (search rules) ∙ ap₂ with_rule
    c.plain_command-bare.ensures.shape c.own_option_of.ensures.rule) c.arg.ensures

pub returns-clause-local : goal.returns-clause-local
returns-clause-local c =
    IfOk-weaker c.arg.result _ _ (λ command h. h.globals ∙ ap₂ ◌||◌
    c.plain_command-bare.ensures.local c.own_option_of.ensures.local) c.arg.ensures
