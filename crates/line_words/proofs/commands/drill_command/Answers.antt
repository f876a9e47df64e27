-- The subcommand for drills that is built is the one that the definition says.
use Rattle.std.proofs.Common.{rules, ap, ap₂, codes, false, ◌||◌, ◌≡◌, ◌∙◌}
use Rattle.std.proofs.lemmas.Result.{IfOk-weaker}
use Rattle.clap.specs.Words.{app_of, new_app, rule_of, with_rule}
use Rattle.clap.specs.Simple.{app_of_fields}
use Rattle.clap.specs.declared.builder.command.Command.TheOpen.{Command-F}
use Rattle.clap.specs.declared.builder.command.Command.TheViews.{out-Command}
use Rattle.clap.specs.declared.builder.command.Command.{Command}
use Rattle.line_words.specs.Words.{option}
use Rattle.line_words.proofs.commands.drill_command.Goals as goal

pub returns-clause-shape : goal.returns-clause-shape
returns-clause-shape c =
    let workers_is : rule_of c.option_of.result
    ≡ option (codes "workers") (codes "2") = c.option_of.ensures.rule in
    let rounds_is : rule_of c.option_of-2.result
    ≡ option (codes "rounds") (codes "1") = c.option_of-2.ensures.rule in
    let bare_is : app_of c.about.result
    ≡ new_app (codes "drill") = ap app_of_fields c.about.ensures ∙ c.new.ensures.app in
    let with_workers_is : app_of c.in_ok-with_workers.with_workers
    ≡ with_rule (new_app (codes "drill")) (option (codes "workers") (codes "2")) =
    c.in_ok-with_workers.ensures.shape (search rules) ∙ ap₂ with_rule bare_is workers_is in
    IfOk-weaker c.arg-2.result _ _ (λ command h. h.shape
    (search rules) ∙ ap₂ with_rule with_workers_is rounds_is) c.arg-2.ensures

pub returns-clause-local : goal.returns-clause-local
returns-clause-local c =
    let bare : (out-Command c.about.result).has_globals ≡ false = ap
    (λ (f : Command-F Command). f.has_globals) c.about.ensures ∙ c.new.ensures.local in
    IfOk-weaker c.arg-2.result _ _
    (λ command h. h.globals ∙ ap₂ ◌||◌ (c.in_ok-with_workers.ensures.globals ∙ ap₂ ◌||◌ bare
    c.option_of.ensures.local) c.option_of-2.ensures.local) c.arg-2.ensures
