-- The command has the subcommands that the definition says.
use Rattle.std.proofs.Common.{ap, ap₂, codes, ◌≡◌, ◌∙◌}
use Rattle.std.proofs.lemmas.Result.{IfOk-weaker}
use Rattle.clap.specs.Words.{App, Shape, app_of, new_app, with_subcommand}
use Rattle.line_words.specs.Words.{as_program, serve_subcommand, with_bare}
use Rattle.line_words.proofs.commands.recline_command.Goals as goal

abbrev top : App → Shape
top a = a.top

-- the program with the first one, two, three and four of its subcommands
abbrev with_run : App
with_run = with_bare (as_program (new_app (codes "recline"))) (codes "run")

abbrev with_serve : App
with_serve = with_subcommand with_run serve_subcommand.top

abbrev with_collect : App
with_collect = with_bare with_serve (codes "collect")

abbrev with_check : App
with_check = with_bare with_collect (codes "check")

pub returns : goal.returns
returns c =
    let run_is : app_of c.in_ok-with_run.with_run
    ≡ with_run = c.in_ok-with_run.ensures.shape c.plain_command.ensures.local ∙ ap₂
    with_subcommand c.bare_command.ensures (ap top c.plain_command.ensures.shape) in
    let serve_is : app_of c.in_ok-with_serve.with_serve
    ≡ with_serve = c.in_ok-with_serve.ensures.shape c.in_ok-serve_command.ensures.local ∙ ap₂
    with_subcommand run_is (ap top c.in_ok-serve_command.ensures.shape) in
    let collect_is : app_of c.in_ok-with_collect.with_collect
    ≡ with_collect = c.in_ok-with_collect.ensures.shape c.plain_command-reports.ensures.local ∙
    ap₂ with_subcommand serve_is (ap top c.plain_command-reports.ensures.shape) in
    let check_is : app_of c.in_ok-with_check.with_check
    ≡ with_check = c.in_ok-with_check.ensures.shape c.plain_command-2.ensures.local ∙ ap₂
    with_subcommand collect_is (ap top c.plain_command-2.ensures.shape) in
    IfOk-weaker c.subcommand-5.result _ _
    (λ command h. h.shape c.in_ok-drill_command.ensures.local ∙ ap₂ with_subcommand check_is
    (ap top c.in_ok-drill_command.ensures.shape)) c.subcommand-5.ensures
