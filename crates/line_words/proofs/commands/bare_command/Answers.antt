-- The command tells its version and wants one of its subcommands.
use Rattle.std.proofs.Common.{ap, codes, true, ◌≡◌, ◌∙◌}
use Rattle.clap.specs.Words.{App, app_of, new_app}
use Rattle.clap.specs.Simple.{app_of_fields, on_top}
use Rattle.line_words.proofs.commands.bare_command.Goals as goal

-- a command that tells its version
abbrev with_version : App → App
with_version app = on_top (λ shape. record shape { has_version = true }) app

-- a command that wants one of its subcommands
abbrev with_required : App → App
with_required app = on_top (λ shape. record shape { subcommand_required = true }) app

pub returns : goal.returns
returns c =
    let told_is : app_of c.after_help.result ≡ with_version (new_app (codes "recline")) =
    ap app_of_fields c.after_help.ensures ∙ (ap app_of_fields c.about.ensures ∙
    (ap app_of_fields c.version.ensures ∙ ap with_version c.new.ensures.app)) in
    ap app_of_fields c.subcommand_required.ensures ∙ ap with_required told_is
