use Rattle.line_scripts.proofs.NameLemmas.{no_command}
use Rattle.line_scripts.proofs.commands.command_in.Goals as goal

pub returns-in_default-clause-exact : goal.returns-in_default-clause-exact
returns-in_default-clause-exact c =
    no_command c.args.n c.args.row.now c.field.result.now c.field.ensures c.in_default.ensures.none
