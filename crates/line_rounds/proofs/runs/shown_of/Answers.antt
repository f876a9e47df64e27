-- What one process sent of what runs show is what its run shows.
use Rattle.std.proofs.Common.{sym, ap, ◌∙◌}
use Rattle.std.specs.Option.{option_copied}
use Rattle.line_rounds.proofs.RunLemmas.{run_or_none, shown}
use Rattle.line_rounds.proofs.runs.shown_of.Goals as goal

pub returns-in-Some : goal.returns-in-Some
returns-in-Some c =
    c.messages.ensures
    ∙ sym (shown c.args.runs.now c.args.p c.requires
    ∙ ap run_or_none (sym c.find_run.ensures ∙ ap option_copied c.in-Some.is))

pub returns-in-None : goal.returns-in-None
returns-in-None c =
    sym (shown c.args.runs.now c.args.p c.requires
    ∙ ap run_or_none (sym c.find_run.ensures ∙ ap option_copied c.in-None.is))
