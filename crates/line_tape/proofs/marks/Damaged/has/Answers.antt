-- A look into the tree tells whether the check was marked.
use Rattle.std.proofs.Common.{◌∙◌, ap}
use Rattle.std.specs.Prelude.{◌==◌}
use Rattle.std.specs.List.{list_any}
use Rattle.line_tape.proofs.MarkedLemmas.{has_marked}
use Rattle.line_tape.proofs.marks.Damaged.has.Goals as goal

pub returns : goal.returns
returns c =
    c.contains_key.ensures ∙ has_marked c.args.check c.self.inside.numbers.entries
    ∙ ap (list_any (λ damaged. damaged == c.args.check)) c.self.view_is
