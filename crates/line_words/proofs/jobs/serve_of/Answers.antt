use Rattle.std.proofs.Common.{codes, refl, ◌∙◌}
use Rattle.clap.specs.Words.{found_of}
use Rattle.clap.proofs.WalkLemmas.{first_value-rows}
use Rattle.line_words.proofs.jobs.serve_of.Goals as goal

pub returns : goal.returns
returns c =
    (refl, c.get_str.ensures ∙ first_value-rows (found_of c.args.options.now) (codes "from"))
