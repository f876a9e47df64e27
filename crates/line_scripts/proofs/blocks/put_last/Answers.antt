use Rattle.std.proofs.Common.{ap, ◌∙◌}
use Rattle.line_scripts.specs.Blocks.{commands_of_blocks}
use Rattle.line_scripts.proofs.BlockLemmas.{blocks_behind}
use Rattle.line_scripts.proofs.blocks.put_last.Goals as goal

pub returns-then-not-is_empty-clause-same : goal.returns-then-not-is_empty-clause-same
returns-then-not-is_empty-clause-same c =
    ap commands_of_blocks c.push_back_reserved.ensures.items ∙ blocks_behind c.args.others.now.items
    c.args.last
