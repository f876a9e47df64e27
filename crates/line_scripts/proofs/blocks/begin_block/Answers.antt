use Rattle.std.proofs.Common.{◌≡◌, ◌∙◌, ◌++◌, ◌∷◌, [], List, ap}
use Rattle.line_scripts.specs.declared.blocks.Block.{Block}
use Rattle.line_scripts.proofs.BlockLemmas.{same_begun}
use Rattle.line_scripts.proofs.blocks.begin_block.Goals as goal

pub returns-clause-same : goal.returns-clause-same
returns-clause-same c =
    let more : c.push_back_reserved.new.self.items ≡ c.args.full.now.items ++ c.args.last.now ∷ [] =
    c.push_back_reserved.ensures.items ∙ ap
    (λ (bs : List Block). bs ++ c.replace.result ∷ []) c.reserve.ensures.items ∙ ap
    (λ (b : Block). c.args.full.now.items ++ b ∷ []) c.replace.ensures.value in
    let none : c.replace.new.dest.kept.items ≡ [] = ap (λ (b : Block). b.kept.items)
    c.replace.ensures.after ∙ c.in_ok-with_capacity.ensures.items in
    same_begun c.args.full.now.items c.push_back_reserved.new.self.items c.args.last.now
    c.replace.new.dest more none
