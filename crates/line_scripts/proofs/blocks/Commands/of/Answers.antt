use Rattle.std.proofs.Common.{◌∷◌, List, ap, arith, length, subst}
use Rattle.std.specs.List.{AllByRecursion}
use Rattle.line_scripts.specs.declared.blocks.Block.{Block}
use Rattle.line_scripts.specs.Blocks.{HasCommand}
use Rattle.line_scripts.proofs.BlockLemmas.{few_in, full_ones_have}
use Rattle.line_scripts.proofs.blocks.Commands.of.Goals as goal

pub returns-in_default-clause-few : goal.returns-in_default-clause-few
returns-in_default-clause-few c = omega (
  arith,
  ap length c.blocks-2.view_is,
  few_in
      c.blocks-2.inside.full.items c.blocks-2.inside.last c.blocks-2.invariant,
)

pub put_last-requires-clause-others : goal.put_last-requires-clause-others
put_last-requires-clause-others c =
    let all : AllByRecursion HasCommand (c.in-Some.block ∷ c.pop_front.new.self.items) =
    subst (λ (bs : List Block). AllByRecursion HasCommand bs) c.in-Some.ensures.items
    (full_ones_have c.blocks-2.inside.full.items c.blocks-2.invariant.each) in
    all.1

pub returns-clause-few : goal.returns-clause-few
returns-clause-few c = omega (
  arith,
  ap length c.blocks-2.view_is,
  few_in
      c.blocks-2.inside.full.items c.blocks-2.inside.last c.blocks-2.invariant,
)
