-- There are sixteen blocks at most.
use Rattle.std.proofs.Common.{◌≡◌, ◌≤◌, length, arith, rules}
use Rattle.line_tape.specs.Ends.{block_count}
use Rattle.line_tape.proofs.EndLemmas.{taken_le}
use Rattle.line_tape.proofs.receipts.ends.LastLinks.reserve.Goals as goal

pub overflow_sub-further : goal.overflow_sub-further
overflow_sub-further c =
    let sixteen : length c.self.inside.blocks ≡ 16 = search rules in
    let few : block_count c.self.inside.blocks ≤ length c.self.inside.blocks = taken_le
    c.self.inside.blocks in
    omega (arith, c.self.invariant.full, c.len.ensures, c.self.inside.links.ok.0)
