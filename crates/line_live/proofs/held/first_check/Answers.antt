-- The first check is that many lower in what is kept.
use Rattle.std.proofs.Common.{arith}
use Rattle.line_live.proofs.HeldFloors.{first_at}
use Rattle.line_live.proofs.held.first_check.Goals as goal

pub returns : goal.returns
returns c = omega (
  arith,
  c.saturating_sub.ensures,
  c.check.ensures,
  c.checks_lost.ensures,
  first_at
      c.args.floor.now c.args.p,
)
