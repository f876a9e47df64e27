-- Nothing was let go yet.
use Rattle.line_live.proofs.LiveSteps.{tallied_start}
use Rattle.line_live.proofs.lives.Live.new.Goals as goal

pub invariant_of-result : goal.invariant_of-result
invariant_of-result c = tallied_start c.args.n c.args.mode c.in_ok-floor.floor c.in_ok-world.world
    c.in_ok-floor.ensures c.in_ok-world.ensures.ok
