use Rattle.std.proofs.Common.{◌≡◌, take}
use Rattle.std.specs.Prelude.{◌⊎◌}
use Rattle.line_workers.specs.Followed.{HasDone, HasReportedAll, WasLetOn}
use Rattle.line_workers.proofs.workers.follow.Given as goal

abbrev pub invariant-loop-k : goal.invariant-loop-k
invariant-loop-k g l = HasDone (take l.k l.script.items) l.fn.post l.post
    × WasLetOn (g.G.Gate.lets l.gate) l.script.items l.k l.fn.post
    × ((l.k ≡ 0) ⊎ HasReportedAll l.post)
