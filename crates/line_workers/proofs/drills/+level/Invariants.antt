use Rattle.std.proofs.Common.{length}
use Rattle.line_workers.proofs.drills.+level.Given as goal

abbrev pub decreases-level : goal.decreases-level
decreases-level g l = length l.posts.items
