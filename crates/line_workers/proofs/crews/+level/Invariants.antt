use Rattle.std.proofs.Common.{length}
use Rattle.line_workers.proofs.crews.+level.Given as goal

abbrev pub decreases-level : goal.decreases-level
decreases-level g l = length l.posts.items
