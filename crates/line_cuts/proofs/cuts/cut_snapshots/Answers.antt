use Rattle.line_cuts.proofs.SnapshotCuts.{snapshot_cut}
use Rattle.line_cuts.proofs.cuts.cut_snapshots.Goals as goal

pub returns : goal.returns
returns c history floor indices channels fit is above snapshot =
    snapshot_cut floor history indices channels fit is above snapshot
